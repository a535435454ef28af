use Rattle.std.proofs.Common.{◌≡◌}
use Rattle.queue_model.specs.Map as map
use Rattle.transition_table.specs.Seen.{job_seen}
use Rattle.transition_table.proofs.InRange.{fit}
use Rattle.transaction_judge.proofs.Trail.{in_range_at, then_more}
use Rattle.transaction_judge.proofs.after.found_after.Goals as goal

pub job_moved-job-requires : goal.job_moved-job-requires
job_moved-job-requires c = fit c.index-done-at.result (in_range_at c.args.tables.now.world c.args.moment c.args.done.now c.loop-at.at c.index-done-at.result c.index-done-at.result c.requires c.loop-at-test.true c.index-done-at.is)

pub loop-at-preserved : goal.loop-at-preserved
loop-at-preserved c =
    then_more c.args.tables.now.world c.args.moment c.args.done.now c.loop-at.at c.index-done-at.result (λ v. c.loop-at.job ≡ job_seen (map.get v.jobs c.in_ok-id.id)) (λ v. c.job_moved-job.result ≡ job_seen (map.get v.jobs c.in_ok-id.id)) c.loop-at-test.true c.index-done-at.is
    (λ u v before h p. c.job_moved-job.ensures u v h p) c.loop-at.invariant
