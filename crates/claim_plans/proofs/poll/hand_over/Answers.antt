use Rattle.std.specs.Prelude.{IsUtf8}
use Rattle.queue_model.specs.declared.Job.{Job}
use Rattle.claim_plans.proofs.Taking.{holds_at}
use Rattle.claim_plans.proofs.poll.hand_over.Goals as goal

pub polled-requires : goal.polled-requires
polled-requires c = holds_at (λ j. j.now) (λ (j : Job). IsUtf8 j.row.envelope) c.args.jobs.now c.loop-job.job-index c.job-item.result c.loop-job-test.true c.job-item.is c.requires
