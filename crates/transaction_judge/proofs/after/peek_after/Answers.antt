use Rattle.std.proofs.Common.{ap, ◌∙◌, arith}
use Rattle.transition_table.specs.Seen.{job_seen}
use Rattle.exec_tables.specs.Apply.{row_at}
use Rattle.transaction_judge.specs.Peek.{Peeks}
use Rattle.transition_table.proofs.InRange.{fit}
use Rattle.transaction_judge.proofs.Trail.{first_legal, in_range_at, then_more}
use Rattle.transaction_judge.proofs.after.peek_after.Goals as goal

pub found_after-job-requires : goal.found_after-job-requires
found_after-job-requires c = first_legal c.args.tables.now.world c.args.moment c.args.done.now c.loop-at.at c.requires

pub moved-peek-requires-clause-fit : goal.moved-peek-requires-clause-fit
moved-peek-requires-clause-fit c = fit c.index-done-at.result (in_range_at c.args.tables.now.world c.args.moment c.args.done.now c.loop-at.at c.index-done-at.result c.index-done-at.result c.requires c.loop-at-test.true c.index-done-at.is)

pub loop-at-preserved : goal.loop-at-preserved
loop-at-preserved c =
    let holders = c.moved-peek.ensures.holders in
    let claims = c.moved-peek.ensures.claims in
    record {
      so = then_more c.args.tables.now.world c.args.moment c.args.done.now c.loop-at.at c.index-done-at.result (λ v. Peeks v c.args.held.now c.args.generation c.loop-at.peek) (λ v. Peeks v c.args.held.now c.args.generation c.moved-peek.result) c.loop-at-test.true c.index-done-at.is
          (λ u v before h p. c.moved-peek.ensures.is u v h (c.found_after-job.ensures u before ∙ ap (λ k. job_seen (row_at k u.jobs)) c.job_named.ensures) p) c.loop-at.invariant.so;
      holders = omega (arith, holders);
      claims = omega (arith, claims);
    }
