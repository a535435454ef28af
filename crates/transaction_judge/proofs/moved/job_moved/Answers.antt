use Rattle.std.proofs.Common.{Some, ap, sym, ◌∙◌}
use Rattle.queue_model.specs.Held.{holds}
use Rattle.queue_model.specs.Sights.{sees}
use Rattle.queue_model.proofs.Steps.{step_is}
use Rattle.transition_table.specs.Seen.{job_seen}
use Rattle.exec_tables.specs.Apply.{row_at}
use Rattle.transaction_judge.proofs.Following.{job_followed}
use Rattle.transaction_judge.proofs.moved.job_moved.Goals as goal

pub returns : goal.returns
returns c = λ u v h before.
    let t = c.args.step.now in
    let s = step_is u v c.args.moment t h in
    c.follow.ensures
    ∙ job_followed u v c.args.moment t s.0 s.1 c.args.id _ c.args.job c.job_then-after.result (c.as_ref.ensures.value ∙ c.job_named.ensures) before
    (λ named. c.job_then-after.ensures (sees u (holds u t)) s.0 s.1.legal (before ∙ ap (λ k. job_seen (row_at k u.jobs)) named))
