use Rattle.std.proofs.Common.{sym, ◌∙◌}
use Rattle.queue_model.specs.Held.{holds}
use Rattle.queue_model.specs.Sights.{sees}
use Rattle.transaction_judge.proofs.Trail.{step_legal}
use Rattle.transaction_judge.proofs.allows_after.Goals as goal

pub returns-then-is_in_range : goal.returns-then-is_in_range
returns-then-is_in_range c = λ v h.
    c.allows.ensures (sees v (holds v c.args.step.now)) (c.sight_after.ensures v h) ∙ step_legal v c.args.moment c.args.step.now (sym c.is_in_range.ensures.exact ∙ c.if-is_in_range.true)
