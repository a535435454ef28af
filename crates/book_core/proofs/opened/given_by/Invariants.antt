use Rattle.std.proofs.Common.{◌≡◌, drop}
use Rattle.std.specs.Prelude.{fold}
use Rattle.queue_model.specs.Named.{noted}
use Rattle.book_core.proofs.opened.given_by.Given as goal

abbrev pub invariant-loop-step : goal.invariant-loop-step
invariant-loop-step l = fold (λ n t. noted n l.tx.moment t) l.given (drop l.step-index l.step-items) ≡ fold (λ n t. noted n l.tx.moment t) l.initial.given l.step-items
