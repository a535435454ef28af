-- The transitions of a legal transaction are within their ranges.
use Rattle.std.proofs.Common.{◌≡◌, ℕ, List, [], ◌∷◌, Some}
use Rattle.std.specs.Prelude.{All, IsTrue}
use Rattle.std.proofs.lemmas.List.Elements.{All-cons, All-nil}
use Rattle.job_states.specs.Moment.{is_moment}
use Rattle.job_states.specs.Ranges.{is_in_range}
use Rattle.job_states.specs.declared.transition.Transaction.{Transaction}
use Rattle.job_states.specs.declared.transition.Transition.{Transition}
use Rattle.queue_model.specs.Replay.{after, steps}
use Rattle.queue_model.specs.Transitions.{step}
use Rattle.queue_model.specs.World.{World}
use Rattle.queue_model.proofs.Steps.{passed, step_is, then}

steps_in_range : (w end : World) (m : ℕ) (ts : List Transition) → steps w m ts ≡ Some end → All (λ t. IsTrue (is_in_range t)) ts
steps_in_range w end m [] h = All-nil (λ t. IsTrue (is_in_range t))
steps_in_range w end m (t ∷ ts) h =
    let first = then (step w m t) (λ u. steps u m ts) end h in
    All-cons (λ t. IsTrue (is_in_range t)) t ts (step_is w first.0 m t first.1).1.in_range (steps_in_range first.0 end m ts first.2)

pub all_in_range : (w end : World) (tx : Transaction) → after w tx ≡ Some end → All (λ t. IsTrue (is_in_range t)) tx.steps
all_in_range w end tx h = steps_in_range w end tx.moment tx.steps (passed (is_moment tx.moment) (steps w tx.moment tx.steps) end h).1
