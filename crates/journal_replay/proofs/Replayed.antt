-- A replay, transaction by transaction.
use Rattle.std.proofs.Common.{◌≡◌, true, false, List, [], ◌∷◌, ◌++◌, Option, None, Some, is_some, ap, ◌∙◌, sym, refl}
use Rattle.std.proofs.lemmas.Bool.{true≢false}
use Rattle.job_states.specs.declared.transition.Transaction.{Transaction}
use Rattle.queue_model.specs.Chain.{◌>>=◌}
use Rattle.queue_model.specs.Replay.{after, replay}
use Rattle.queue_model.specs.World.{World}
use Rattle.queue_model.proofs.Steps.{same_Some, then}

pub nothing : {A : Type 0} (o : Option A) → is_some o ≡ false → o ≡ None
nothing None no_one = refl
nothing (Some x) no_one = absurd (true≢false no_one)

pub something : {A : Type 0} (o : Option A) → is_some o ≡ true → (x : A) × (o ≡ Some x)
something None one = absurd (true≢false (sym one))
something (Some x) one = (x, refl)

-- one list of transactions, and then another one
pub in_turn : (w v : World) (xs ys : List Transaction) → replay w xs ≡ Some v → replay w (xs ++ ys) ≡ replay v ys
in_turn w v [] ys e = ap (λ u. replay u ys) (same_Some w v e)
in_turn w v (tx ∷ xs) ys e =
    let first = then (after w tx) (λ u. replay u xs) v e in
    ap (λ o. o >>= (λ u. replay u (xs ++ ys))) first.1 ∙ in_turn first.0 v xs ys first.2
