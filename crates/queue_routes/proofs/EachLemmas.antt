-- What is read of items one after the other, as a loop does.
use Rattle.std.proofs.Common.{◌≡◌, ◌⊎◌, ◌<◌, ◌≤◌, ℕ, suc, inl, inr, Result, Ok, Err, List, [], ◌∷◌, ◌++◌, length, get_or, drop, refl, sym, ap, ◌∙◌, subst, append_assoc}
use Rattle.std.proofs.lemmas.List.{append-nil, drop_all}
use Rattle.std.proofs.Math.Seq.{drop-cons}
use Rattle.serde_json.specs.Data.{Data, item}
use Rattle.serde_json.specs.View.{view, items_view}
use Rattle.serde_json.specs.declared.value.Value.{Value}
use Rattle.job_states.specs.Judged.{◌>>=◌}
use Rattle.queue_routes.specs.declared.fault.NoCommand.{NoCommand}
use Rattle.queue_routes.specs.declared.fault.NoCommand.TheVariants.{NoMemory}
use Rattle.queue_routes.specs.Bodies.{Judged, each_from}

-- what was read before, and what is still read
abbrev pub with_prefix : {X : Type 0} → List X → Judged (List X) → Judged (List X)
with_prefix prefix others = others >>= λ xs. Ok (prefix ++ xs)

regroup : {X : Type 0} (prefix : List X) (x : X) (others : Judged (List X)) → with_prefix prefix (others >>= λ xs. Ok (x ∷ xs)) ≡ with_prefix (prefix ++ x ∷ []) others
regroup {X} prefix x (Ok xs) = ap (λ (all : List X). Ok all) (simp append_assoc)
regroup prefix x (Err fault) = refl

-- a fault ends what follows it
refused-bind : {X Y E : Type 0} (memory fault : E) (first : Result X E) (f : X → Result Y E) → (fault ≡ memory) ⊎ (first ≡ Err fault) → (fault ≡ memory) ⊎ ((first >>= f) ≡ Err fault)
refused-bind memory fault first f (inl out) = inl out
refused-bind memory fault first f (inr is) = inr (rw is refl)

-- the item at a place, and those after it
items_view-drop : (vs : List Value) (v : Value) (i : ℕ) → i < length vs → items_view (drop i vs) ≡ item (view (get_or vs i v)) (items_view (drop (suc i) vs))
items_view-drop vs v i within = rw (drop-cons vs i v within) refl

module _ {X : Type 0} (judge : ℕ → Data → Judged X) (vs : List Value) (v : Value) (i : ℕ) (prefix : List X) (total : Judged (List X)) where
  pub goes_on : (x : X) → i < length vs → judge i (view (get_or vs i v)) ≡ Ok x → with_prefix prefix (each_from judge i (items_view (drop i vs))) ≡ total
      → with_prefix (prefix ++ x ∷ []) (each_from judge (suc i) (items_view (drop (suc i) vs))) ≡ total
  unfolding each_from
  goes_on x within is so_far =
      let cut = rw (items_view-drop vs v i within, is) at so_far in
      sym (regroup prefix x (each_from judge (suc i) (items_view (drop (suc i) vs)))) ∙ cut

  pub ends : (fault : NoCommand) → i < length vs → (fault ≡ NoMemory) ⊎ (judge i (view (get_or vs i v)) ≡ Err fault) → with_prefix prefix (each_from judge i (items_view (drop i vs))) ≡ total
      → (fault ≡ NoMemory) ⊎ (total ≡ Err fault)
  unfolding each_from
  ends fault within is so_far =
      let cut = rw (items_view-drop vs v i within) at so_far in
      let both = refused-bind NoMemory fault (judge i (view (get_or vs i v)) >>= λ first. each_from judge (suc i) (items_view (drop (suc i) vs)) >>= λ others. Ok (first ∷ others)) (λ xs. Ok (prefix ++ xs)) (refused-bind NoMemory fault (judge i (view (get_or vs i v))) (λ first. each_from judge (suc i) (items_view (drop (suc i) vs)) >>= λ others. Ok (first ∷ others)) is) in
      subst (λ (given : Judged (List X)). (fault ≡ NoMemory) ⊎ (given ≡ Err fault)) cut both

-- no item is left
pub is_done : {X : Type 0} (judge : ℕ → Data → Judged X) (vs : List Value) (i : ℕ) (prefix : List X) (total : Judged (List X)) → length vs ≤ i → with_prefix prefix (each_from judge i (items_view (drop i vs))) ≡ total
    → total ≡ Ok prefix
unfolding each_from
is_done {X} judge vs i prefix total past so_far =
    let cut = rw (drop_all i vs past) at so_far in
    sym cut ∙ ap (λ (all : List X). Ok all) (append-nil prefix)
