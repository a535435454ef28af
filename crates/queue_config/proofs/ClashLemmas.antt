-- The first element that clashes with one before it, as a loop finds it.
use Rattle.std.proofs.Common.{◌≡◌, ◌<◌, ◌≤◌, ℕ, ◌+◌, Bool, true, false, cond, List, [], ◌∷◌, ◌++◌, length, get_or, take, drop, Some, None, AllPairs, refl, sym, ◌∙◌, arith, append_assoc, length-drop}
use Rattle.std.proofs.lemmas.Bool.{true≢false}
use Rattle.std.proofs.lemmas.List.{append-nil, drop_more, take_more, length-take-le, nil_from_length}
use Rattle.std.proofs.lemmas.List.Folds.{list_any_at}
use Rattle.std.proofs.lemmas.List.Quantifiers.{all_pairs_push}
use Rattle.std.proofs.lemmas.Option.{none-some}
use Rattle.std.specs.List.{list_any}
use Rattle.queue_config.specs.Named.{first_clash}

-- one more element goes before, unless it clashes
pub clash_step : {X : Type 0} (clash : X → X → Bool) (xs : List X) (i : ℕ) (d x : X) → i < length xs → x ≡ get_or xs i d
    → first_clash clash (take i xs) (drop i xs) ≡ cond (list_any (λ earlier. clash earlier x) (take i xs)) (Some i) (first_clash clash (take (i + 1) xs) (drop (i + 1) xs))
unfolding first_clash
clash_step clash xs i d x h is =
    let before : length (take i xs) ≡ i = length-take-le i xs (omega arith) in
    rw (drop_more xs i d h, take_more xs i d h, ← is, before) refl

pub clash_end : {X : Type 0} (clash : X → X → Bool) (xs : List X) (i : ℕ) → length xs ≤ i → first_clash clash (take i xs) (drop i xs) ≡ None
unfolding first_clash
clash_end clash xs i h =
    let rest : drop i xs ≡ [] = nil_from_length (drop i xs) (omega (arith, length-drop i xs)) in
    rw rest refl

-- where none clashes with one before it, no two clash
pub apart : {X : Type 0} (clash : X → X → Bool) (before xs : List X) → first_clash clash before xs ≡ None → AllPairs (λ a b. clash a b ≡ false) before → AllPairs (λ a b. clash a b ≡ false) (before ++ xs)
unfolding first_clash
apart clash before [] none pairs = rw (append-nil before) pairs
apart {X} clash before (x ∷ xs) none pairs =
    elim (list_any (λ earlier. clash earlier x) before) as (λ b. list_any (λ earlier. clash earlier x) before ≡ b → cond b (Some (length before)) (first_clash clash (before ++ x ∷ []) xs) ≡ None → AllPairs (λ a b. clash a b ≡ false) (before ++ x ∷ xs)) [
      | true ↦ λ is no_clash. absurd (none-some (length before) (sym no_clash))
      | false ↦ λ is go. rw (← append_assoc before (x ∷ []) xs) (apart clash (before ++ x ∷ []) xs go (all_pairs_push (λ a b. clash a b ≡ false) before x pairs (each is)))
    ] refl none
  where
    each : list_any (λ earlier. clash earlier x) before ≡ false → (k : ℕ) (d : X) → k < length before → clash (get_or before k d) x ≡ false
    each is k d h =
        elim (clash (get_or before k d) x) as (λ b. clash (get_or before k d) x ≡ b → b ≡ false) [
          | true ↦ λ clashes. absurd (true≢false (sym (list_any_at (λ earlier. clash earlier x) before k d h clashes) ∙ is))
          | false ↦ λ _. refl
        ] refl
