-- The last element that is taken, as a loop finds it.
use Rattle.std.proofs.Common.{◌≡◌, ◌<◌, ◌≤◌, ℕ, suc, ◌+◌, Bool, true, false, cond, List, [], ◌∷◌, length, get_or, drop, All, Option, Some, None, refl, sym, ap, subst, ◌∙◌, arith, length-drop}
use Rattle.std.proofs.lemmas.List.{drop_more, nil_from_length}
use Rattle.std.specs.Option.{option_or}
use Rattle.queue_config.specs.Retry.{last_from}

step : {A : Type 0} (later : Option A) (b : Bool) (at : A) (last : Option A) → option_or (option_or later (cond b (Some at) None)) last ≡ option_or later (cond b (Some at) last)
step (Some x) b at last = refl
step None true at last = refl
step None false at last = refl

-- one more element is looked at
pub last_more : {X : Type 0} (takes : X → Bool) (xs : List X) (i : ℕ) (d x : X) (b : Bool) (last : Option (ℕ × X)) (total : Option (ℕ × X)) → i < length xs → x ≡ get_or xs i d → takes x ≡ b → option_or (last_from takes i (drop i xs)) last ≡ total
    → option_or (last_from takes (i + 1) (drop (i + 1) xs)) (cond b (Some (i, x)) last) ≡ total
unfolding last_from
last_more takes xs i d x b last total h at is so_far =
    let one : last_from takes i (drop i xs) ≡ option_or (last_from takes (i + 1) (drop (i + 1) xs)) (cond b (Some (i, x)) None) = rw (drop_more xs i d h, ← at, is) refl in
    sym (step (last_from takes (i + 1) (drop (i + 1) xs)) b (i, x) last) ∙ ap (λ o. option_or o last) (sym one) ∙ so_far

pub last_end : {X : Type 0} (takes : X → Bool) (xs : List X) (i : ℕ) (last : Option (ℕ × X)) (total : Option (ℕ × X)) → length xs ≤ i → option_or (last_from takes i (drop i xs)) last ≡ total → last ≡ total
unfolding last_from
last_end takes xs i last total h so_far =
    let rest : drop i xs ≡ [] = nil_from_length (drop i xs) (omega (arith, length-drop i xs)) in
    rw rest at so_far

-- what holds of each element holds of the last that is taken, and its place is one of theirs
pub last_found : {X : Type 0} (P : X → Type 0) (takes : X → Bool) (n : ℕ) (xs : List X) (at : ℕ × X) → All P xs → last_from takes n xs ≡ Some at → (at.0 < n + length xs) × P at.1
unfolding last_from
last_found P takes n [] at each h = absurd (cc)
last_found {X} P takes n (x ∷ xs) at each h = here (last_from takes (n + 1) xs) (takes x) h (λ later. last_found P takes (n + 1) xs at (λ k d less. each (suc k) d (omega arith)) later)
  where
    here : (later : Option (ℕ × X)) (b : Bool) → option_or later (cond b (Some (n, x)) None) ≡ Some at → (later ≡ Some at → (at.0 < n + 1 + length xs) × P at.1) → (at.0 < n + length (x ∷ xs)) × P at.1
    here (Some y) b is rest =
        let found = rest is in
        (omega arith, found.1)
    here None true is rest =
        let same : (n, x) ≡ at = cc in
        let place : n ≡ at.0 = ap (λ p. p.0) same in
        (omega arith, subst P (ap (λ p. p.1) same) (each 0 x (omega arith)))
    here None false is rest = absurd (cc)
