-- The first jobs of those that are left.
use Rattle.std.proofs.Common.{◌≡◌, ◌≤◌, ◌<◌, ◌+◌, ◌-◌, ℕ, zero, suc, List, [], ◌∷◌, ◌++◌, length, drop, map, take, None, Some, is_some, get_or, append-nil, append_assoc, All, ap, sym, ◌∙◌, refl, subst, arith}
use Rattle.std.proofs.lemmas.Bool.{true≢false}
use Rattle.std.proofs.lemmas.List.{get_or-map, length-append, length-map, map-append}
use Rattle.std.proofs.lemmas.List.Elements.{All-get_or}
use Rattle.std.proofs.Math.Seq.{drop-cons}
use Rattle.queue_model.proofs.Steps.{same_Some}
use Rattle.plan_model.specs.Orders.{first_of}

none_taken : {X : Type 0} (k : ℕ) → take {A = X} k [] ≡ []
none_taken zero = refl
none_taken (suc k) = refl

one_taken : {X : Type 0} (k : ℕ) (left : List X) (x : X) → first_of left ≡ Some x → take (suc k) left ≡ x ∷ take k (drop 1 left)
one_taken k [] x e = absurd (true≢false (sym (ap is_some e)))
one_taken k (y ∷ left) x e = ap (λ z. z ∷ take k left) (same_Some y x e)

-- one more is found
pub found_more : {X : Type 0} (n : ℕ) (found left : List X) (x : X) (count : ℕ) → count < n → first_of left ≡ Some x → (found ++ x ∷ []) ++ take (n - (count + 1)) (drop 1 left) ≡ found ++ take (n - count) left
found_more n found left x count few first =
    let fewer : suc (n - (count + 1)) ≡ n - count = omega (arith, few) in
    append_assoc found (x ∷ []) (take (n - (count + 1)) (drop 1 left)) ∙ ap (λ rest. found ++ rest) (sym (one_taken (n - (count + 1)) left x first) ∙ ap (λ k. take k left) fewer)

-- none is left
pub found_all : {X : Type 0} (k : ℕ) (found left : List X) → first_of left ≡ None → found ++ take k left ≡ found
found_all k found [] e = ap (λ rest. found ++ rest) (none_taken k) ∙ append-nil found
found_all k found (x ∷ left) e = absurd (true≢false (ap is_some e))

-- so many are found
pub found_most : {X : Type 0} (n count : ℕ) (found left : List X) → n ≤ count → found ++ take (n - count) left ≡ found
found_most n count found left most = ap (λ k. found ++ take k left) none ∙ append-nil found
  where
    none : n - count ≡ 0
    none = omega (arith, most)

-- ---- jobs that are found one after another, as they are kept

module _ {A X : Type 0} (f : A → X) where
  -- one more is kept
  pub keeps_more : (n : ℕ) (old new : List A) (x : A) (before after : List X) → length old < n → new ≡ old ++ x ∷ [] → first_of before ≡ Some (f x) → after ≡ drop 1 before → map f new ++ take (n - length new) after ≡ map f old ++ take (n - length old) before
  keeps_more n old new x before after few new_is first after_is =
      (λ i. map f (new_is i) ++ take (n - length (new_is i)) (after_is i))
      ∙ (λ i. map-append f old (x ∷ []) i ++ take (n - length-append old (x ∷ []) i) (drop 1 before))
      ∙ found_more n (map f old) before (f x) (length old) few first

  -- what holds of each holds of the one at a place
  pub holds_at : (P : X → Type 0) (xs : List A) (i : ℕ) (x : A) → i < length xs → x ≡ get_or xs i x → All P (map f xs) → P (f x)
  holds_at P xs i x within is all = subst P (get_or-map f xs i x (f x) within ∙ ap f (sym is)) (All-get_or P (map f xs) i (f x) (subst (λ n. i < n) (sym (length-map xs f)) within) all)

  -- what is left at a place
  pub left_at : (xs : List A) (i : ℕ) (x : A) → i < length xs → x ≡ get_or xs i x → drop i (map f xs) ≡ f x ∷ drop (i + 1) (map f xs)
  left_at xs i x within is =
      drop-cons (map f xs) i (f x) (subst (λ n. i < n) (sym (length-map xs f)) within)
      ∙ ap (λ y. y ∷ drop (suc i) (map f xs)) (get_or-map f xs i x (f x) within ∙ ap f (sym is))
      ∙ ap (λ n. f x ∷ drop n (map f xs)) next
    where
      next : suc i ≡ i + 1
      next = omega arith
