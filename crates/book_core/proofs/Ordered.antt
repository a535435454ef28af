-- Lists in order that have the same elements are the same.
use Rattle.std.proofs.Common.{◌≡◌, ℕ, ◌+◌, ◌≤◌, suc, Bool, true, false, cond, List, [], ◌∷◌, refl, sym, ◌∙◌, ap, subst, arith}
use Rattle.std.specs.Prelude.{AllPairs, IsSorted}
use Rattle.std.specs.List.{AllByRecursion, count_by}
use Rattle.std.specs.Ordering.{is_eq, is_lt, ordering_reverse}
use Rattle.std.specs.declared.cmp.Ordering.{Ordering}
use Rattle.std.specs.declared.cmp.Ordering.TheVariants.{Less, Equal, Greater}
use Rattle.std.specs.Cmp.{IsTotalOrder, tied_itself}
use Rattle.std.specs.FinMap.{IsAntisymmetric}
use Rattle.std.proofs.lemmas.Bool.{true≢false}
use Rattle.std.proofs.lemmas.List.Elements.{recursion_from_All}
use Rattle.std.proofs.lemmas.List.Sorted.{ranks_by, sorted_far}
use Rattle.std.proofs.lemmas.List.Sums.{sum_by-cons}

abbrev pub one : Bool → ℕ
one b = cond b 1 0

-- an element counts, or it doesn't
pub count_first : {X : Type 0} (p : X → Bool) (x : X) (xs : List X) → count_by p (x ∷ xs) ≡ one (p x) + count_by p xs
count_first p x xs = sum_by-cons (λ y. one (p y)) x xs

-- of elements that all have a property one passes, where any does
pub one_passes : {X : Type 0} (p : X → Bool) (P : X → Type 0) (xs : List X) → AllByRecursion P xs → 1 ≤ count_by p xs → (x : X) × (p x ≡ true) × P x
one_passes p P [] all some = absurd (omega (arith, some))
one_passes {X} p P (x ∷ xs) all some = by (p x) refl (one_passes p P xs all.1)
  where
    by : (b : Bool) → p x ≡ b → (1 ≤ count_by p xs → (x : X) × (p x ≡ true) × P x) → (x : X) × (p x ≡ true) × P x
    by true e later = (x, e, all.0)
    by false e later =
        let none : one (p x) ≡ one false = ap one e in
        later (omega (arith, count_first p x xs, none, some))

-- no later element is below an earlier one
abbrev pub AreUp : {X : Type 0} → (X → X → Ordering) → List X → Type 0
AreUp R [] = Unit {0}
AreUp R (x ∷ xs) = AllByRecursion (λ y. is_lt (R y x) ≡ false) xs × AreUp R xs

all_up : {X : Type 0} (R : X → X → Ordering) (xs : List X) → AllPairs (λ x y. is_lt (R y x) ≡ false) xs → AreUp R xs
all_up R [] pairs = tt
all_up R (x ∷ xs) pairs = (
  recursion_from_All (λ y. is_lt (R y x) ≡ false) xs (λ k d low. pairs 0 (suc k) d (omega arith) (omega (arith, low))),
  all_up R xs (λ i j d less within. pairs (suc i) (suc j) d (omega arith) (omega (arith, within))),
)

pub sorted_up : {X : Type 0} {R : X → X → Ordering} (o : IsTotalOrder R) (xs : List X) → IsSorted R xs → AreUp R xs
sorted_up {X} {R} o xs up = all_up R xs (λ i j d less within. sorted_far (λ a b. is_lt (R a b)) (ranks_by o (λ (x : X). x)) xs up i j d (omega arith) within)

equal : (o : Ordering) → is_eq o ≡ true → o ≡ Equal
equal Less e = absurd (true≢false (sym e))
equal Equal e = refl
equal Greater e = absurd (true≢false (sym e))

module _ {X : Type 0} {R : X → X → Ordering} (o : IsTotalOrder R) (exact : IsAntisymmetric R) where
  -- neither is below the other
  neither : (x y : X) → is_lt (R x y) ≡ false → is_lt (R y x) ≡ false → x ≡ y
  neither x y first second = by (R x y) refl first
    where
      by : (r : Ordering) → R x y ≡ r → is_lt r ≡ false → x ≡ y
      by Less e f = absurd (true≢false f)
      by Equal e f = exact x y e
      by Greater e f = absurd (true≢false (sym (ap is_lt (o.antisymm y x ∙ ap ordering_reverse e)) ∙ second))

  -- an element that is counted isn't below the first
  not_below : (x y : X) (ys : List X) → AreUp R (y ∷ ys) → 1 ≤ count_by (λ z. is_eq (R z x)) (y ∷ ys) → is_lt (R x y) ≡ false
  not_below x y ys up some =
      let found = one_passes (λ z. is_eq (R z x)) (λ z. is_lt (R z y) ≡ false) (y ∷ ys) (ap is_lt (tied_itself o y), up.0) some in
      subst (λ z. is_lt (R z y) ≡ false) (exact found.0 x (equal (R found.0 x) found.1)) found.2

  counted_itself : (x : X) (xs : List X) → 1 ≤ count_by (λ z. is_eq (R z x)) (x ∷ xs)
  counted_itself x xs =
      let tied : one (is_eq (R x x)) ≡ one true = ap (λ r. one (is_eq r)) (tied_itself o x) in
      omega (arith, count_first (λ z. is_eq (R z x)) x xs, tied)

  pub same_ordered : (xs ys : List X) → AreUp R xs → AreUp R ys → ((p : X → Bool) → count_by p xs ≡ count_by p ys) → xs ≡ ys
  same_ordered [] [] up down counts = refl
  same_ordered [] (y ∷ ys) up down counts = absurd (omega (arith, counts (λ z. is_eq (R z y)), counted_itself y ys))
  same_ordered (x ∷ xs) [] up down counts = absurd (omega (arith, counts (λ z. is_eq (R z x)), counted_itself x xs))
  same_ordered (x ∷ xs) (y ∷ ys) up down counts =
      let first = neither x y (not_below x y ys down (subst (λ n. 1 ≤ n) (counts (λ z. is_eq (R z x))) (counted_itself x xs)))
      (not_below y x xs up (subst (λ n. 1 ≤ n) (sym (counts (λ z. is_eq (R z y)))) (counted_itself y ys))) in
      let rest = same_ordered xs ys up.1 down.1 (λ p.
      let same : one (p x) ≡ one (p y) = ap (λ z. one (p z)) first in
      omega (arith, same, counts p, count_first p x xs, count_first p y ys)) in
      (λ i. first i ∷ rest i)
