-- A run of names that stand side by side: all that pass a test.
use Rattle.std.proofs.Common.{◌≡◌, ℕ, ◌+◌, ◌-◌, ◌<◌, ◌≤◌, Bool, true, false, List, [], ◌∷◌, ◌++◌, length, take, drop, get_or, filter, refl, sym, ◌∙◌, ap, ap₂, arith, append-nil}
use Rattle.std.specs.Prelude.{All, slice_range}
use Rattle.std.specs.List.{AllWithin}
use Rattle.std.specs.List.Sorted.{IsPartitionPoint}
use Rattle.std.specs.Ordering.{nat_cmp, is_lt}
use Rattle.std.specs.Cmp.Lexicographic.{slice_cmp}
use Rattle.std.proofs.lemmas.Bool.{cond-true, cond-false}
use Rattle.std.proofs.lemmas.List.{get_or-drop, get_or-take, length-drop, length-take, take-append-drop, take_all}
use Rattle.std.proofs.lemmas.List.Elements.{All-head, All-tail, filter-append}
use Rattle.queue_selector.specs.Groups.{selects}
use Rattle.queue_selector.specs.Places.{prefix_of}
use Rattle.queue_selector.proofs.Sorted.{below_unselected}

filter_none : {X : Type 0} (p : X → Bool) (xs : List X) → All (λ x. p x ≡ false) xs → filter p xs ≡ []
filter_none p [] none = refl
filter_none p (x ∷ xs) none = cond-false (p x) (x ∷ filter p xs) (filter p xs) (All-head (λ x. p x ≡ false) x xs none) ∙ filter_none p xs (All-tail (λ x. p x ≡ false) x xs none)

filter_all : {X : Type 0} (p : X → Bool) (xs : List X) → All (λ x. p x ≡ true) xs → filter p xs ≡ xs
filter_all p [] all = refl
filter_all p (x ∷ xs) all = cond-true (p x) (x ∷ filter p xs) (filter p xs) (All-head (λ x. p x ≡ true) x xs all) ∙ ap (λ rest. x ∷ rest) (filter_all p xs (All-tail (λ x. p x ≡ true) x xs all))

first_part : {X : Type 0} (P : X → Type 0) (xs : List X) (i : ℕ) → i ≤ length xs → AllWithin P xs 0 i → All P (take i xs)
first_part P xs i within all k d low =
    let few : k < i = omega (arith, low, length-take i xs) in
    rw (get_or-take i xs k d few) (all k d (omega arith) few)

last_part : {X : Type 0} (P : X → Type 0) (xs : List X) (i : ℕ) → AllWithin P xs i (length xs) → All P (drop i xs)
last_part P xs i all k d low = rw get_or-drop (all (i + k) d (omega arith) (omega (arith, low, length-drop i xs)))

-- where a test holds of the first names and of no later one, it keeps the first ones
parted : {X : Type 0} (p : X → Bool) (xs : List X) (i : ℕ) → i ≤ length xs → IsPartitionPoint (λ x. p x ≡ true) (λ x. p x ≡ false) xs i → filter p xs ≡ take i xs
parted p xs i within point =
    sym (ap (filter p) (take-append-drop i xs))
    ∙ filter-append p (take i xs) (drop i xs)
    ∙ ap₂ (λ kept left. kept ++ left) (filter_all p (take i xs) (first_part (λ x. p x ≡ true) xs i within point.0)) (filter_none p (drop i xs) (last_part (λ x. p x ≡ false) xs i point.1))
    ∙ append-nil (take i xs)

-- the names that an item selects
pub run_is : (names : List (List ℕ)) (item : List ℕ) (start count : ℕ) → start ≤ length names → count ≤ length (drop start names)
    → IsPartitionPoint (λ name. is_lt (slice_cmp nat_cmp name (prefix_of item)) ≡ true) (λ name. is_lt (slice_cmp nat_cmp name (prefix_of item)) ≡ false) names start
    → IsPartitionPoint (λ name. selects item name ≡ true) (λ name. selects item name ≡ false) (drop start names) count
    → slice_range names start (start + count) ≡ filter (selects item) names
run_is names item start count start_within count_within first more =
    let size : (start + count) - start ≡ count = omega arith in
    ap (λ n. take n (drop start names)) size
    ∙ sym (parted (selects item) (drop start names) count count_within more)
    ∙ ap (λ none. none ++ filter (selects item) (drop start names)) (sym (filter_none (selects item) (take start names)
    (first_part (λ name. selects item name ≡ false) names start start_within (λ k d low high. below_unselected item (get_or names k d) (first.0 k d low high)))))
    ∙ sym (filter-append (selects item) (take start names) (drop start names))
    ∙ ap (filter (selects item)) (take-append-drop start names)

pub rest_is : {X : Type 0} (xs : List X) (i : ℕ) → take (length xs - i) (drop i xs) ≡ drop i xs
rest_is xs i = take_all (length xs - i) (drop i xs) (omega (arith, length-drop i xs))
