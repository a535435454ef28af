-- Names in byte order: a name is found where it stands, and names with one prefix stand side by side.
use Rattle.std.proofs.Common.{◌≡◌, ◌==◌, ℕ, ◌+◌, ◌<◌, true, false, List, [], ◌∷◌, length, take, drop, get_or, refl, sym, ◌∙◌, ap, subst, arith, nat_eq, inl, inr, Option, None, Some, Result, Ok, Err}
use Rattle.std.specs.Prelude.{position, is_ok}
use Rattle.std.specs.List.{starts_with, AllWithin}
use Rattle.std.specs.List.Sorted.{IsSortedBy, IsPartitionedBy, IsBinarySearchResult, IsSearchInRange}
use Rattle.std.specs.Ordering.{nat_cmp, is_eq, is_lt, ordering_reverse, ordering_then}
use Rattle.std.specs.declared.cmp.Ordering.{Ordering}
use Rattle.std.specs.declared.cmp.Ordering.TheVariants.{Less, Equal, Greater}
use Rattle.std.specs.Cmp.Lexicographic.{pointwise, slice_cmp, texts_ties}
use Rattle.std.proofs.lemmas.Bool.{and_from, and_parts, cases_lt, cases_order, eq-eqb, eqb-true, false_from_ne_true, false≢true}
use Rattle.std.proofs.lemmas.Bool.Decides.{nat_tests}
use Rattle.std.proofs.lemmas.Cmp.{nat_cmp_total, nat_list_cmp_total, tied_itself}
use Rattle.std.proofs.lemmas.List.{get_or-drop, length-drop}
use Rattle.std.proofs.lemmas.Option.{slice_get-get_or}
use Rattle.std.proofs.lemmas.List.Folds.{list_any_none}
use Rattle.std.proofs.lemmas.List.Sorted.{searchable_from_sorted}
use Rattle.std.proofs.lemmas.Map.Keys.{any_passes_from_place, Less-from_sorted}
use Rattle.std.specs.Str.{bytes_eq}
use Rattle.job_states.specs.Texts.{is_among}
use Rattle.queue_selector.specs.Groups.{AreSorted, is_star, selects, selects_by}
use Rattle.queue_selector.specs.Places.{prefix_by, prefix_of}
use Rattle.queue_selector.proofs.Counting.{same_true}

not_below : (a b : List ℕ) → slice_cmp nat_cmp a b ≡ Less → is_lt (slice_cmp nat_cmp b a) ≡ false
not_below a b less = ap is_lt (nat_list_cmp_total.antisymm b a ∙ ap ordering_reverse less)

-- a name and itself
level : (a : List ℕ) → slice_cmp nat_cmp a a ≡ Equal
level a = tied_itself nat_list_cmp_total a

in_order : (names : List (List ℕ)) → AreSorted names → IsSortedBy (λ a b. is_lt (slice_cmp nat_cmp a b)) names
in_order names up k d low high = not_below (get_or names k d) (get_or names (k + 1) d) (Less-from_sorted (slice_cmp nat_cmp) names k (k + 1) d up (omega arith) high)

apart : (o : Ordering) (x y : List ℕ) → slice_cmp nat_cmp x y ≡ o → is_eq o ≡ false → bytes_eq x y ≡ false
apart o x y is differs = texts_ties x y ∙ ap is_eq is ∙ differs

-- a binary search finds a name exactly where it is among these
pub searched_among : (names : List (List ℕ)) (name : List ℕ) (r : Result ℕ ℕ) → AreSorted names → IsSearchInRange r (length names) → IsBinarySearchResult (λ other. slice_cmp nat_cmp other name) names r → is_ok r ≡ is_among names name
searched_among names name (Ok i) up within found =
    sym (any_passes_from_place (λ other. bytes_eq other name) names i (get_or names i []) (slice_get-get_or names i [] within) (texts_ties (get_or names i []) name ∙ ap is_eq (found [])))
searched_among names name (Err i) up within searched =
    let point = searched (searchable_from_sorted nat_list_cmp_total (λ other. other) names name (in_order names up)) in
    sym (list_any_none (λ other. bytes_eq other name) names (λ k d below. at k d below point.0 point.1))
  where
    at : (k : ℕ) (d : List ℕ) → k < length names → AllWithin (λ other. slice_cmp nat_cmp other name ≡ Less) names 0 i → AllWithin (λ other. slice_cmp nat_cmp other name ≡ Greater) names i (length names) → bytes_eq (get_or names k d) name ≡ false
    at k d below lower upper = elim (cases_lt k i) [
      | inl before ↦ apart Less (get_or names k d) name (lower k d (omega arith) before) refl
      | inr after ↦ apart Greater (get_or names k d) name (upper k d after below) refl
    ]

-- what begins with a prefix isn't below it
begins_above : (p b : List ℕ) → pointwise nat_eq p (take (length p) b) ≡ true → is_lt (slice_cmp nat_cmp b p) ≡ false
begins_above [] [] begins = refl
begins_above [] (y ∷ b) begins = refl
begins_above (x ∷ p) [] begins = absurd (false≢true begins)
begins_above (x ∷ p) (y ∷ b) begins =
    let both = and_parts (nat_eq x y) (pointwise nat_eq p (take (length p) b)) begins in
    let rest = begins_above p b both.1 in
    let e : x ≡ y = eqb-true x y both.0 in
    grind (arith, nat_tests)

nat_equal : (x y : ℕ) → x ≡ y → nat_cmp x y ≡ Equal
nat_equal x y e = ap (nat_cmp x) (sym e) ∙ tied_itself nat_cmp_total x

nat_less : (x y : ℕ) → x < y → nat_cmp x y ≡ Less
nat_less x y h = grind (arith, nat_tests)

nat_greater : (x y : ℕ) → y < x → nat_cmp x y ≡ Greater
nat_greater x y h = grind (arith, nat_tests)

-- the first byte between two equal ones is equal, and what follows it is between what follows them
first_between : (x y z : ℕ) (o u : Ordering) → x ≡ z → is_lt (ordering_then (nat_cmp y x) o) ≡ false → ordering_then (nat_cmp y z) u ≡ Less → (x ≡ y) × (is_lt o ≡ false) × (u ≡ Less)
first_between x y z o u same_ends above less = elim (cases_order y x) [
  | inl equal ↦ (
    sym equal,
    sym (ap (λ c. is_lt (ordering_then c o)) (nat_equal y x equal)) ∙ above,
    sym (ap (λ c. ordering_then c u) (nat_equal y z (equal ∙ same_ends))) ∙ less,
  )
  | inr apart ↦ elim apart [
    | inl below ↦ absurd (false≢true (sym above ∙ ap (λ c. is_lt (ordering_then c o)) (nat_less y x below)))
    | inr over ↦ absurd (greater_less (sym (ap (λ c. ordering_then c u) (ap (nat_cmp y) (sym same_ends) ∙ nat_greater y x over)) ∙ less))
  ]
]
  where
    greater_less : Greater ≡ Less → ⊥
    greater_less e = cc

-- what stands between a prefix and a name that begins with it begins with it
begins_between : (p a b : List ℕ) → is_lt (slice_cmp nat_cmp a p) ≡ false → slice_cmp nat_cmp a b ≡ Less → pointwise nat_eq p (take (length p) b) ≡ true → pointwise nat_eq p (take (length p) a) ≡ true
begins_between [] a b above less begins = refl
begins_between (x ∷ p) [] b above less begins = absurd (false≢true (sym above))
begins_between (x ∷ p) (y ∷ a) [] above less begins = absurd (false≢true begins)
begins_between (x ∷ p) (y ∷ a) (z ∷ b) above less begins =
    let both = and_parts (nat_eq x z) (pointwise nat_eq p (take (length p) b)) begins in
    let first = first_between x y z (slice_cmp nat_cmp a p) (slice_cmp nat_cmp a b) (eqb-true x z both.0) above less in
    and_from (nat_eq x y) (pointwise nat_eq p (take (length p) a)) (eq-eqb x y first.0) (begins_between p a b first.1 first.2 both.1)

-- what an item selects isn't below its prefix
selected_above : (star : Option ℕ) (item name : List ℕ) → selects_by star item name ≡ true → is_lt (slice_cmp nat_cmp name (prefix_by star item)) ≡ false
selected_above None item name selects = ap (λ other. is_lt (slice_cmp nat_cmp name other)) (same_true item name selects) ∙ ap is_lt (level name)
selected_above (Some place) item name selects = begins_above (take place item) name (and_parts (place + 1 == length item) (starts_with nat_eq name (take place item)) selects).1

-- what stands between an item's prefix and a name that it selects is selected too
selected_between : (star : Option ℕ) (item a b : List ℕ) → is_lt (slice_cmp nat_cmp a (prefix_by star item)) ≡ false → slice_cmp nat_cmp a b ≡ Less → selects_by star item b ≡ true → selects_by star item a ≡ true
selected_between None item a b above less selects =
    absurd (false≢true (sym above ∙ ap is_lt (ap (slice_cmp nat_cmp a) (same_true item b selects) ∙ less)))
selected_between (Some place) item a b above less selects =
    let both = and_parts (place + 1 == length item) (starts_with nat_eq b (take place item)) selects in
    and_from (place + 1 == length item) (starts_with nat_eq a (take place item)) both.0 (begins_between (take place item) a b above less both.1)

-- the names below a prefix come first
pub below_first : (names : List (List ℕ)) (p : List ℕ) → AreSorted names → IsPartitionedBy (λ name. is_lt (slice_cmp nat_cmp name p)) names
below_first names p up i j d low high below = elim (cases_order i j) [
  | inl same ↦ subst (λ k. is_lt (slice_cmp nat_cmp (get_or names k d) p) ≡ true) (sym same) below
  | inr apart ↦ elim apart [
    | inl before ↦ ap is_lt (nat_list_cmp_total.trans (get_or names i d) (get_or names j d) p (Less-from_sorted (slice_cmp nat_cmp) names i j d up before high) (less_from (slice_cmp nat_cmp (get_or names j d) p) below))
    | inr after ↦ absurd (omega arith)
  ]
]
  where
    less_from : (o : Ordering) → is_lt o ≡ true → o ≡ Less
    less_from Less e = refl
    less_from Equal e = cc
    less_from Greater e = cc

-- of the names that aren't below an item's prefix, those that it selects come first
pub selected_first : (names : List (List ℕ)) (item : List ℕ) (start : ℕ) → AreSorted names → AllWithin (λ name. is_lt (slice_cmp nat_cmp name (prefix_of item)) ≡ false) names start (length names) → IsPartitionedBy (selects item) (drop start names)
selected_first names item start up above i j d low high selects =
    let within : start + j < length names = omega (arith, high, length-drop start names) in
    elim (cases_order i j) [
      | inl same ↦ subst (λ k. selects_by (position is_star item) item (get_or (drop start names) k d) ≡ true) (sym same) selects
      | inr apart ↦ elim apart [
        | inl before ↦ rw get_or-drop (selected_between (position is_star item) item (get_or names (start + i) d) (get_or names (start + j) d)
            (above (start + i) d (omega arith) (omega arith))
            (Less-from_sorted (slice_cmp nat_cmp) names (start + i) (start + j) d up (omega arith) within)
            (rw get_or-drop at selects))
        | inr after ↦ absurd (omega arith)
      ]
    ]

-- none of the names below its prefix is selected by an item
pub below_unselected : (item name : List ℕ) → is_lt (slice_cmp nat_cmp name (prefix_of item)) ≡ true → selects item name ≡ false
below_unselected item name below = false_from_ne_true (selects item name) (λ selects. false≢true (sym (selected_above (position is_star item) item name selects) ∙ below))
