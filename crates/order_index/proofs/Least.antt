-- Entries that pass a test, and the least of them; which entries an edit leaves.
use Rattle.std.proofs.Common.{◌≡◌, ◌≢◌, ◌↔◌, ◌⊎◌, zero, suc, Bool, true, false, List, [], ◌∷◌, filter, Contains, Some, None, refl, sym, ◌∙◌, ap, subst, inl, inr, arith}
use Rattle.std.specs.Ordering.{is_lt, ordering_reverse}
use Rattle.std.specs.declared.cmp.Ordering.{Ordering}
use Rattle.std.specs.declared.cmp.Ordering.TheVariants.{Less, Equal, Greater}
use Rattle.std.proofs.lemmas.Bool.{both_ways, cases_Bool, cond-true, cond-false, false_from_ne_true}
use Rattle.std.proofs.lemmas.List.Elements.{All-contains, All-contains_itself, All-filter, Contains-append_cases, Contains-append_left, Contains-append_right, filter_passes}
use Rattle.std.proofs.lemmas.List.Kept.{IsStrictlySortedBy-filter}
use Rattle.std.proofs.lemmas.Option.{none-some, same_Some}
use Rattle.order_index.specs.declared.entry.Entry.{Entry}
use Rattle.order_index.specs.Entries.{IsInOrder, IsLeast, after, before, entry_cmp, first, inserted, is_before, removed}
use Rattle.order_index.proofs.Cuts.{following, not_after, not_itself}
use Rattle.order_index.proofs.EntryOrder.{entries_total, same_entry}

-- ---- what a list contains

pub head_or_tail : {X : Type 0} (y x : X) (xs : List X) → Contains (y ∷ xs) x → (y ≡ x) ⊎ Contains xs x
head_or_tail y x xs (zero, l, e) = inl e
head_or_tail y x xs (suc k, l, e) = inr (k, omega arith, e)

pub in_head : {X : Type 0} (x : X) (xs : List X) → Contains (x ∷ xs) x
in_head x xs = (zero, omega arith, refl)

pub in_tail : {X : Type 0} (y x : X) (xs : List X) → Contains xs x → Contains (y ∷ xs) x
in_tail y x xs (k, l, e) = (suc k, omega arith, e)

pub from_filter : {X : Type 0} (p : X → Bool) (xs : List X) (x : X) → Contains (filter p xs) x → Contains xs x
from_filter p xs x h = All-contains (Contains xs) (filter p xs) x (All-filter p (Contains xs) xs (All-contains_itself xs)) h

pub in_filter : {X : Type 0} (p : X → Bool) (xs : List X) (x : X) → Contains xs x → p x ≡ true → Contains (filter p xs) x
in_filter p [] x (k, l, e) t = absurd (omega arith)
in_filter {X} p (y ∷ xs) x h t = elim (head_or_tail y x xs h) [
  | inl same ↦ subst (λ (ys : List X). Contains ys x) (sym (cond-true (p y) (y ∷ filter p xs) (filter p xs) (ap p same ∙ t))) (subst (λ (z : X). Contains (z ∷ filter p xs) x) (sym same) (in_head x (filter p xs)))
  | inr later ↦ elim (cases_Bool (p y)) [
    | inl yes' ↦ subst (λ (ys : List X). Contains ys x) (sym (cond-true (p y) (y ∷ filter p xs) (filter p xs) yes')) (in_tail y x (filter p xs) (in_filter p xs x later t))
    | inr no' ↦ subst (λ (ys : List X). Contains ys x) (sym (cond-false (p y) (y ∷ filter p xs) (filter p xs) no')) (in_filter p xs x later t)
  ]
]

-- ---- the least

first_in : (xs : List Entry) (x : Entry) → first xs ≡ Some x → Contains xs x
first_in [] x e = absurd (none-some x e)
first_in (y ∷ xs) x e = subst (λ (z : Entry). Contains (z ∷ xs) x) (sym (same_Some y x e)) (in_head x xs)

first_least : (xs : List Entry) (x y : Entry) → IsInOrder xs → first xs ≡ Some x → Contains xs y → is_before y x ≡ false
first_least [] x y s e h = absurd (none-some x e)
first_least (z ∷ xs) x y s e h =
    let same : z ≡ x = same_Some z x e in
    subst (λ (w : Entry). is_before y w ≡ false) same (elim (head_or_tail z y xs h) [
      | inl this ↦ subst (λ (w : Entry). is_before w z ≡ false) this (not_itself z)
      | inr later ↦ not_after y z (All-contains (λ w. is_before z w ≡ true) xs y (following z z xs s) later)
    ])

first_none : (xs : List Entry) (y : Entry) → first xs ≡ None → Contains xs y → ⊥
first_none [] y e (k, l, h) = omega arith
first_none (z ∷ xs) y e h = none-some z (sym e)

pub least_first : (xs : List Entry) → IsInOrder xs → IsLeast xs (λ _. true) (first xs)
least_first xs s = record {
  belongs = λ x e. (first_in xs x e, refl);
  least = λ x y e h t. first_least xs x y s e h;
  none = λ e y h. absurd (first_none xs y e h);
}

pub least_passing : (p : Entry → Bool) (xs : List Entry) → IsInOrder xs → IsLeast xs p (first (filter p xs))
least_passing p xs s = record {
  belongs = λ x e.
      let there = first_in (filter p xs) x e in
      (from_filter p xs x there, All-contains (λ y. p y ≡ true) (filter p xs) x (filter_passes p xs) there);
  least = λ x y e h t. first_least (filter p xs) x y (IsStrictlySortedBy-filter entry_cmp p xs s) e (in_filter p xs y h t);
  none = λ e y h. false_from_ne_true (p y) (λ t. first_none (filter p xs) y e (in_filter p xs y h t));
}

-- ---- what an edit leaves

side : (e x : Entry) → (is_before x e ≡ true) ⊎ ((x ≡ e) ⊎ (is_before e x ≡ true))
side e x = by (entry_cmp x e) refl
  where
    by : (r : Ordering) → entry_cmp x e ≡ r → (is_before x e ≡ true) ⊎ ((x ≡ e) ⊎ (is_before e x ≡ true))
    by Less h = inl (ap is_lt h)
    by Equal h = inr (inl (same_entry x e h))
    by Greater h = inr (inr (ap is_lt (entries_total.antisymm e x ∙ ap ordering_reverse h)))

pub in_inserted : (e x : Entry) (xs : List Entry) → Contains (inserted e xs) x ↔ ((x ≡ e) ⊎ Contains xs x)
in_inserted e x xs = (to, back)
  where
    to : Contains (inserted e xs) x → (x ≡ e) ⊎ Contains xs x
    to h = elim (Contains-append_cases (before e xs) (e ∷ after e xs) x h) [
      | inl prefix ↦ inr (from_filter (λ y. is_before y e) xs x prefix)
      | inr rest ↦ elim (head_or_tail e x (after e xs) rest) [
        | inl same ↦ inl (sym same)
        | inr later ↦ inr (from_filter (λ y. is_before e y) xs x later)
      ]
    ]

    here : x ≡ e → Contains (inserted e xs) x
    here same = Contains-append_right (before e xs) (e ∷ after e xs) x (subst (λ (y : Entry). Contains (e ∷ after e xs) y) (sym same) (in_head e (after e xs)))

    back : (x ≡ e) ⊎ Contains xs x → Contains (inserted e xs) x
    back (inl same) = here same
    back (inr h) = elim (side e x) [
      | inl b ↦ Contains-append_left (before e xs) (e ∷ after e xs) x (in_filter (λ y. is_before y e) xs x h b)
      | inr (inl same) ↦ here same
      | inr (inr a) ↦ Contains-append_right (before e xs) (e ∷ after e xs) x (in_tail e x (after e xs) (in_filter (λ y. is_before e y) xs x h a))
    ]

pub in_removed : (e x : Entry) (xs : List Entry) → Contains (removed e xs) x ↔ (Contains xs x × (x ≢ e))
in_removed e x xs = (to, back)
  where
    to : Contains (removed e xs) x → Contains xs x × (x ≢ e)
    to h = elim (Contains-append_cases (before e xs) (after e xs) x h) [
      | inl prefix ↦ (
        from_filter (λ y. is_before y e) xs x prefix,
        λ same. both_ways (is_before e e) (not_itself e)
            (subst (λ (y : Entry). is_before y e ≡ true) same (All-contains (λ y. is_before y e ≡ true) (before e xs) x (filter_passes (λ y. is_before y e) xs) prefix)),
      )
      | inr rest ↦ (
        from_filter (λ y. is_before e y) xs x rest,
        λ same. both_ways (is_before e e) (not_itself e)
            (subst (λ (y : Entry). is_before e y ≡ true) same (All-contains (λ y. is_before e y ≡ true) (after e xs) x (filter_passes (λ y. is_before e y) xs) rest)),
      )
    ]

    back : Contains xs x × (x ≢ e) → Contains (removed e xs) x
    back (h, other) = elim (side e x) [
      | inl b ↦ Contains-append_left (before e xs) (after e xs) x (in_filter (λ y. is_before y e) xs x h b)
      | inr (inl same) ↦ absurd (other same)
      | inr (inr a) ↦ Contains-append_right (before e xs) (after e xs) x (in_filter (λ y. is_before e y) xs x h a)
    ]
