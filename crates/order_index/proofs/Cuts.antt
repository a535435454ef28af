-- Entries in order, cut where one stands or belongs: what stands before it is the first part.
use Rattle.std.proofs.Common.{◌≡◌, Bool, true, false, List, [], ◌∷◌, ◌++◌, filter, All, Contains, refl, ◌∙◌, ap, inl, inr}
use Rattle.std.specs.Ordering.{is_lt, ordering_reverse}
use Rattle.std.specs.declared.cmp.Ordering.{Ordering}
use Rattle.std.specs.declared.cmp.Ordering.TheVariants.{Less, Equal, Greater}
use Rattle.std.proofs.lemmas.Bool.{both_ways, cond-true, cond-false}
use Rattle.std.proofs.lemmas.Cmp.{tied_itself}
use Rattle.std.proofs.lemmas.List.{append-nil}
use Rattle.std.proofs.lemmas.List.Elements.{All-cons, All-head, All-tail, All-weaker, All-contains, Contains-append_cases, filter-append, filter_passes, All-from_recursion}
use Rattle.std.proofs.lemmas.List.Kept.{IsStrictlySortedBy-filter}
use Rattle.std.proofs.lemmas.Map.Keys.{sorted_head}
use Rattle.order_index.specs.declared.entry.Entry.{Entry}
use Rattle.order_index.specs.Entries.{IsInOrder, after, before, entry_cmp, inserted, is_before, removed}
use Rattle.order_index.proofs.EntryOrder.{entries_total, same_entry}
use Rattle.order_index.proofs.InOrder.{less_from_test, sorted_cons, sorted_joined}

-- ---- filters that keep all or nothing

pub kept_all : {X : Type 0} (p : X → Bool) (xs : List X) → All (λ x. p x ≡ true) xs → filter p xs ≡ xs
kept_all p [] a = refl
kept_all p (x ∷ xs) a =
    cond-true (p x) (x ∷ filter p xs) (filter p xs) (All-head (λ x. p x ≡ true) x xs a)
    ∙ ap (λ ys. x ∷ ys) (kept_all p xs (All-tail (λ x. p x ≡ true) x xs a))

pub kept_none : {X : Type 0} (p : X → Bool) (xs : List X) → All (λ x. p x ≡ false) xs → filter p xs ≡ []
kept_none p [] a = refl
kept_none p (x ∷ xs) a =
    cond-false (p x) (x ∷ filter p xs) (filter p xs) (All-head (λ x. p x ≡ false) x xs a)
    ∙ kept_none p xs (All-tail (λ x. p x ≡ false) x xs a)

-- ---- two entries

pub not_itself : (e : Entry) → is_before e e ≡ false
not_itself e = ap is_lt (tied_itself entries_total e)

pub not_after : (e x : Entry) → is_before x e ≡ true → is_before e x ≡ false
not_after e x t = ap is_lt (entries_total.antisymm e x ∙ ap ordering_reverse (less_from_test (entry_cmp x e) t))

pub after_unless : (e x : Entry) → is_before x e ≡ false → (x ≡ e → ⊥) → is_before e x ≡ true
after_unless e x f other = by (entry_cmp x e) refl
  where
    by : (r : Ordering) → entry_cmp x e ≡ r → is_before e x ≡ true
    by Less h = absurd (both_ways (is_before x e) f (ap is_lt h))
    by Equal h = absurd (other (same_entry x e h))
    by Greater h = ap is_lt (entries_total.antisymm e x ∙ ap ordering_reverse h)

-- ---- a cut

abbrev pub IsBefore : Entry → Entry → Type 0
IsBefore e x = is_before x e ≡ true

abbrev pub IsNotBefore : Entry → Entry → Type 0
IsNotBefore e x = is_before x e ≡ false

abbrev pub IsAfter : Entry → Entry → Type 0
IsAfter e x = is_before e x ≡ true

pub cut_before : (e : Entry) (prefix rest : List Entry) → All (IsBefore e) prefix → All (IsNotBefore e) rest → before e (prefix ++ rest) ≡ prefix
cut_before e prefix rest a b =
    filter-append (λ x. is_before x e) prefix rest
    ∙ ap (λ xs. xs ++ before e rest) (kept_all (λ x. is_before x e) prefix a)
    ∙ ap (λ xs. prefix ++ xs) (kept_none (λ x. is_before x e) rest b)
    ∙ append-nil prefix

pub cut_after : (e : Entry) (prefix rest : List Entry) → All (IsBefore e) prefix → after e (prefix ++ rest) ≡ after e rest
cut_after e prefix rest a =
    filter-append (λ x. is_before e x) prefix rest
    ∙ ap (λ xs. xs ++ after e rest) (kept_none (λ x. is_before e x) prefix (All-weaker (IsBefore e) (λ x. is_before e x ≡ false) (not_after e) prefix a))

-- what follows the entry, or one that stands after it
pub following : (e x : Entry) (xs : List Entry) → IsInOrder (x ∷ xs) → All (λ y. is_before x y ≡ true) xs
following e x xs s = All-weaker (λ y. entry_cmp x y ≡ Less) (λ y. is_before x y ≡ true) (λ y h. ap is_lt h) xs (All-from_recursion (λ y. entry_cmp x y ≡ Less) xs (sorted_head entry_cmp x xs s))

pub after_itself : (e : Entry) (xs : List Entry) → IsInOrder (e ∷ xs) → after e (e ∷ xs) ≡ xs
after_itself e xs s = cond-false (is_before e e) (e ∷ after e xs) (after e xs) (not_itself e) ∙ kept_all (λ x. is_before e x) xs (following e e xs s)

pub all_after : (e x : Entry) (xs : List Entry) → IsInOrder (x ∷ xs) → is_before e x ≡ true → All (IsAfter e) (x ∷ xs)
all_after e x xs s t =
    All-cons (IsAfter e) x xs t
    (All-weaker (λ y. is_before x y ≡ true) (IsAfter e)
    (λ y h. ap is_lt (entries_total.trans e x y (less_from_test (entry_cmp e x) t) (less_from_test (entry_cmp x y) h))) xs (following e x xs s))

pub after_other : (e x : Entry) (xs : List Entry) → IsInOrder (x ∷ xs) → is_before e x ≡ true → after e (x ∷ xs) ≡ x ∷ xs
after_other e x xs s t = kept_all (λ y. is_before e y) (x ∷ xs) (all_after e x xs s t)

pub absent : (e : Entry) (prefix rest : List Entry) → All (IsBefore e) prefix → All (IsAfter e) rest → Contains (prefix ++ rest) e → ⊥
absent e prefix rest a b there = elim (Contains-append_cases prefix rest e there) [
  | inl h ↦ both_ways (is_before e e) (not_itself e) (All-contains (IsBefore e) prefix e a h)
  | inr h ↦ both_ways (is_before e e) (not_itself e) (All-contains (IsAfter e) rest e b h)
]

-- ---- still in order

pub sorted_removed : (e : Entry) (xs : List Entry) → IsInOrder xs → IsInOrder (removed e xs)
sorted_removed e xs s =
    sorted_joined entry_cmp (before e xs) (after e xs)
    (IsStrictlySortedBy-filter entry_cmp (λ x. is_before x e) xs s)
    (IsStrictlySortedBy-filter entry_cmp (λ x. is_before e x) xs s)
    (All-weaker (IsBefore e) (λ x. All (λ y. entry_cmp x y ≡ Less) (after e xs))
    (λ x t. All-weaker (IsAfter e) (λ y. entry_cmp x y ≡ Less)
    (λ y u. entries_total.trans x e y (less_from_test (entry_cmp x e) t) (less_from_test (entry_cmp e y) u))
    (after e xs) (filter_passes (λ y. is_before e y) xs))
    (before e xs) (filter_passes (λ x. is_before x e) xs))

pub sorted_inserted : (e : Entry) (xs : List Entry) → IsInOrder xs → IsInOrder (inserted e xs)
sorted_inserted e xs s =
    let later : All (λ y. entry_cmp e y ≡ Less) (after e xs) = All-weaker (IsAfter e) (λ y. entry_cmp e y ≡ Less) (λ y u. less_from_test (entry_cmp e y) u) (after e xs) (filter_passes (λ y. is_before e y) xs) in
    sorted_joined entry_cmp (before e xs) (e ∷ after e xs)
    (IsStrictlySortedBy-filter entry_cmp (λ x. is_before x e) xs s)
    (sorted_cons entry_cmp e (after e xs) later (IsStrictlySortedBy-filter entry_cmp (λ x. is_before e x) xs s))
    (All-weaker (IsBefore e) (λ x. All (λ y. entry_cmp x y ≡ Less) (e ∷ after e xs))
    (λ x t. All-cons (λ y. entry_cmp x y ≡ Less) e (after e xs) (less_from_test (entry_cmp x e) t)
    (All-weaker (λ y. entry_cmp e y ≡ Less) (λ y. entry_cmp x y ≡ Less)
    (λ y u. entries_total.trans x e y (less_from_test (entry_cmp x e) t) u)
    (after e xs) later))
    (before e xs) (filter_passes (λ x. is_before x e) xs))
