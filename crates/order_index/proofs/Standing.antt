-- Where an entry belongs: it stands there, or it is nowhere.
use Rattle.std.proofs.Common.{◌≡◌, ◌+◌, ◌<◌, List, [], ◌∷◌, ◌++◌, length, drop, slice_get, All, Contains, Option, Some, None, refl, sym, ◌∙◌, ap, subst, inl, inr, arith, length-append}
use Rattle.std.proofs.lemmas.Bool.{cases_lt}
use Rattle.std.proofs.lemmas.List.Elements.{All-nil, All-head, Contains-append_right}
use Rattle.std.proofs.lemmas.Option.{none-some, same_Some, slice_get-get_or, slice_get_within}
use Rattle.order_index.specs.declared.entry.Entry.{Entry}
use Rattle.order_index.specs.declared.place.Place.{Place}
use Rattle.order_index.specs.Entries.{IsInOrder, after, before, entry_cmp, first, inserted, is_before, removed}
use Rattle.order_index.specs.Pages.{IsPlaceFor, StandsAt, entries_on, prefix_of, page_at, rest_of}
use Rattle.order_index.proofs.Cuts.{IsAfter, IsNotBefore, absent, after_itself, after_unless, all_after, cut_after, cut_before, kept_all}
use Rattle.order_index.proofs.InOrder.{sorted_right}
use Rattle.order_index.proofs.PageLemmas.{entries_cut, first_some}

all_after_first : (entry : Entry) (xs : List Entry) → IsInOrder xs → All (IsNotBefore entry) xs → (first xs ≡ Some entry → ⊥) → All (IsAfter entry) xs
all_after_first entry [] s n other = All-nil (IsAfter entry)
all_after_first entry (x ∷ xs) s n other = all_after entry x xs s (after_unless entry x (All-head (IsNotBefore entry) x xs n) (λ e. other (ap (λ y. Some y) e)))

first_is : (xs : List Entry) (x : Entry) → first xs ≡ Some x → xs ≡ x ∷ drop 1 xs
first_is [] x e = absurd (none-some x e)
first_is (y ∷ xs) x e = ap (λ z. z ∷ xs) (same_Some y x e)

module _ (entry : Entry) (pages : List (List Entry)) (s : IsInOrder (entries_on pages)) (at : Place) (p : IsPlaceFor pages entry at) where
  cut : prefix_of pages at ++ rest_of pages at ≡ entries_on pages
  cut = entries_cut pages at p.on.page

  rest_sorted : IsInOrder (rest_of pages at)
  rest_sorted = sorted_right entry_cmp (prefix_of pages at) (rest_of pages at) (subst IsInOrder (sym cut) s)

  read_none : slice_get (page_at pages at.page) at.index ≡ None → rest_of pages at ≡ []
  read_none e = elim (cases_lt at.index (length (page_at pages at.page))) [
    | inl lt ↦ absurd (none-some _ (sym e ∙ slice_get-get_or (page_at pages at.page) at.index entry lt))
    | inr ge ↦ p.last (omega (arith, p.on.index))
  ]

  read_first : first (rest_of pages at) ≡ slice_get (page_at pages at.page) at.index
  read_first = by (slice_get (page_at pages at.page) at.index) refl
    where
      by : (o : Option Entry) → slice_get (page_at pages at.page) at.index ≡ o → first (rest_of pages at) ≡ slice_get (page_at pages at.page) at.index
      by None e = ap first (read_none e) ∙ sym e
      by (Some x) e = first_some (page_at pages at.page) at.index x (entries_on (drop (at.page + 1) pages)) e ∙ sym e

  before_is : before entry (entries_on pages) ≡ prefix_of pages at
  before_is = ap (before entry) (sym cut) ∙ cut_before entry (prefix_of pages at) (rest_of pages at) p.prefix p.rest

  after_is : after entry (entries_on pages) ≡ after entry (rest_of pages at)
  after_is = ap (after entry) (sym cut) ∙ cut_after entry (prefix_of pages at) (rest_of pages at) p.prefix

  -- ---- it stands elsewhere, which is nowhere

  module _ (other : slice_get (page_at pages at.page) at.index ≡ Some entry → ⊥) where
    elsewhere : All (IsAfter entry) (rest_of pages at)
    elsewhere = all_after_first entry (rest_of pages at) rest_sorted p.rest (λ e. other (sym read_first ∙ e))

    pub absent_elsewhere : Contains (entries_on pages) entry → ⊥
    absent_elsewhere there = absent entry (prefix_of pages at) (rest_of pages at) p.prefix elsewhere (subst (λ (xs : List Entry). Contains xs entry) (sym cut) there)

    after_elsewhere : after entry (entries_on pages) ≡ rest_of pages at
    after_elsewhere = after_is ∙ kept_all (λ x. is_before entry x) (rest_of pages at) elsewhere

    pub first_elsewhere : slice_get (page_at pages at.page) at.index ≡ first (after entry (entries_on pages))
    first_elsewhere = sym (ap first after_elsewhere ∙ read_first)

  -- ---- it stands here

  module _ (here : slice_get (page_at pages at.page) at.index ≡ Some entry) where
    pub there : at.index < length (page_at pages at.page)
    there = slice_get_within (page_at pages at.page) at.index entry here

    rest_here : rest_of pages at ≡ entry ∷ drop 1 (rest_of pages at)
    rest_here = first_is (rest_of pages at) entry (read_first ∙ here)

    pub contains_here : Contains (entries_on pages) entry
    contains_here =
        let first_of_rest : Contains (entry ∷ drop 1 (rest_of pages at)) entry = (0, omega arith, refl) in
        subst (λ (xs : List Entry). Contains xs entry) cut
        (Contains-append_right (prefix_of pages at) (rest_of pages at) entry (subst (λ (xs : List Entry). Contains xs entry) (sym rest_here) first_of_rest))

    pub after_here : after entry (entries_on pages) ≡ drop 1 (rest_of pages at)
    after_here = after_is ∙ ap (after entry) rest_here ∙ after_itself entry (drop 1 (rest_of pages at)) (subst IsInOrder rest_here rest_sorted)

    pub removed_here : prefix_of pages at ++ drop 1 (rest_of pages at) ≡ removed entry (entries_on pages)
    removed_here = sym (ap (λ xs. xs ++ after entry (entries_on pages)) before_is ∙ ap (λ xs. prefix_of pages at ++ xs) after_here)

    pub one_less : length (prefix_of pages at ++ drop 1 (rest_of pages at)) + 1 ≡ length (entries_on pages)
    one_less =
        let n = length-append (prefix_of pages at) (rest_of pages at) in
        let m = length-append (prefix_of pages at) (drop 1 (rest_of pages at)) in
        let all = ap length cut in
        let rest = ap length rest_here in
        omega arith

    pub stands : StandsAt pages entry at
    stands = record { place = p; there = there; is = read_first ∙ here }

  -- ---- it is put in here

  module _ (none : Contains (entries_on pages) entry → ⊥) where
    pub inserted_here : prefix_of pages at ++ entry ∷ rest_of pages at ≡ inserted entry (entries_on pages)
    inserted_here =
        sym (ap (λ xs. xs ++ entry ∷ after entry (entries_on pages)) before_is
        ∙ ap (λ xs. prefix_of pages at ++ entry ∷ xs) (after_elsewhere (λ e. none (contains_here e))))

    pub one_more : length (prefix_of pages at ++ entry ∷ rest_of pages at) ≡ length (entries_on pages) + 1
    one_more =
        let n = length-append (prefix_of pages at) (rest_of pages at) in
        let m = length-append (prefix_of pages at) (entry ∷ rest_of pages at) in
        let all = ap length cut in
        omega arith

-- an entry that stands at a place, by what the place says
pub here_from : (entry : Entry) (pages : List (List Entry)) → (s : IsInOrder (entries_on pages)) → (at : Place) (h : StandsAt pages entry at) → slice_get (page_at pages at.page) at.index ≡ Some entry
here_from entry pages s at h = sym (read_first entry pages s at h.place) ∙ h.is
