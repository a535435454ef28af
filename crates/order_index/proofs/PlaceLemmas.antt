-- Where an entry belongs among pages that are in order.
use Rattle.std.proofs.Common.{◌≡◌, ℕ, ◌+◌, ◌-◌, ◌<◌, ◌≤◌, true, false, List, [], ◌∷◌, ◌++◌, length, get_or, take, drop, min, All, sym, ◌∙◌, ap, subst, inl, inr, arith, length-drop}
use Rattle.std.specs.List.{AllWithin}
use Rattle.std.specs.List.Sorted.{IsStrictlySortedBy, IsPartitionedBy}
use Rattle.std.proofs.lemmas.Bool.{both_ways, cases_lt, cases_Bool}
use Rattle.std.proofs.lemmas.List.{get_or-drop, get_or_default, drop_all, take_all}
use Rattle.std.proofs.lemmas.List.Elements.{All-nil, All-cons, All-head, All-tail, All-take, All-append}
use Rattle.std.proofs.lemmas.Option.{slice_get-get_or}
use Rattle.std.proofs.lemmas.Map.Keys.{Less-from_sorted}
use Rattle.order_index.specs.declared.entry.Entry.{Entry}
use Rattle.order_index.specs.Entries.{entry_cmp, is_before}
use Rattle.order_index.specs.Pages.{AreFilled, IsPageFor, IsPlaceFor, ends_before, entries_on, is_some_before, page_at}
use Rattle.order_index.proofs.Cuts.{IsBefore, IsNotBefore}
use Rattle.order_index.proofs.EntryOrder.{entries_total}
use Rattle.order_index.proofs.InOrder.{all_taken, left_part, right_part, sorted_left, sorted_right, sorted_across, also_before, also_not_before}
use Rattle.order_index.proofs.PageLemmas.{entries_parted, filled_some}

-- ---- what holds of each entry on the pages

pub all_entries : (P : Entry → Type 0) (pages : List (List Entry)) → All (All P) pages → All P (entries_on pages)
all_entries P [] a = All-nil P
all_entries P (page ∷ pages) a = All-append P page (entries_on pages) (All-head (All P) page pages a) (all_entries P pages (All-tail (All P) page pages a))

pub each_page : (P : Entry → Type 0) (pages : List (List Entry)) → All P (entries_on pages) → All (All P) pages
each_page P [] a = All-nil (All P)
each_page P (page ∷ pages) a = All-cons (All P) page pages (left_part P page (entries_on pages) a) (each_page P pages (right_part P page (entries_on pages) a))

pub sorted_pages : (pages : List (List Entry)) → IsStrictlySortedBy entry_cmp (entries_on pages) → All (IsStrictlySortedBy entry_cmp) pages
sorted_pages [] s = All-nil (IsStrictlySortedBy entry_cmp)
sorted_pages (page ∷ pages) s =
    All-cons (IsStrictlySortedBy entry_cmp) page pages (sorted_left entry_cmp page (entries_on pages) s) (sorted_pages pages (sorted_right entry_cmp page (entries_on pages) s))

-- ---- the last entry of a page

last_test : (entry : Entry) (page : List Entry) (d : Entry) → 1 ≤ length page → ends_before entry page ≡ is_before (get_or page (length page - 1) d) entry
last_test entry page d some = ap (is_some_before entry) (slice_get-get_or page (length page - 1) d (omega arith))

-- where it stands before the entry, so does each
pub ended : (entry : Entry) (page : List Entry) → IsStrictlySortedBy entry_cmp page → ends_before entry page ≡ true → All (IsBefore entry) page
ended entry page s t k d l =
    let last = length page - 1 in
    let passes : is_before (get_or page last d) entry ≡ true = sym (last_test entry page d (omega arith)) ∙ t in
    elim (cases_lt k last) [
      | inl lt ↦ also_before entries_total (get_or page k d) (get_or page last d) entry (Less-from_sorted entry_cmp page k last d s lt (omega arith)) passes
      | inr ge ↦ let same : last ≡ k = omega arith in subst (λ (i : ℕ). is_before (get_or page i d) entry ≡ true) same passes
    ]

module _ (entry : Entry) (pages : List (List Entry)) (s : IsStrictlySortedBy entry_cmp (entries_on pages)) (f : AreFilled pages) where
  -- what follows a page that doesn't end before the entry
  pub not_before_after : (i : ℕ) → i < length pages → ends_before entry (page_at pages i) ≡ false → All (IsNotBefore entry) (entries_on (drop (i + 1) pages))
  not_before_after i l no_end k d m =
      let page = page_at pages i in
      let rest = entries_on (drop (i + 1) pages) in
      let some : 1 ≤ length page = filled_some pages f i [] l in
      let last = length page - 1 in
      let stays : is_before (get_or page last d) entry ≡ false = sym (last_test entry page d some) ∙ no_end in
      let from_page = sorted_right entry_cmp (entries_on (take i pages)) (page ++ rest) (subst (IsStrictlySortedBy entry_cmp) (entries_parted pages i l) s) in
      also_not_before entries_total (get_or page last d) (get_or rest k d) entry (sorted_across entry_cmp page rest from_page last d (omega arith) k d m) stays

  -- a page after such a one doesn't end before the entry either
  no_end_after : (i j : ℕ) → i < j → j < length pages → ends_before entry (page_at pages i) ≡ false → ends_before entry (page_at pages j) ≡ true → ⊥
  no_end_after i j lt within no_end end =
      let suffix = drop (i + 1) pages in
      let n = length-drop (i + 1) pages in
      let some : 1 ≤ length (page_at pages j) = filled_some pages f j [] within in
      let place : (i + 1) + (j - (i + 1)) ≡ j = omega arith in
      let page_is : get_or suffix (j - (i + 1)) [] ≡ page_at pages j = get_or-drop (i + 1) pages (j - (i + 1)) [] ∙ ap (λ k. page_at pages k) place in
      let stays = each_page (IsNotBefore entry) suffix (not_before_after i (omega arith) no_end) (j - (i + 1)) [] (omega arith) in
      let here : All (IsNotBefore entry) (page_at pages j) = subst (All (IsNotBefore entry)) page_is stays in
      let last = length (page_at pages j) - 1 in
      both_ways (is_before (get_or (page_at pages j) last entry) entry) (here last entry (omega arith)) (sym (last_test entry (page_at pages j) entry some) ∙ end)

  pub pages_partitioned : IsPartitionedBy (ends_before entry) pages
  pages_partitioned i j d le within end = elim (cases_lt i j) [
    | inl lt ↦
        let at_i : get_or pages i d ≡ page_at pages i = get_or_default pages i d [] (omega arith) in
        let at_j : get_or pages j d ≡ page_at pages j = get_or_default pages j d [] within in
        elim (cases_Bool (ends_before entry (page_at pages i))) [
          | inl t ↦ ap (ends_before entry) at_i ∙ t
          | inr no_end ↦ absurd (no_end_after i j lt within no_end (ap (ends_before entry) (sym at_j) ∙ end))
        ]
    | inr ge ↦ let same : j ≡ i = omega arith in subst (λ (k : ℕ). ends_before entry (get_or pages k d) ≡ true) same end
  ]

  pub before_prefix : (i : ℕ) → AllWithin (λ page. ends_before entry page ≡ true) pages 0 i → All (IsBefore entry) (entries_on (take i pages))
  before_prefix i within =
      let ends = all_taken (λ page. ends_before entry page ≡ true) pages i within in
      let sorted = All-take (IsStrictlySortedBy entry_cmp) i pages (sorted_pages pages s) in
      all_entries (IsBefore entry) (take i pages) (λ k d l. ended entry (get_or (take i pages) k d) (sorted k d l) (ends k d l))

  -- the first page that doesn't end before the entry, or else the last page
  pub page_found : (count i : ℕ) → AllWithin (λ page. ends_before entry page ≡ true) pages 0 count → AllWithin (λ page. ends_before entry page ≡ false) pages count (length pages)
      → 1 ≤ length pages → count ≤ length pages → i ≡ min count (length pages - 1) → IsPageFor pages entry i
  page_found count i ends others some within is = record {
    within = omega arith;
    prefix = before_prefix i (λ k d low high. ends k d low (omega arith));
    suffix = elim (cases_lt count (length pages)) [
      | inl lt ↦ not_before_after i (omega arith) (others i [] (omega arith) (omega arith))
      | inr ge ↦ subst (λ (ps : List (List Entry)). All (IsNotBefore entry) (entries_on ps)) (sym (drop_all (i + 1) pages (omega arith))) (All-nil (IsNotBefore entry))
    ];
    last = λ end. elim (cases_lt count (length pages)) [
      | inl lt ↦ absurd (both_ways (ends_before entry (page_at pages i)) (others i [] (omega arith) (omega arith)) end)
      | inr ge ↦ omega arith
    ];
  }

  -- and the place on it
  pub place_found : (i k : ℕ) (page : List Entry) → IsPageFor pages entry i → page ≡ page_at pages i → k ≤ length page
      → All (IsBefore entry) (take k page) → All (IsNotBefore entry) (drop k page) → IsPlaceFor pages entry (record { page = i; index = k })
  place_found i k page is same within before from = record {
    on = record { page = is.within; index = omega (arith, ap length same) };
    prefix = All-append (IsBefore entry) (entries_on (take i pages)) (take k (page_at pages i)) is.prefix (subst (λ (p : List Entry). All (IsBefore entry) (take k p)) same before);
    rest = All-append (IsNotBefore entry) (drop k (page_at pages i)) (entries_on (drop (i + 1) pages)) (subst (λ (p : List Entry). All (IsNotBefore entry) (drop k p)) same from) is.suffix;
    last = λ at_end.
        let p = page_at pages i in
        let some : 1 ≤ length p = filled_some pages f i [] is.within in
        let all : All (IsBefore entry) p = subst (All (IsBefore entry)) (ap (λ xs. take k xs) same ∙ take_all k p (omega arith)) before in
        let end : ends_before entry p ≡ true = last_test entry p entry some ∙ all (length p - 1) entry (omega arith) in
        let n = is.last end in
        ap (λ xs. xs ++ entries_on (drop (i + 1) pages)) (drop_all k p (omega arith)) ∙ ap entries_on (drop_all (i + 1) pages (omega arith));
  }
