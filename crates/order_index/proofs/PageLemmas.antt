-- Entries on pages: a page among the others, how full pages are, and the first entry from a page on.
use Rattle.std.proofs.Common.{◌≡◌, ℕ, ◌+◌, ◌*◌, ◌/◌, ◌<◌, ◌≤◌, zero, suc, List, [], ◌∷◌, ◌++◌, length, get_or, set, take, drop, slice_get, All, Some, None, refl, sym, ◌∙◌, ap, subst, arith, add-one, append_assoc, length-append, length-take, length-drop}
use Rattle.std.specs.List.{insert, remove}
use Rattle.std.proofs.lemmas.List.{append-nil, take-append-drop, drop_more, drop-drop, drop-append-le, take-set, drop-set-lt, set_split, length-set, get_or-set_same, take_at, take-take, take-append-le, drop_at, length-take-le, get_or_read, length_push}
use Rattle.std.proofs.lemmas.List.Edits.{length-remove}
use Rattle.std.proofs.lemmas.List.Concat.{flat_map-append}
use Rattle.std.proofs.lemmas.List.Elements.{All-nil, All-cons, All-head, All-tail}
use Rattle.order_index.specs.declared.entry.Entry.{Entry}
use Rattle.order_index.specs.declared.place.Place.{Place}
use Rattle.order_index.specs.Entries.{first}
use Rattle.order_index.specs.Pages.{AreFilled, AreFilledAround, IsFull, entries_on, fewest, prefix_of, page_at, rest_of}

-- ---- a page among the others

pub parted : (pages : List (List Entry)) (i : ℕ) → i < length pages → pages ≡ take i pages ++ page_at pages i ∷ drop (i + 1) pages
parted pages i l = sym (take-append-drop i pages) ∙ ap (λ rest. take i pages ++ rest) (drop_more pages i [] l)

pub entries_around : (prefix suffix : List (List Entry)) (page : List Entry) → entries_on (prefix ++ page ∷ suffix) ≡ entries_on prefix ++ (page ++ entries_on suffix)
entries_around prefix suffix page = flat_map-append (λ page. page) prefix (page ∷ suffix)

pub entries_parted : (pages : List (List Entry)) (i : ℕ) → i < length pages → entries_on pages ≡ entries_on (take i pages) ++ (page_at pages i ++ entries_on (drop (i + 1) pages))
entries_parted pages i l = ap entries_on (parted pages i l) ∙ entries_around (take i pages) (drop (i + 1) pages) (page_at pages i)

-- a place cuts the entries in two
cut_within : (a b p : List Entry) (k : ℕ) → (a ++ take k p) ++ (drop k p ++ b) ≡ a ++ (p ++ b)
cut_within a b p k =
    append_assoc a (take k p) (drop k p ++ b)
    ∙ ap (λ xs. a ++ xs) (sym (append_assoc (take k p) (drop k p) b) ∙ ap (λ xs. xs ++ b) (take-append-drop k p))

pub entries_cut : (pages : List (List Entry)) (at : Place) → at.page < length pages → prefix_of pages at ++ rest_of pages at ≡ entries_on pages
entries_cut pages at l =
    cut_within (entries_on (take at.page pages)) (entries_on (drop (at.page + 1) pages)) (page_at pages at.page) at.index
    ∙ sym (entries_parted pages at.page l)

-- ---- another page in its place

pub with_page : (pages : List (List Entry)) (i : ℕ) (page : List Entry) → i < length pages → set pages i page ≡ take i pages ++ page ∷ drop (i + 1) pages
with_page pages i page l = rw add-one (set_split pages i page l)

pub page_at-set : (pages : List (List Entry)) (i : ℕ) (page : List Entry) → i < length pages → page_at (set pages i page) i ≡ page
page_at-set pages i page l = get_or-set_same pages i page [] l

pub drop_after-set : (pages : List (List Entry)) (i : ℕ) (page : List Entry) → drop (i + 1) (set pages i page) ≡ drop (i + 1) pages
drop_after-set pages i page = drop-set-lt (i + 1) pages i page (omega arith)

insert_within : (a b p : List Entry) (k : ℕ) (entry : Entry) → a ++ (insert p k entry ++ b) ≡ (a ++ take k p) ++ entry ∷ (drop k p ++ b)
insert_within a b p k entry =
    ap (λ xs. a ++ xs) (append_assoc (take k p) (entry ∷ drop k p) b)
    ∙ sym (append_assoc a (take k p) (entry ∷ (drop k p ++ b)))

pub entries-insert : (pages : List (List Entry)) (at : Place) (entry : Entry) → at.page < length pages
    → entries_on (set pages at.page (insert (page_at pages at.page) at.index entry)) ≡ prefix_of pages at ++ entry ∷ rest_of pages at
entries-insert pages at entry l =
    ap entries_on (with_page pages at.page (insert (page_at pages at.page) at.index entry) l)
    ∙ entries_around (take at.page pages) (drop (at.page + 1) pages) (insert (page_at pages at.page) at.index entry)
    ∙ insert_within (entries_on (take at.page pages)) (entries_on (drop (at.page + 1) pages)) (page_at pages at.page) at.index entry

drop_next : (b p : List Entry) (k : ℕ) → k < length p → drop 1 (drop k p ++ b) ≡ drop (k + 1) p ++ b
drop_next b p k l =
    let n = length-drop k p in
    drop-append-le 1 (drop k p) b (omega arith) ∙ ap (λ xs. xs ++ b) (drop-drop 1 k p)

-- what stands after the entry at a place
pub rest_next : (pages : List (List Entry)) (at : Place) → at.index < length (page_at pages at.page) → drop 1 (rest_of pages at) ≡ rest_of pages (record { page = at.page; index = at.index + 1 })
rest_next pages at l = drop_next (entries_on (drop (at.page + 1) pages)) (page_at pages at.page) at.index l

remove_within : (a b p : List Entry) (k : ℕ) → k < length p → a ++ (remove p k ++ b) ≡ (a ++ take k p) ++ drop 1 (drop k p ++ b)
remove_within a b p k l =
    ap (λ xs. a ++ xs) (append_assoc (take k p) (drop (suc k) p) b)
    ∙ sym (append_assoc a (take k p) (drop (suc k) p ++ b))
    ∙ ap (λ xs. (a ++ take k p) ++ xs) (ap (λ i. drop i p ++ b) (sym (add-one k)) ∙ sym (drop_next b p k l))

pub entries-remove : (pages : List (List Entry)) (at : Place) → at.page < length pages → at.index < length (page_at pages at.page)
    → entries_on (set pages at.page (remove (page_at pages at.page) at.index)) ≡ prefix_of pages at ++ drop 1 (rest_of pages at)
entries-remove pages at l m =
    ap entries_on (with_page pages at.page (remove (page_at pages at.page) at.index) l)
    ∙ entries_around (take at.page pages) (drop (at.page + 1) pages) (remove (page_at pages at.page) at.index)
    ∙ remove_within (entries_on (take at.page pages)) (entries_on (drop (at.page + 1) pages)) (page_at pages at.page) at.index m

-- what a read or a borrow of a page gives
pub page_read : (pages used : List (List Entry)) (i : ℕ) (page : List Entry) → used ≡ pages → i < length pages → page ≡ get_or used i page → page ≡ page_at pages i
page_read pages used i page same l e = get_or_read pages i page l (subst (λ (ps : List (List Entry)). page ≡ get_or ps i page) same e) []

-- ---- a page joined to the next

pub drop_two : (pages : List (List Entry)) (i : ℕ) → drop ((i + 1) + 1) pages ≡ drop (i + 2) pages
drop_two pages i = let two : (i + 1) + 1 ≡ i + 2 = omega arith in ap (λ k. drop k pages) two

pub with_merged : (pages : List (List Entry)) (i : ℕ) (page : List Entry) → i + 1 < length pages → set (remove pages (i + 1)) i page ≡ take i pages ++ page ∷ drop (i + 2) pages
with_merged pages i page l =
    let n = length-take-le (i + 1) pages (omega arith) in
    let m = length-remove pages (i + 1) l in
    let first = take-append-le i (take (i + 1) pages) (drop (suc (i + 1)) pages) (omega arith) ∙ take-take i (i + 1) pages (omega arith) in
    let two : suc (i + 1) ≡ i + 2 = omega arith in
    let last = drop_at (take (i + 1) pages) (drop (suc (i + 1)) pages) (i + 1) n ∙ ap (λ k. drop k pages) two in
    with_page (remove pages (i + 1)) i page (omega arith)
    ∙ ap (λ xs. xs ++ page ∷ drop (i + 1) (remove pages (i + 1))) first
    ∙ ap (λ xs. take i pages ++ page ∷ xs) last

pub merged_suffix : (pages : List (List Entry)) (i : ℕ) (page : List Entry) → i + 1 < length pages → drop (i + 1) (take i pages ++ page ∷ drop (i + 2) pages) ≡ drop (i + 2) pages
merged_suffix pages i page l =
    let n = length-take-le i pages (omega arith) in
    ap (λ xs. drop (i + 1) xs) (sym (append_assoc (take i pages) (page ∷ []) (drop (i + 2) pages)))
    ∙ drop_at (take i pages ++ page ∷ []) (drop (i + 2) pages) (i + 1) (omega (arith, length_push (take i pages) page))

pub merged_prefix : (pages : List (List Entry)) (i : ℕ) (page : List Entry) → i < length pages → take i (take i pages ++ page ∷ drop (i + 2) pages) ≡ take i pages
merged_prefix pages i page l = take_at (take i pages) (page ∷ drop (i + 2) pages) i (length-take-le i pages (omega arith))

pub entries-merged : (pages : List (List Entry)) (i : ℕ) → i + 1 < length pages → entries_on (take i pages ++ (page_at pages i ++ page_at pages (i + 1)) ∷ drop (i + 2) pages) ≡ entries_on pages
entries-merged pages i l =
    let p = page_at pages i in
    let q = page_at pages (i + 1) in
    entries_around (take i pages) (drop (i + 2) pages) (p ++ q)
    ∙ ap (λ xs. entries_on (take i pages) ++ xs) (append_assoc p q (entries_on (drop (i + 2) pages)))
    ∙ ap (λ xs. entries_on (take i pages) ++ (p ++ (q ++ entries_on xs))) (sym (drop_two pages i))
    ∙ ap (λ xs. entries_on (take i pages) ++ (p ++ entries_on xs)) (sym (drop_more pages (i + 1) [] l))
    ∙ sym (entries_parted pages i (omega arith))

-- ---- how full pages are

pub fewest_le : (pages : List (List Entry)) → fewest pages ≤ 48
fewest_le [] = omega arith
fewest_le (page ∷ pages) = omega arith

pub fewest_some : (pages : List (List Entry)) → 1 ≤ fewest pages
fewest_some [] = omega arith
fewest_some (page ∷ pages) = omega arith

pub filled_drop : (pages : List (List Entry)) (i : ℕ) → AreFilled pages → AreFilled (drop i pages)
filled_drop pages zero f = f
filled_drop [] (suc i) f = tt
filled_drop (page ∷ pages) (suc i) f = filled_drop pages i f.2

-- those before another are full
pub filled_prefix : (pages : List (List Entry)) (i : ℕ) → AreFilled pages → i < length pages → All IsFull (take i pages)
filled_prefix pages zero f l = All-nil IsFull
filled_prefix [] (suc i) f l = absurd (omega arith)
filled_prefix (page ∷ []) (suc i) f l = absurd (omega arith)
filled_prefix (page ∷ next ∷ pages) (suc i) f l = All-cons IsFull page (take i (next ∷ pages)) (f.0, f.1) (filled_prefix (next ∷ pages) i f.2 (omega arith))

pub filled_at : (pages : List (List Entry)) (i : ℕ) → AreFilled pages → i < length pages → AreFilled (page_at pages i ∷ drop (i + 1) pages)
filled_at pages i f l = subst AreFilled (drop_more pages i [] l) (filled_drop pages i f)

pub filled_joined : (prefix pages : List (List Entry)) → All IsFull prefix → AreFilled pages → AreFilled (prefix ++ pages)
filled_joined [] pages a f = f
filled_joined (page ∷ prefix) pages a f =
    let full = All-head IsFull page prefix a in
    let few = fewest_le (prefix ++ pages) in
    (omega arith, full.1, filled_joined prefix pages (All-tail IsFull page prefix a) f)

pub filled_alone : (prefix : List (List Entry)) → All IsFull prefix → AreFilled prefix
filled_alone prefix a = subst AreFilled (append-nil prefix) (filled_joined prefix [] a tt)

pub filled_some : (pages : List (List Entry)) → AreFilled pages → All (λ page. 1 ≤ length page) pages
filled_some [] f = All-nil (λ page. 1 ≤ length page)
filled_some (page ∷ pages) f =
    let some = fewest_some pages in
    All-cons (λ page. 1 ≤ length page) page pages (omega (arith, f.0)) (filled_some pages f.2)

-- the pages around one of filled pages, whatever that one becomes
pub around_set : (pages : List (List Entry)) (i : ℕ) (page : List Entry) → AreFilled pages → i < length pages → AreFilledAround (set pages i page) i
around_set pages i page f l = record {
  within = omega (arith, length-set pages i page);
  prefix = subst (All IsFull) (sym (take-set pages i page)) (filled_prefix pages i f l);
  suffix = subst AreFilled (sym (drop_after-set pages i page)) (filled_drop pages (i + 1) f);
}

pub around_merged : (pages : List (List Entry)) (i : ℕ) (page : List Entry) → AreFilledAround pages i → i + 1 < length pages → AreFilledAround (take i pages ++ page ∷ drop (i + 2) pages) i
around_merged pages i page r l = record {
  within = omega (arith, length-append (take i pages) (page ∷ drop (i + 2) pages), length-take-le i pages (omega arith));
  prefix = subst (All IsFull) (sym (merged_prefix pages i page (omega arith))) r.prefix;
  suffix = subst AreFilled (drop-drop 1 (i + 1) pages ∙ drop_two pages i ∙ sym (merged_suffix pages i page l)) (filled_drop (drop (i + 1) pages) 1 r.suffix);
}

-- where a page fits between those around it, all are filled
pub filled_around : (pages : List (List Entry)) (i : ℕ) → AreFilledAround pages i → fewest (drop (i + 1) pages) ≤ length (page_at pages i) → length (page_at pages i) ≤ 128 → AreFilled pages
filled_around pages i r enough few =
    subst AreFilled (sym (parted pages i r.within))
    (filled_joined (take i pages) (page_at pages i ∷ drop (i + 1) pages) r.prefix (enough, few, r.suffix))

-- a page that is too long, in two
pub filled_split : (prefix suffix : List (List Entry)) (page : List Entry) → All IsFull prefix → AreFilled suffix → 128 < length page → length page ≤ 176
    → AreFilled (prefix ++ take (length page / 2) page ∷ drop (length page / 2) page ∷ suffix)
filled_split prefix suffix page a b long few =
    let n = length page in
    let t = length-take (n / 2) page in
    let d = length-drop (n / 2) page in
    let least = fewest_le suffix in
    filled_joined prefix (take (n / 2) page ∷ drop (n / 2) page ∷ suffix) a (omega arith, omega arith, (omega arith, omega arith, b))

-- ---- how many pages there are

pub pages_few : (pages : List (List Entry)) → AreFilled pages → 48 * length pages ≤ length (entries_on pages) + 47
pages_few [] f = omega arith
pages_few (page ∷ []) f = omega (arith, f.0, length-append page [])
pages_few (page ∷ next ∷ pages) f = omega (arith, f.0, length-append page (entries_on (next ∷ pages)), pages_few (next ∷ pages) f.2)

-- ---- the first entry

pub first_some : (page : List Entry) (k : ℕ) (x : Entry) (rest : List Entry) → slice_get page k ≡ Some x → first (drop k page ++ rest) ≡ Some x
first_some [] k x rest e = cc
first_some (y ∷ page) zero x rest e = e
first_some (y ∷ page) (suc k) x rest e = first_some page k x rest e

pub first_none : (page : List Entry) (k : ℕ) → slice_get page k ≡ None → drop k page ≡ []
first_none [] zero e = refl
first_none [] (suc k) e = refl
first_none (y ∷ page) zero e = cc
first_none (y ∷ page) (suc k) e = first_none page k e

first_joined : (page rest : List Entry) → 1 ≤ length page → first (page ++ rest) ≡ first page
first_joined [] rest l = absurd (omega arith)
first_joined (x ∷ page) rest l = refl

pub first_on : (pages : List (List Entry)) (i : ℕ) (page : List Entry) → AreFilled pages → slice_get pages i ≡ Some page → first (entries_on (drop i pages)) ≡ first page
first_on [] i page f e = cc
first_on (p ∷ pages) zero page f e =
    let same : p ≡ page = cc in
    let some = fewest_some pages in
    first_joined p (entries_on pages) (omega (arith, f.0)) ∙ ap first same
first_on (p ∷ pages) (suc i) page f e = first_on pages i page f.2 e

pub no_page : (pages : List (List Entry)) (i : ℕ) → slice_get pages i ≡ None → drop i pages ≡ []
no_page [] zero e = refl
no_page [] (suc i) e = refl
no_page (p ∷ pages) zero e = cc
no_page (p ∷ pages) (suc i) e = no_page pages i e
