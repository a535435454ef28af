-- Entries on pages: the pages one after another have the entries in order.
use Rattle.std.specs.Prelude.{◌≡◌, ℕ, ◌+◌, ◌-◌, ◌*◌, ◌^◌, ◌<◌, ◌≤◌, Bool, true, false, List, [], ◌∷◌, ◌++◌, length, take, drop, slice_get, slice_index_or, All, Option, None, Some, ⊤}
use Rattle.std.specs.List.{flat_map}
use Rattle.order_index.specs.declared.entry.Entry.{Entry}
use Rattle.order_index.specs.declared.place.Place.{Place}
use Rattle.order_index.specs.Entries.{IsInOrder, first, is_before}

-- the pages, and how many empty ones lie ready
pub record Paged : Type 0 where
  pub pages : List (List Entry)
  pub ready : ℕ

abbrev pub entries_on : List (List Entry) → List Entry
entries_on pages = flat_map (λ page. page) pages

abbrev pub page_at : List (List Entry) → ℕ → List Entry
page_at pages i = slice_index_or pages i []

-- ---- how full pages are

-- the fewest entries of a page that is followed by these
abbrev pub fewest : List (List Entry) → ℕ
fewest [] = 1
fewest (page ∷ pages) = 48

-- each page but the last has 48 entries or more, the last one has an entry, and none has more than 128
abbrev pub AreFilled : List (List Entry) → Type 0
AreFilled [] = ⊤
AreFilled (page ∷ pages) = (fewest pages ≤ length page) × (length page ≤ 128) × AreFilled pages

abbrev pub IsFull : List Entry → Type 0
IsFull page = (48 ≤ length page) × (length page ≤ 128)

-- the pages around this one are filled
pub record AreFilledAround (pages : List (List Entry)) (i : ℕ) : Type 0 where
  pub within : i < length pages
  pub prefix : All IsFull (take i pages)
  pub suffix : AreFilled (drop (i + 1) pages)

-- ---- places

-- the place is on a page, or at its end
pub record IsOn (pages : List (List Entry)) (at : Place) : Type 0 where
  pub page : at.page < length pages
  pub index : at.index ≤ length (page_at pages at.page)

-- what stands before a place, and what stands from it on
abbrev pub prefix_of : List (List Entry) → Place → List Entry
prefix_of pages at = entries_on (take at.page pages) ++ take at.index (page_at pages at.page)

abbrev pub rest_of : List (List Entry) → Place → List Entry
rest_of pages at = drop at.index (page_at pages at.page) ++ entries_on (drop (at.page + 1) pages)

abbrev pub is_some_before : Entry → Option Entry → Bool
is_some_before entry None = false
is_some_before entry (Some x) = is_before x entry

-- the last entry of the page stands before this one
abbrev pub ends_before : Entry → List Entry → Bool
ends_before entry page = is_some_before entry (slice_get page (length page - 1))

-- the entry belongs on this page
pub record IsPageFor (pages : List (List Entry)) (entry : Entry) (i : ℕ) : Type 0 where
  pub within : i < length pages
  pub prefix : All (λ x. is_before x entry ≡ true) (entries_on (take i pages))
  pub suffix : All (λ x. is_before x entry ≡ false) (entries_on (drop (i + 1) pages))
  pub last : ends_before entry (page_at pages i) ≡ true → i + 1 ≡ length pages

-- the entry belongs here
pub record IsPlaceFor (pages : List (List Entry)) (entry : Entry) (at : Place) : Type 0 where
  pub on : IsOn pages at
  pub prefix : All (λ x. is_before x entry ≡ true) (prefix_of pages at)
  pub rest : All (λ x. is_before x entry ≡ false) (rest_of pages at)
  pub last : at.index ≡ length (page_at pages at.page) → rest_of pages at ≡ []

-- the entry stands here
pub record StandsAt (pages : List (List Entry)) (entry : Entry) (at : Place) : Type 0 where
  pub place : IsPlaceFor pages entry at
  pub there : at.index < length (page_at pages at.page)
  pub is : first (rest_of pages at) ≡ Some entry

-- ---- an order, as it is kept

-- the entries on the pages are in order and counted, and however they come to lie, the pages last for as many as there is room for
pub record IsKept (paged : Paged) (len spare : ℕ) : Type 0 where
  pub in_order : IsInOrder (entries_on paged.pages)
  pub filled : AreFilled paged.pages
  pub counted : len ≡ length (entries_on paged.pages)
  pub room : len + spare ≤ 48 * (length paged.pages + paged.ready - 1)
  pub fits : len + spare < 2 ^ 64
