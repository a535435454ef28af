-- The groups in which the queues of a queue list are polled.
use Rattle.std.specs.Prelude.{ℕ, ◌+◌, ◌==◌, Bool, not, ◌&&◌, List, [], ◌∷◌, ◌++◌, length, take, map, filter, flat_map, position, count_by, Option, None, Some, nat_eq, if◌then◌else◌, codes}
use Rattle.std.specs.List.{list_any, starts_with}
use Rattle.std.specs.List.Sorted.{IsStrictlySortedBy}
use Rattle.std.specs.Ordering.{nat_cmp}
use Rattle.std.specs.Cmp.Lexicographic.{slice_cmp}
use Rattle.std.specs.Str.{bytes_eq}
use Rattle.job_states.specs.Texts.{is_among}

-- each name comes before those after it, in byte order
abbrev pub AreSorted : List (List ℕ) → Type 0
AreSorted names = IsStrictlySortedBy (slice_cmp nat_cmp) names

abbrev pub is_star : ℕ → Bool
is_star byte = byte == 42

-- by the place of the item's first star
abbrev pub selects_by : Option ℕ → (item name : List ℕ) → Bool
selects_by None item name = bytes_eq item name
selects_by (Some place) item name = (place + 1 == length item) && starts_with nat_eq name (take place item)

-- An item without a star selects the equal name. One with a star at its end alone selects each name that begins with
-- what stands before the star. Any other item selects nothing.
abbrev pub selects : (item name : List ℕ) → Bool
selects item name = selects_by (position is_star item) item name

-- the names that the items select in turn, each of them once
abbrev pub selected : (items names : List (List ℕ)) → List (List ℕ)
selected [] names = []
selected (item ∷ items) names = filter (selects item) names ++ selected items (filter (λ name. not (selects item name)) names)

-- the names that aren't paused
abbrev pub unpaused_names : (names paused : List (List ℕ)) → List (List ℕ)
unpaused_names names paused = filter (λ name. not (is_among paused name)) names

-- an item is a star alone
abbrev pub polls_all : (items : List (List ℕ)) → Bool
polls_all items = is_among items (codes "*")

-- Where an item is a star alone, one group of all names that aren't paused. Else a group of one for each of those that
-- the items select in turn.
abbrev pub groups_of : (items names paused : List (List ℕ)) → List (List (List ℕ))
groups_of items names paused =
    if polls_all items then unpaused_names names paused ∷ []
    else map (λ name. name ∷ []) (selected items (unpaused_names names paused))

-- how often the name stands among these
abbrev pub count_of : List ℕ → List (List ℕ) → ℕ
count_of name names = count_by (λ other. bytes_eq other name) names

-- how often the name stands in the groups
abbrev pub count_in : List ℕ → List (List (List ℕ)) → ℕ
count_in name groups = count_of name (flat_map (λ group. group) groups)

-- the name isn't paused, and an item selects it
abbrev pub is_polled : (items paused : List (List ℕ)) (name : List ℕ) → Bool
is_polled items paused name = not (is_among paused name) && list_any (λ item. selects item name) items
