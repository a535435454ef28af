-- Groups as they are found: places of names.
use Rattle.std.specs.Prelude.{ℕ, Bool, not, ◌||◌, List, take, map, Option, None, Some, position, slice_get}
use Rattle.std.specs.List.{list_any}
use Rattle.job_states.specs.Texts.{is_among}
use Rattle.queue_selector.specs.Groups.{is_star, selects}

-- the name at each of these places, if there is one
abbrev pub names_at : (names : List (List ℕ)) (places : List ℕ) → List (Option (List ℕ))
names_at names places = map (slice_get names) places

-- no earlier item selects the name, and it isn't paused
abbrev pub is_left : (earlier paused : List (List ℕ)) (name : List ℕ) → Bool
is_left earlier paused name = not (list_any (λ item. selects item name) earlier || is_among paused name)

-- by the place of the item's first star
abbrev pub prefix_by : Option ℕ → List ℕ → List ℕ
prefix_by None item = item
prefix_by (Some place) item = take place item

-- what stands before the item's first star
abbrev pub prefix_of : List ℕ → List ℕ
prefix_of item = prefix_by (position is_star item) item
