-- Locks as they are kept: seat by seat, each with its rows in order.
use Rattle.std.specs.Prelude.{ℕ, ◌<◌, ◌≤◌, List, length, All, HoldsAt, Contains, IsSorted, Option, None, Some, flat_map}
use Rattle.std.specs.List.{AllWithin}
use Rattle.std.specs.List.Sorted.{IsStrictlySortedBy}
use Rattle.std.specs.Map.{keys_of}
use Rattle.std.specs.Ordering.{nat_cmp}
use Rattle.job_states.specs.declared.row.Row.{Row}
use Rattle.job_states.specs.declared.row.Mode.{Mode}
use Rattle.row_locks.specs.Footprints.{FitTogether}
use Rattle.row_locks.specs.Locks.{Lock, held_cmp, locks_of, IsHeldAgainst, IsFree}

abbrev pub BySeat : Type 0
BySeat = List (ℕ × List (Row × Mode))

abbrev pub locks_in : BySeat → List Lock
locks_in seats = flat_map (λ s. locks_of s.0 s.1) seats

abbrev pub IsInOrder : List (Row × Mode) → Type 0
IsInOrder rows = IsSorted held_cmp rows

pub record AreSeatsInOrder (seats : BySeat) : Type 0 where
  pub seats_up : IsStrictlySortedBy nat_cmp (keys_of seats)
  pub rows_up : All (λ s. IsInOrder s.1) seats

-- the row is among these in a mode that doesn't go together with this one
abbrev pub IsAgainst : List (Row × Mode) → Row → Mode → Type 0
IsAgainst rows row mode = (held : Mode) × Contains rows (row, held) × ¬ FitTogether held mode

-- the smallest seat that holds the row against this one
abbrev pub IsLeastHolder : List Lock → (seat : ℕ) → Row → Mode → Option ℕ → Type 0
IsLeastHolder locks seat row mode None = IsFree locks seat row mode
IsLeastHolder locks seat row mode (Some by) = IsHeldAgainst locks seat row mode by × ((other : ℕ) → IsHeldAgainst locks seat row mode other → by ≤ other)

-- the first of the rows that aren't free, and the smallest seat that holds it so
pub record IsFirstHeld (locks : List Lock) (seat : ℕ) (rows : List (Row × Mode)) (index by : ℕ) : Type 0 where
  pub within : index < length rows
  pub held : HoldsAt (λ asked. IsLeastHolder locks seat asked.0 asked.1 (Some by)) rows index
  pub before : AllWithin (λ asked. IsFree locks seat asked.0 asked.1) rows 0 index
