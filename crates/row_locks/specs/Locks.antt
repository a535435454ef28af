-- The rows that seats hold.
use Rattle.std.specs.Prelude.{◌≢◌, ℕ, ◌≤◌, List, ◌++◌, map, Contains, IsPermutation, IsSorted}
use Rattle.std.specs.Ordering.{nat_cmp, ordering_then}
use Rattle.std.specs.declared.cmp.Ordering.{Ordering}
use Rattle.std.specs.declared.cmp.Ordering.TheVariants.{Less}
use Rattle.job_states.specs.RowOrder.{row_cmp}
use Rattle.job_states.specs.declared.row.Row.{Row}
use Rattle.job_states.specs.declared.row.Mode.{Mode}
use Rattle.job_states.specs.declared.row.Mode.TheVariants.{Alone, Shared}
use Rattle.row_locks.specs.Footprints.{FitTogether}

-- a row that a seat holds
pub record Lock : Type 0 where
  pub row : Row
  pub mode : Mode
  pub seat : ℕ

abbrev pub lock : ℕ → Row → Mode → Lock
lock seat row mode = record { row = row; mode = mode; seat = seat }

-- the locks by which a seat holds these rows
abbrev pub locks_of : ℕ → List (Row × Mode) → List Lock
locks_of seat rows = map (λ r. lock seat r.0 r.1) rows

abbrev pub Holds : List Lock → (seat : ℕ) → Row → Mode → Type 0
Holds locks seat row mode = Contains locks (lock seat row mode)

abbrev pub HoldsAll : List Lock → (seat : ℕ) → List (Row × Mode) → Type 0
HoldsAll locks seat rows = (row : Row) (mode : Mode) → Contains rows (row, mode) → Holds locks seat row mode

-- two seats that hold one row share it
abbrev pub AreExclusive : List Lock → Type 0
AreExclusive locks = (a b : ℕ) (row : Row) (m n : Mode) → a ≢ b → Holds locks a row m → Holds locks b row n → FitTogether m n

-- the seat `by` is another one, and holds the row in a mode that doesn't go together with this one
abbrev pub IsHeldAgainst : List Lock → (seat : ℕ) → Row → Mode → (by : ℕ) → Type 0
IsHeldAgainst locks seat row mode by = (held : Mode) × Holds locks by row held × (by ≢ seat) × ¬ FitTogether held mode

-- no other seat holds the row against this one
abbrev pub IsFree : List Lock → (seat : ℕ) → Row → Mode → Type 0
IsFree locks seat row mode = (by : ℕ) → ¬ IsHeldAgainst locks seat row mode by

-- each of the rows is free
abbrev pub AreFree : List Lock → (seat : ℕ) → List (Row × Mode) → Type 0
AreFree locks seat rows = (row : Row) (mode : Mode) → Contains rows (row, mode) → IsFree locks seat row mode

-- the rows were free, and the seat holds them beside all that was held before
pub record TakesRows (old new : List Lock) (seat : ℕ) (rows : List (Row × Mode)) : Type 0 where
  pub free : AreFree old seat rows
  pub taken : IsPermutation (old ++ locks_of seat rows) new

-- one of the rows that are asked for is this one, and the seat `by` holds it against the mode that is asked for
abbrev pub IsRefusedAt : List Lock → (seat : ℕ) → List (Row × Mode) → Row → (by : ℕ) → Type 0
IsRefusedAt locks seat rows row by = (mode : Mode) × Contains rows (row, mode) × IsHeldAgainst locks seat row mode by

-- the first such row, and the smallest seat that holds it so
pub record IsFirstRefusal (locks : List Lock) (seat : ℕ) (rows : List (Row × Mode)) (row : Row) (by : ℕ) : Type 0 where
  pub refused : IsRefusedAt locks seat rows row by
  pub first_row : (other : Row) (holder : ℕ) → IsRefusedAt locks seat rows other holder → row_cmp other row ≢ Less
  pub least_seat : (holder : ℕ) → IsRefusedAt locks seat rows row holder → by ≤ holder

abbrev pub rank : Mode → ℕ
rank Alone = 0
rank Shared = 1

-- by row, and then alone before shared
abbrev pub held_cmp : Row × Mode → Row × Mode → Ordering
held_cmp a b = ordering_then (row_cmp a.0 b.0) (nat_cmp (rank a.1) (rank b.1))

-- seat by seat, and each seat's rows in order
abbrev pub lock_cmp : Lock → Lock → Ordering
lock_cmp a b = ordering_then (nat_cmp a.seat b.seat) (held_cmp (a.row, a.mode) (b.row, b.mode))

-- what is true of the locks at each time
pub record AreSoundLocks (locks : List Lock) : Type 0 where
  pub in_order : IsSorted lock_cmp locks
  pub exclusive : AreExclusive locks
