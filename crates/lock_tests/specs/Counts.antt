-- What the rows of a tally count.
use Rattle.std.specs.Prelude.{◌≡◌, ℕ, ◌+◌, List, slice_get, Some}
use Rattle.seat_lock.specs.declared.rows.Origin.{Origin}
use Rattle.seat_lock.specs.declared.rows.SeatRow.{SeatRow}
use Rattle.seat_lock.specs.Passes.{IsIdle}
use Rattle.seat_lock.specs.Shown.{TableId, PassView}

abbrev pub entries : SeatRow → ℕ
entries r = r.counts.entries

-- the row after one more
abbrev pub added : SeatRow → SeatRow
added r = record r { counts = record r.counts { entries = entries r + 1 } }

abbrev pub nowhere : Origin
nowhere = record { place = 0; faults = 0; refusals = 0; tasks = 0 }

-- the pass p, before its thread begins
pub record IsReady (lock : TableId) (i : ℕ) (p : PassView) : Type 0 where
  pub idle : IsIdle lock p
  pub number : p.share.number ≡ i
  pub none : entries p.share.row ≡ 0

-- the pass q, which was p and added n times
pub record IsAdded (n : ℕ) (p q : PassView) : Type 0 where
  pub idle : IsIdle p.of q
  pub number : q.share.number ≡ p.share.number
  pub more : entries q.share.row ≡ entries p.share.row + n

abbrev pub AreFresh : List SeatRow → Type 0
AreFresh rows = (i : ℕ) (r : SeatRow) → slice_get rows i ≡ Some r → entries r ≡ 0
