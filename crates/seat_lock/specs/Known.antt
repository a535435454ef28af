-- What a pass knows of a state with these rows and this origin.
use Rattle.std.specs.Prelude.{◌≡◌, ◌≢◌, ℕ, List, length, slice_get, Some}
use Rattle.seat_lock.specs.declared.rows.Origin.{Origin}
use Rattle.seat_lock.specs.declared.rows.SeatRow.{SeatRow}
use Rattle.seat_lock.specs.declared.view.Share.{Share}

-- the row of the share's number is the share's, and so is the origin
pub record IsKnown (rows : List SeatRow) (o : Origin) (m : Share) : Type 0 where
  pub row : slice_get rows m.number ≡ Some m.row
  pub origin : o ≡ m.origin

-- the row of the share's number alone may differ from what was known
pub record IsGiveable (rows : List SeatRow) (o : Origin) (known : List SeatRow) (m : Share) : Type 0 where
  pub others : (j : ℕ) → j ≢ m.number → slice_get rows j ≡ slice_get known j
  pub as_many : length rows ≡ length known
  pub origin : o ≡ m.origin

abbrev pub with_row : Share → SeatRow → Share
with_row m r = record m { row = r }
