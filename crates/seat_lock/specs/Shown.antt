-- What contracts see of a lock and of a pass.
use Rattle.std.specs.Prelude.{ℕ, Bool, List}
pub use Rattle.atomic_table.specs.Seated.{TableId}
use Rattle.seat_lock.specs.declared.rows.Origin.{Origin}
use Rattle.seat_lock.specs.declared.rows.SeatRow.{SeatRow}
use Rattle.seat_lock.specs.declared.view.Share.{Share}

-- which lock it is, how many seats it has, and its state's origin
pub record LockView : Type 0 where
  pub of : TableId
  pub seats : ℕ
  pub origin : Origin

-- the lock that it is of, its share, whether it has the turn, and if so the rows of the state that it took
pub record PassView : Type 0 where
  pub of : TableId
  pub share : Share
  pub turn : Bool
  pub known : List SeatRow

-- a lock that is being closed, with the shares of the passes that are back, the last one first
pub record ClosingView : Type 0 where
  pub of : TableId
  pub seats : ℕ
  pub origin : Origin
  pub back : List Share
