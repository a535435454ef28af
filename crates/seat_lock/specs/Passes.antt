-- What a pass is to its caller.
use Rattle.std.specs.Prelude.{◌≡◌, ◌==◌, ℕ, Bool, true, false, ◌%◌, ◌^◌, List, [], ◌∷◌, length, slice_get, None, Some, Option}
use Rattle.atomic_table.specs.Table.{Me}
use Rattle.seat_lock.specs.declared.lock.Pass.TheInside.{Inside}
use Rattle.seat_lock.specs.declared.rows.Origin.{Origin}
use Rattle.seat_lock.specs.declared.rows.SeatRow.{SeatRow}
use Rattle.seat_lock.specs.declared.view.Share.{Share}
use Rattle.seat_lock.specs.declared.view.View.{View}
use Rattle.seat_lock.specs.Known.{IsKnown, with_row}
use Rattle.seat_lock.specs.Shown.{ClosingView, PassView, TableId}
use Rattle.seat_lock.specs.Views.{resting, having, share_of}

abbrev pub rows_if : Bool → List SeatRow → List SeatRow
rows_if true rows = rows
rows_if false rows = []

-- a seat with the turn, or without a ticket
abbrev pub standing : {T : Type 0} → Bool → View → Me (Option T) View
standing true v = (having v.ticket v.known (share_of v), (0, None) ∷ [])
standing false v = (resting (share_of v), [])

abbrev pub has_turn : View → Bool
has_turn v = v.stage == 2

module _ {T : Type 0} where
  abbrev pub shown : Inside T → PassView
  shown p = let v : View = p.seat.me.0 in record { of = p.seat.table_id; share = share_of v; turn = has_turn v; known = rows_if (has_turn v) v.known }

  -- between two calls a pass has the turn, or no ticket
  pub record IsSound (p : Inside T) : Type 0 where
    pub stands : p.seat.me ≡ standing (has_turn p.seat.me.0) p.seat.me.0
    pub ticket_is : has_turn p.seat.me.0 ≡ true → p.ticket ≡ p.seat.me.0.ticket % 2 ^ 64

-- a pass of this lock without the turn
pub record IsIdle (of : TableId) (p : PassView) : Type 0 where
  pub of_it : p.of ≡ of
  pub no_turn : p.turn ≡ false

-- the pass of the number i, as it is made
pub record IsMade (of : TableId) (rows : List SeatRow) (o : Origin) (i : ℕ) (p : PassView) : Type 0 where
  pub number : p.share.number ≡ i
  pub known : IsKnown rows o p.share
  pub idle : IsIdle of p

-- at the end of a lock a state with these rows and this origin has the rows of all passes
pub record IsEnd (lock : ClosingView) (rows : List SeatRow) (o : Origin) : Type 0 where
  pub known : (i : ℕ) (m : Share) → slice_get lock.back i ≡ Some m → IsKnown rows o m
  pub as_many : length rows ≡ lock.seats
  pub origin : o ≡ lock.origin

-- the pass p took a state with these rows
abbrev pub took : List SeatRow → PassView → PassView
took rows p = record p { turn = true; known = rows }

-- the pass p gave a state with this row
abbrev pub gave : SeatRow → PassView → PassView
gave r p = record p { share = with_row p.share r; turn = false; known = [] }
