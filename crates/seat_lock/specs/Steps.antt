-- What a step tells the seat that makes it: the word that it found, and its view and slots before and after.
use Rattle.std.specs.Prelude.{◌≡◌, ◌≢◌, ℕ, ◌%◌, ◌^◌, List, [], ◌∷◌, slice_get, Option, Some}
use Rattle.atomic_table.specs.Table.{Me, Step}
use Rattle.seat_lock.specs.declared.rows.Origin.{Origin}
use Rattle.seat_lock.specs.declared.rows.SeatRow.{SeatRow}
use Rattle.seat_lock.specs.declared.view.View.{View}
use Rattle.seat_lock.specs.Known.{IsKnown, with_row}
use Rattle.seat_lock.specs.Views.{resting, waiting, having, share_of}

abbrev Sat : Type 0 → Type 0
Sat T = Me (Option T) View

-- the seat has the ticket that it found
abbrev pub drew : {T : Type 0} → Step (Option T) → Sat T → ℕ → Sat T → Type 0
drew st me found me' = (t : ℕ) × (found ≡ t % 2 ^ 64) × (me' ≡ (waiting t (share_of me.0), []))

-- where the seat found its ticket it has the turn and a state whose row it knows
abbrev pub looked : {T : Type 0} → (T → List SeatRow) → (T → Origin) → Step (Option T) → Sat T → ℕ → Sat T → Type 0
looked {T} rows_of origin_of st me found me' =
    (found ≡ me.0.ticket % 2 ^ 64 → (x : T) × (me' ≡ (having me.0.ticket (rows_of x) (share_of me.0), (0, Some x) ∷ [])) × IsKnown (rows_of x) (origin_of x) (share_of me.0))
    × (found ≢ me.0.ticket % 2 ^ 64 → me' ≡ me)

-- the seat has no ticket, and its row is that of the state x which it gave
abbrev pub handed : {T : Type 0} → (T → List SeatRow) → Step (Option T) → Sat T → ℕ → Sat T → Type 0
handed {T} rows_of st me found me' = (x : T) → me.1 ≡ (0, Some x) ∷ []
    → (r : SeatRow) × (slice_get (rows_of x) (share_of me.0).number ≡ Some r) × (me' ≡ (resting (with_row (share_of me.0) r), []))
