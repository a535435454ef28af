-- The rule of the table.
use Rattle.std.specs.Prelude.{◌≡◌, ◌≢◌, ◌⊎◌, ◌==◌, ℕ, ◌+◌, ◌-◌, ◌%◌, ◌^◌, ◌<◌, ◌≤◌, Bool, true, false, List, [], ◌∷◌, length, slice_get, Option, Some}
use mathlib.Core.Option.{some, none}
use lib.ListN.{get_elem?}
use Rattle.atomic_table.specs.Table.{State}
use Rattle.seat_lock.specs.declared.rows.Origin.{Origin}
use Rattle.seat_lock.specs.declared.rows.SeatRow.{SeatRow}
use Rattle.seat_lock.specs.declared.view.Share.{Share}
use Rattle.seat_lock.specs.declared.view.View.{View}
use Rattle.seat_lock.specs.Known.{IsKnown}

abbrev pub if_so : Bool → ℕ → ℕ
if_so true n = n
if_so false n = 0

-- how often the number k is among these
abbrev pub times : ℕ → List Share → ℕ
times k [] = 0
times k (m ∷ ms) = if_so (m.number == k) 1 + times k ms

-- how many more tickets may be drawn by what is cut from this view
abbrev pub spare : View → ℕ
spare v = if_so (v.stage == 0) (length v.shares)

-- f of each view, added up
abbrev pub total : (View → ℕ) → List View → ℕ
total f [] = 0
total f (v ∷ vs) = f v + total f vs

-- The view of seat j agrees with the rows and the origin. The queue has the seats with tickets, the served one first
pub record Fits (served : ℕ) (queue : List ℕ) (rows : List SeatRow) (o : Origin) (j : ℕ) (v : View) : Type 0 where
  pub own : (i : ℕ) (m : Share) → slice_get v.shares i ≡ Some m → IsKnown rows o m
  pub lined : 0 < v.stage → (served ≤ v.ticket) × (get_elem? queue (v.ticket - served) ≡ some j)
  pub turn : v.stage ≡ 2 → (v.ticket ≡ served) × (v.known ≡ rows)

-- the slot is at home, with a state that has these rows, and nobody has the turn
pub record IsFree {T : Type 0} (rows_of : T → List SeatRow) (origin_of : T → Origin) (rows : List SeatRow) (o : Origin) (s : State (Option T) View) : Type 0 where
  pub state : T
  pub home : s.homes ≡ some (Some state) ∷ []
  pub rows_are : rows_of state ≡ rows
  pub origin_is : origin_of state ≡ o
  pub nobody_has : (j : ℕ) (v : View) → get_elem? s.views j ≡ some v → v.stage ≢ 2

-- the slot is out, and somebody has the turn
pub record IsTaken {T : Type 0} (s : State (Option T) View) : Type 0 where
  pub out : s.homes ≡ none ∷ []
  pub holder : ℕ
  pub view : View
  pub there : get_elem? s.views holder ≡ some view
  pub has : view.stage ≡ 2

-- the key is the state at the start
pub record Kept {T : Type 0} (rows_of : T → List SeatRow) (origin_of : T → Origin) (key : T) (s : State (Option T) View) : Type 0 where
  pub served : ℕ
  pub queue : List ℕ
  pub rows : List SeatRow
  pub words_are : s.words ≡ (served + length queue) % 2 ^ 64 ∷ served % 2 ^ 64 ∷ []
  pub each : (j : ℕ) (v : View) → get_elem? s.views j ≡ some v → Fits served queue rows (origin_of key) j v
  pub room : length queue + total spare s.views ≡ length (rows_of key)
  pub few : length (rows_of key) ≤ 64
  pub once : (k : ℕ) → total (λ v. times k v.shares) s.views ≤ 1
  pub as_many : length rows ≡ length (rows_of key)
  pub slot : IsFree rows_of origin_of rows (origin_of key) s ⊎ IsTaken s
