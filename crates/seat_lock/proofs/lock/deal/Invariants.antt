use Rattle.std.proofs.Common.{◌≡◌, ℕ, [], length, drop, slice_get, Some, vec_len, vec_capacity}
use Rattle.seat_lock.specs.Passes.{IsMade}
use Rattle.seat_lock.specs.Shown.{PassView}
use Rattle.seat_lock.specs.Views.{holding, numbered}
use Rattle.seat_lock.proofs.lock.deal.Given as goal

abbrev pub invariant-loop-number : goal.invariant-loop-number
invariant-loop-number g l =
    let key : g.row.T.Denot = l.fn.table.key.value in
    (l.seat.table_id ≡ l.fn.table.table_id)
    × (l.seat.me ≡ (holding (numbered (g.T.Seated.origin key) l._number (drop l._number (g.T.Seated.rows key))), []))
    × (length l.passes.items ≡ l._number)
    × (vec_len l.passes ≡ l._number)
    × (vec_capacity l.passes ≡ vec_capacity l.fn.passes)
    × ((i : ℕ) (p : PassView) → slice_get l.passes.items i ≡ Some p → IsMade l.fn.table.table_id (g.T.Seated.rows key) (g.T.Seated.origin key) i p)
