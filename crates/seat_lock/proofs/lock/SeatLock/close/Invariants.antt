use Rattle.std.proofs.Common.{◌≡◌, List, ◌++◌, length}
use Rattle.seat_lock.specs.Shown.{PassView}
use Rattle.seat_lock.proofs.Handing.{shares}
use Rattle.seat_lock.proofs.lock.SeatLock.close.Given as goal

abbrev pub invariant-loop-pass : goal.invariant-loop-pass
invariant-loop-pass g l =
    (rest : List PassView)
    × (l.fn.passes.items ≡ l.passes.items ++ rest)
    × (l.closing ≡ record { of = l.fn.self.of; seats = l.fn.self.seats; origin = l.fn.self.origin; back = shares rest })

abbrev pub decreases-loop-pass : goal.decreases-loop-pass
decreases-loop-pass g l = length l.passes.items
