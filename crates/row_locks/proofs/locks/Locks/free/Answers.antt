use Rattle.std.proofs.Common.{◌==◌, not}
use Rattle.row_locks.specs.Locks.{AreSoundLocks}
use Rattle.row_locks.specs.Seats.{locks_in}
use Rattle.row_locks.proofs.SeatLocks.{locks_in_order}
use Rattle.row_locks.proofs.Takings.{exclusive_filter}
use Rattle.row_locks.proofs.locks.Locks.free.Goals as goal

sound : (c : goal.After-let_go) → AreSoundLocks (locks_in c.let_go.new.self)
sound c = record {
  in_order = locks_in_order c.let_go.new.self c.let_go.ensures.in_order;
  exclusive = rw c.let_go.ensures.left (exclusive_filter (λ l. not (l.seat == c.args.seat)) (locks_in c.self.inside.seats) c.self.invariant.exclusive);
}

pub invariant_of-self : goal.invariant_of-self
invariant_of-self c = sound c

pub returns-clause-sound : goal.returns-clause-sound
returns-clause-sound c = sound c
