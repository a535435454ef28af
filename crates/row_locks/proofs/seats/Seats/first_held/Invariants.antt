use Rattle.std.specs.List.{AllWithin}
use Rattle.row_locks.specs.Locks.{IsFree}
use Rattle.row_locks.specs.Seats.{locks_in}
use Rattle.row_locks.proofs.seats.Seats.first_held.Given as goal

abbrev pub invariant-loop-index : goal.invariant-loop-index
invariant-loop-index l = AllWithin (λ asked. IsFree (locks_in l.self) l.seat asked.0 asked.1) l.rows 0 l.index
