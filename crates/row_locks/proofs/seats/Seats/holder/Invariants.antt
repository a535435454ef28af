use Rattle.std.proofs.Common.{ℕ, Option}
use Rattle.row_locks.specs.Asked.{row_of}
use Rattle.row_locks.specs.Seats.{AreSeatsInOrder, IsLeastHolder, locks_in}
use Rattle.row_locks.proofs.SeatLocks.{seen}
use Rattle.row_locks.proofs.seats.Seats.holder.Given as goal

abbrev pub invariant-loop-by : goal.invariant-loop-by
invariant-loop-by l = record {
  in_order : AreSeatsInOrder (seen (λ v. v.items) l.by-iterator);
  rest : (least : Option ℕ) → IsLeastHolder (locks_in (seen (λ v. v.items) l.by-iterator)) l.seat (row_of l.row) l.mode least → IsLeastHolder (locks_in l.self) l.seat (row_of l.row) l.mode least;
}
