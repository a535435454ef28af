use Rattle.std.proofs.Common.{◌+◌, ◌≤◌, ◌^◌, take}
use Rattle.transaction_judge.specs.Peek.{Peeks}
use Rattle.transaction_judge.proofs.Trail.{Then}
use Rattle.transaction_judge.proofs.after.peek_after.Given as goal

abbrev pub invariant-loop-at : goal.invariant-loop-at
invariant-loop-at l = record {
  so : Then l.tables.world l.moment (take l.at l.done) (λ v. Peeks v l.held l.generation l.peek);
  holders : l.peek.holders ≤ 2 ^ 63 + l.at;
  claims : l.peek.claims ≤ 2 ^ 63 + l.at;
}
