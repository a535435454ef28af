use Rattle.std.proofs.Common.{◌≡◌, ◌+◌}
use Rattle.book_core.specs.Counts.{count_in}
use Rattle.book_core.proofs.counts.count_in.Given as goal

abbrev pub invariant-loop-plan : goal.invariant-loop-plan
invariant-loop-plan l = record {
  can : (goal.iterator-loop-plan).can_next l.plan-iterator;
  ends : (goal.iterator-loop-plan).is_finite l.plan-iterator;
  sum : l.sum + count_in l.counted l.plan-iterator ≡ count_in l.counted l.opened.entries;
}
