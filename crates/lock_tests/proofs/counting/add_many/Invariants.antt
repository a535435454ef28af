use Rattle.lock_tests.specs.Counts.{IsAdded}
use Rattle.lock_tests.proofs.counting.add_many.Given as goal

abbrev pub invariant-loop-time : goal.invariant-loop-time
invariant-loop-time g l = IsAdded l._time l.fn.pass l.pass
