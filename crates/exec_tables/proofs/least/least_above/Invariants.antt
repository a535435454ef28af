use Rattle.std.proofs.Common.{Contains, Some}
use Rattle.exec_tables.specs.Next.{IsNext}
use Rattle.exec_tables.proofs.least.least_above.Given as goal

-- the least of those that were passed over
abbrev pub invariant-loop-listed : goal.invariant-loop-listed
invariant-loop-listed g l = IsNext g.X.Ord.cmp (λ x. Contains l.yielded (Some x)) l.past l.least
