use Rattle.std.proofs.Common.{◌≡◌, ◌-◌, length, drop}
use Rattle.job_walks.specs.Left.{named_left}
use Rattle.job_walks.proofs.selected.next_named.Given as goal

abbrev pub invariant-loop-at : goal.invariant-loop-at
invariant-loop-at l = named_left l.tables.world (drop l.at l.names) l.past ≡ named_left l.tables.world (drop l.initial.at l.names) l.initial.past

abbrev pub decreases-loop-at : goal.decreases-loop-at
decreases-loop-at l = length l.names - l.at
