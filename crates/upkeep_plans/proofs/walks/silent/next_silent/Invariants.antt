use Rattle.std.proofs.Common.{◌≡◌, length}
use Rattle.upkeep_plans.specs.Left.{silent_left}
use Rattle.upkeep_plans.proofs.KeyWalks.{processes_left}
use Rattle.upkeep_plans.proofs.walks.silent.next_silent.Given as goal

abbrev pub invariant-loop-pid : goal.invariant-loop-pid
invariant-loop-pid l = silent_left l.scene l.past ≡ silent_left l.scene l.initial.past

abbrev pub decreases-loop-pid : goal.decreases-loop-pid
decreases-loop-pid l = length (processes_left l.scene l.past)
