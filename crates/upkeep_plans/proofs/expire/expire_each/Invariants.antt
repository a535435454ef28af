use Rattle.std.proofs.Common.{length}
use Rattle.plan_model.specs.UpkeepCommands.{expire_case}
use Rattle.upkeep_plans.specs.Standing.{AreExpired}
use Rattle.upkeep_plans.specs.SoFar.{IsSoFar}
use Rattle.upkeep_plans.proofs.expire.expire_each.Given as goal

abbrev pub invariant-loop-key : goal.invariant-loop-key
invariant-loop-key l = IsSoFar expire_case AreExpired l.initial.cases l.initial.keys l.cases l.keys

abbrev pub decreases-loop-key : goal.decreases-loop-key
decreases-loop-key l = length l.keys
