use Rattle.std.proofs.Common.{length}
use Rattle.plan_model.specs.UpkeepCommands.{unblock_case}
use Rattle.upkeep_plans.specs.Left.{late_from}
use Rattle.upkeep_plans.specs.SoFar.{IsSoFar}
use Rattle.upkeep_plans.specs.Standing.{StandLate}
use Rattle.upkeep_plans.proofs.unblock.unblock_at.Given as goal

abbrev pub invariant-loop-job : goal.invariant-loop-job
invariant-loop-job l = IsSoFar unblock_case StandLate l.initial.cases (late_from l.initial.cases.scene l.key l.initial.jobs) l.cases (late_from l.initial.cases.scene l.key l.jobs)

abbrev pub decreases-loop-job : goal.decreases-loop-job
decreases-loop-job l = length l.jobs
