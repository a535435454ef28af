use Rattle.std.proofs.Common.{length}
use Rattle.plan_model.specs.UpkeepCommands.{clear_case, is_over}
use Rattle.upkeep_plans.specs.Standing.{StandJobs, itself}
use Rattle.upkeep_plans.specs.SoFar.{IsSoFar}
use Rattle.upkeep_plans.proofs.clear.clear_each.Given as goal

abbrev pub invariant-loop-job : goal.invariant-loop-job
invariant-loop-job l = IsSoFar clear_case (λ s. StandJobs itself (is_over s) s) l.initial.cases l.initial.jobs l.cases l.jobs

abbrev pub decreases-loop-job : goal.decreases-loop-job
decreases-loop-job l = length l.jobs
