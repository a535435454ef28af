use Rattle.std.proofs.Common.{length}
use Rattle.plan_model.specs.UpkeepCommands.{dispatch_case}
use Rattle.upkeep_plans.specs.Standing.{StandJobs, is_due_at, itself}
use Rattle.upkeep_plans.specs.SoFar.{IsSoFar}
use Rattle.upkeep_plans.proofs.dispatch.dispatch_each.Given as goal

abbrev pub invariant-loop-job : goal.invariant-loop-job
invariant-loop-job l = IsSoFar dispatch_case (λ s. StandJobs itself (is_due_at s.moment) s) l.initial.cases l.initial.jobs l.cases l.jobs

abbrev pub decreases-loop-job : goal.decreases-loop-job
decreases-loop-job l = length l.jobs
