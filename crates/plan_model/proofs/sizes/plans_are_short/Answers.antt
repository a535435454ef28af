use Rattle.plan_model.proofs.StepCounts.{job_short, upkeep_short}
use Rattle.plan_model.proofs.sizes.plans_are_short.Goals as goal

pub returns-clause-jobs : goal.returns-clause-jobs
returns-clause-jobs c = λ s command plan fits e. job_short s command plan fits e

pub returns-clause-upkeep : goal.returns-clause-upkeep
returns-clause-upkeep c = λ s command plan good e. upkeep_short s good command plan e
