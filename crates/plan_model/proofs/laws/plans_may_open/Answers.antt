use Rattle.plan_model.proofs.EachCommand.{job_opens, upkeep_opens}
use Rattle.plan_model.proofs.laws.plans_may_open.Goals as goal

pub returns-clause-jobs : goal.returns-clause-jobs
returns-clause-jobs c = λ s command plan seat good fits vacant e. job_opens s seat good vacant command plan fits e

pub returns-clause-upkeep : goal.returns-clause-upkeep
returns-clause-upkeep c = λ s command plan seat good fits vacant e. upkeep_opens s seat good vacant command plan fits e
