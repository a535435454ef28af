use Rattle.job_states.specs.declared.row.Row.TheVariants.{Job, Process}
use Rattle.situation_model.specs.GoodSituation.{job_made, pid_made}
use Rattle.situation_model.proofs.Made.{made_once, new_job, new_process}
use Rattle.situation_model.proofs.laws.new_numbers_differ.Goals as goal

pub returns-clause-jobs : goal.returns-clause-jobs
returns-clause-jobs c = made_once job_made Job new_job

pub returns-clause-processes : goal.returns-clause-processes
returns-clause-processes c = made_once pid_made Process new_process
