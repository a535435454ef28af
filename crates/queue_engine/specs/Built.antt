-- Which commands can be begun so far: those that are planned.
use Rattle.std.specs.Prelude.{Bool, if◌then◌else◌}
use Rattle.job_states.specs.declared.command.Command.{Command}
use Rattle.job_plans.specs.Built as job
use Rattle.situation_model.specs.Situations.{is_about_jobs}
use Rattle.upkeep_plans.specs.Built as upkeep

abbrev pub is_built : Command → Bool
is_built c = if is_about_jobs c then job.is_built c else upkeep.is_built c
