-- What an error leaves in its job's row.
use Rattle.std.specs.Prelude.{◌+◌, ℕ, min, List, Option, slice_get}
use Rattle.job_states.specs.declared.job.JobRow.{JobRow}
use Rattle.job_states.specs.declared.transition.Counters.{Counters}
use Rattle.queue_config.specs.Limits.{find_class}
use Rattle.queue_config.specs.Retry.{decision_of, rules_in}
use Rattle.queue_config.specs.declared.config.Config.{Config}
use Rattle.queue_config.specs.declared.config.Rule.{Rule}
use Rattle.queue_config.specs.declared.retry.Decision.{Decision}
use Rattle.queue_model.specs.Chain.{◌>>=◌}
use Rattle.queue_model.specs.declared.Job.{Job}
use Rattle.plan_model.specs.Counts.{counts_after}
use Rattle.plan_model.specs.Scenes.{Scene}

-- the rule that decided
abbrev pub rule_of : Config → (class : List ℕ) → Decision → Option Rule
rule_of settings class decision = decision.rule >>= slice_get (rules_in (find_class class settings.classes))

-- what the decision leaves in a row that was performed once more
abbrev pub counters_by : Config → Decision → JobRow → Counters
counters_by settings decision row = record { executions = min 65_535 (row.executions + 1); counts = counts_after settings row.class decision row.counts }

-- what the error leaves in the job's row
abbrev pub counters_left : Scene → (error : List ℕ) → Job → Counters
counters_left s error j = counters_by s.settings (decision_of s.settings j.row.class error j.row.counts) j.row
