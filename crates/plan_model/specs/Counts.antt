-- How often the errors of each list came, once a rule decided.
use Rattle.std.specs.Prelude.{ℕ, ◌+◌, ◌-◌, List, [], ◌∷◌, ◌++◌, length, map, drop, slice_get, Option, None, Some, if◌then◌else◌}
use Rattle.std.specs.List.{list_any}
use Rattle.std.specs.Str.{bytes_eq}
use Rattle.job_states.specs.declared.job.Counted.{Counted}
use Rattle.queue_config.specs.declared.config.Config.{Config}
use Rattle.queue_config.specs.declared.config.Rule.{Rule}
use Rattle.queue_config.specs.declared.config.RuleAct.{RuleAct}
use Rattle.queue_config.specs.declared.config.RuleAct.TheVariants as rule
use Rattle.queue_config.specs.declared.retry.Decision.{Decision}
use Rattle.queue_config.specs.Limits.{find_class}
use Rattle.queue_config.specs.ListText.{list_text}
use Rattle.queue_config.specs.Retry.{rules_in}
use Rattle.queue_model.specs.Chain.{◌>>=◌}

abbrev pub counted : (list : List ℕ) → (count : ℕ) → Counted
counted list count = record { list = list; count = count }

-- the list's count at its old place, or last; where 32 others stand the first of them goes
abbrev pub with_count : List Counted → (list : List ℕ) → (count : ℕ) → List Counted
with_count counts list count =
    if list_any (λ c. bytes_eq c.list list) counts then map (λ c. if bytes_eq c.list list then counted list count else c) counts
    else drop (length counts + 1 - 32) counts ++ counted list count ∷ []

-- a rule that retries counts, and one that discards doesn't
abbrev pub counts_by : List Counted → (count : ℕ) → Rule → List Counted
counts_by counts count r = by r.act
  where
    by : RuleAct → List Counted
    by rule.Discard = counts
    by (rule.Retry wait attempts) = with_count counts (list_text r.list) count

abbrev pub counts_where : List Counted → (count : ℕ) → Option Rule → List Counted
counts_where counts count None = counts
counts_where counts count (Some r) = counts_by counts count r

-- the counts after the decision on a job of the class
abbrev pub counts_after : Config → (class : List ℕ) → Decision → List Counted → List Counted
counts_after settings class decision counts = counts_where counts decision.count (decision.rule >>= slice_get (rules_in (find_class class settings.classes)))
