-- What becomes of a job that raised an error.
use Rattle.std.specs.Prelude.{ℕ, ◌+◌, ◌*◌, ◌^◌, min, Bool, true, nat_lt, List, [], ◌∷◌, Option, Some, None, if◌then◌else◌}
use Rattle.std.specs.List.{find}
use Rattle.std.specs.Option.{option_or, option_map_or}
use Rattle.std.specs.Str.{bytes_eq}
use Rattle.job_states.specs.declared.job.Counted.{Counted}
use Rattle.queue_config.specs.declared.config.Class.{Class}
use Rattle.queue_config.specs.declared.config.Config.{Config}
use Rattle.queue_config.specs.declared.config.ErrorKeys.{ErrorKeys}
use Rattle.queue_config.specs.declared.config.Rule.{Rule}
use Rattle.queue_config.specs.declared.config.RuleAct.{RuleAct}
use Rattle.queue_config.specs.declared.config.RuleAct.TheVariants as rule
use Rattle.queue_config.specs.declared.retry.Act.TheVariants.{Fail, Discard, Retry}
use Rattle.queue_config.specs.declared.retry.Decision.{Decision}
use Rattle.queue_config.specs.Errors.{is_kind_of}
use Rattle.queue_config.specs.Limits.{find_class}
use Rattle.queue_config.specs.ListText.{list_text}

-- ---- the rule

abbrev pub fits : List ErrorKeys → List ℕ → Rule → Bool
fits errors error rule = is_kind_of errors rule.list error

-- the last element that is taken and its place, where the first of all has the place n
unfoldable pub last_from : {X : Type 0} → (X → Bool) → ℕ → List X → Option (ℕ × X)
last_from takes n [] = None
last_from takes n (x ∷ xs) = option_or (last_from takes (n + 1) xs) (if takes x then Some (n, x) else None)

abbrev pub rules_in : Option Class → List Rule
rules_in None = []
rules_in (Some class) = class.rules

-- ---- the decision

-- how often the errors of a list came before
abbrev pub kept_count : List Counted → List ℕ → ℕ
kept_count counts list = option_map_or (λ c. c.count) (find (λ c. bytes_eq c.list list) counts) 0

-- in seconds
abbrev pub wait_of : Option ℕ → ℕ → ℕ
wait_of (Some seconds) count = seconds
wait_of None count = min 31_536_000 (count ^ 4 + 2)

-- there is an attempt left
abbrev pub is_below : ℕ → Option ℕ → Bool
is_below count None = true
is_below count (Some attempts) = nat_lt count attempts

abbrev pub by_act : ℕ → RuleAct → ℕ → Decision
by_act place rule.Discard count = record { rule = Some place; count = 0; act = Discard }
by_act place (rule.Retry wait attempts) count = record { rule = Some place; count = count; act = if is_below count attempts then Retry (wait_of wait count * 1_000_000) else Fail }

-- The count of a rule is the one that is kept of its list, and one more, at most 65535. Where no rule fits, the job fails.
abbrev pub decided : List Counted → Option (ℕ × Rule) → Decision
decided counts None = record { rule = None; count = 0; act = Fail }
decided counts (Some at) = by_act at.0 at.1.act (min 65_535 (kept_count counts (list_text at.1.list) + 1))

-- by the last rule of the class that fits the error
abbrev pub decision_of : Config → List ℕ → List ℕ → List Counted → Decision
decision_of config class error counts = decided counts (last_from (fits config.errors error) 0 (rules_in (find_class class config.classes)))
