-- What is counted of open plans.
use Rattle.std.specs.Prelude.{ℕ, ◌==◌, Bool, true, false, List, length, Option, None, Some}
use Rattle.std.specs.List.{count_by, sum_by}
use Rattle.std.specs.Map.{values_of}
use Rattle.job_states.specs.declared.transition.Transition.{Transition}
use Rattle.job_states.specs.declared.transition.Transition.TheVariants.{Claim}
use Rattle.plan_model.specs.Plans.{is_enqueue, is_register}
use Rattle.book_core.specs.declared.counts.Counted.{Counted}
use Rattle.book_core.specs.declared.counts.Counted.TheVariants.{Any, Enqueues, Registers, ClaimsBy}
use Rattle.book_core.specs.declared.opened.Opened.{Opened}

abbrev pub is_claim_by : (pid : ℕ) → Transition → Bool
is_claim_by pid (Claim id by) = by == pid
is_claim_by pid t = false

abbrev pub is_counted : Counted → Transition → Bool
is_counted Any t = true
is_counted Enqueues t = is_enqueue t
is_counted Registers t = is_register t
is_counted (ClaimsBy pid) t = is_claim_by pid t

-- how many transitions of open plans are counted
abbrev pub count_in : Counted → List (ℕ × Opened) → ℕ
count_in counted opened = sum_by (λ plan. count_by (is_counted counted) plan.tx.steps) (values_of opened)

-- how many there are
abbrev pub planned_in : List (ℕ × Opened) → ℕ
planned_in opened = sum_by (λ plan. length plan.tx.steps) (values_of opened)

abbrev pub planned_at : Option Opened → ℕ
planned_at None = 0
planned_at (Some plan) = length plan.tx.steps
