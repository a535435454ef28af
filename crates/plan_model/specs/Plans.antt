-- A plan: what a command comes to, before it is applied.
use Rattle.std.specs.Prelude.{◌≡◌, ℕ, Bool, true, false, List, length, Option, None, Some}
use Rattle.std.specs.List.{count_by, sum_by}
use Rattle.job_states.specs.declared.answer.Answer.{Answer}
use Rattle.job_states.specs.declared.answer.Answer.TheVariants as answer
use Rattle.job_states.specs.declared.row.Mode.{Mode}
use Rattle.job_states.specs.declared.row.Row.{Row}
use Rattle.job_states.specs.declared.transition.Transaction.{Transaction}
use Rattle.job_states.specs.declared.transition.Transition.{Transition}
use Rattle.job_states.specs.declared.transition.Transition.TheVariants.{Enqueue, Claim, Register}

pub record Plan : Type 0 where
  pub tx : Transaction
  -- the rows that it holds from its begin to its end, in their order
  pub rows : List (Row × Mode)
  pub answer : Answer

-- ---- kinds of transitions

abbrev pub is_enqueue : Transition → Bool
is_enqueue (Enqueue row put) = true
is_enqueue t = false

abbrev pub is_claim : Transition → Bool
is_claim (Claim id pid) = true
is_claim t = false

abbrev pub is_register : Transition → Bool
is_register (Register pid kind name) = true
is_register t = false

-- how many transitions of a plan are such
abbrev pub how_many : (Transition → Bool) → Plan → ℕ
how_many passes plan = count_by passes plan.tx.steps

-- ---- what an answer tells of its plan

abbrev pub one : Option ℕ → ℕ
one None = 0
one (Some id) = 1

-- how many new jobs it names
abbrev pub jobs_named : Answer → ℕ
jobs_named (answer.Enqueued made) = one made.id
jobs_named (answer.Bulk jobs) = sum_by (λ made. one made.id) jobs
jobs_named (answer.Raised id next state unblocked) = one next
jobs_named (answer.Ticked id run_at state) = one id
jobs_named a = 0

-- how many claimed jobs it hands out
abbrev pub jobs_handed : Answer → ℕ
jobs_handed (answer.Polled jobs) = length jobs
jobs_handed a = 0

-- the answer names a job for each new one, and hands one out for each claim
pub record IsTold (plan : Plan) : Type 0 where
  pub made : how_many is_enqueue plan ≡ jobs_named plan.answer
  pub claimed : how_many is_claim plan ≡ jobs_handed plan.answer
