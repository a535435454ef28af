-- From what a command drafts to its plan, or its first refusal.
use Rattle.std.specs.Prelude.{List, [], ◌∷◌, ◌++◌, Option, None, Some, Result, Ok, Err}
use Rattle.job_states.specs.declared.answer.Answer.{Answer}
use Rattle.job_states.specs.declared.answer.Refused.{Refused}
use Rattle.plan_model.specs.Drafts.{Draft}
use Rattle.plan_model.specs.Plans.{Plan}
use Rattle.plan_model.specs.Refusals.{first_met, numbers_spent}
use Rattle.plan_model.specs.Rows.{in_order}
use Rattle.plan_model.specs.Scenes.{Scene}

-- what a command does where it isn't refused
pub record Drafted : Type 0 where
  pub draft : Draft
  pub answer : Answer

abbrev pub drafted : Draft → Answer → Drafted
drafted d a = record { draft = d; answer = a }

-- a draft with what its answer is made of
abbrev pub answering : {A : Type 0} → Draft × A → (A → Answer) → Drafted
answering e answer = drafted e.0 (answer e.1)

abbrev pub plan_with : Scene → Drafted → Plan
plan_with s made = record { tx = record { moment = s.moment; steps = made.draft.steps }; rows = in_order made.draft.rows; answer = made.answer }

abbrev pub unless_met : Option Refused → Plan → Result Plan Refused
unless_met None plan = Ok plan
unless_met (Some refused) plan = Err refused

-- the plan, unless one of the causes is met, which stand in order, or numbers are spent
abbrev pub planned : Scene → (causes : List (Option Refused)) → Drafted → Result Plan Refused
planned s causes made = unless_met (first_met (causes ++ numbers_spent s made.draft ∷ [])) (plan_with s made)
