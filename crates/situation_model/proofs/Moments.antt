-- The moment of a plan that is opened is the greatest one given.
use Rattle.std.proofs.Common.{◌≡◌, ◌≤◌, ℕ, Bool, true, false, cond, max, List, [], ◌∷◌, ◌++◌, Option, None, Some, Ok, fold, ap, sym, ◌∙◌, refl, arith}
use Rattle.job_states.specs.declared.answer.Refused.{Refused}
use Rattle.job_states.specs.declared.command.Command.{Command}
use Rattle.job_states.specs.declared.transition.Transaction.{Transaction}
use Rattle.job_states.specs.declared.transition.Transition.{Transition}
use Rattle.queue_model.specs.Named.{noted}
use Rattle.queue_model.specs.declared.Numbers.{Numbers}
use Rattle.plan_model.specs.Books.{given_by}
use Rattle.plan_model.specs.JobCommands as jobs
use Rattle.plan_model.specs.Planned.{Drafted, plan_with, planned, unless_met}
use Rattle.plan_model.specs.Plans.{Plan}
use Rattle.plan_model.specs.Refusals.{first_met, numbers_spent}
use Rattle.plan_model.specs.Scenes.{Scene}
use Rattle.plan_model.specs.UpkeepCommands as upkeep
use Rattle.situation_model.specs.Situations.{command_plan, is_about_jobs}

-- the plan of a command is what it drafts
pub planned_is : (s : Scene) (causes : List (Option Refused)) (made : Drafted) (plan : Plan) → planned s causes made ≡ Ok plan → plan_with s made ≡ plan
planned_is s causes made plan e = by (first_met (causes ++ numbers_spent s made.draft ∷ [])) e
  where
    by : (o : Option Refused) → unless_met o (plan_with s made) ≡ Ok plan → plan_with s made ≡ plan
    by None e = cc
    by (Some refused) e = cc

planned_at : (s : Scene) (causes : List (Option Refused)) (made : Drafted) (plan : Plan) → planned s causes made ≡ Ok plan → plan.tx.moment ≡ s.moment
planned_at s causes made plan e = ap (λ (p : Plan). p.tx.moment) (sym (planned_is s causes made plan e))

pub plan_at : (s : Scene) (c : Command) (plan : Plan) → command_plan s c ≡ Ok plan → plan.tx.moment ≡ s.moment
plan_at s c plan e = by (is_about_jobs c) e
  where
    by : (b : Bool) → cond b (jobs.job_plan s c) (upkeep.upkeep_plan s c) ≡ Ok plan → plan.tx.moment ≡ s.moment
    by true e = planned_at s (jobs.refusals s c) (jobs.does s c) plan e
    by false e = planned_at s (upkeep.refusals s c) (upkeep.does s c) plan e

-- ---- the greatest moment given

all_at : (n : Numbers) (m : ℕ) (ts : List Transition) → m ≤ n.moment → (fold (λ n t. noted n m t) n ts).moment ≡ n.moment
all_at n m [] h = refl
all_at n m (t ∷ ts) h =
    let more : m ≤ max n.moment m = omega arith in
    let same : max n.moment m ≡ n.moment = omega arith in
    all_at (noted n m t) m ts more ∙ same

pub given_at : (tx : Transaction) (n : Numbers) → (given_by tx n).moment ≡ max n.moment tx.moment
given_at tx n = let least : tx.moment ≤ max n.moment tx.moment = omega arith in all_at (record n { moment = max n.moment tx.moment }) tx.moment tx.steps least
