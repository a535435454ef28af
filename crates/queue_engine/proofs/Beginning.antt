-- What beginning a command comes to.
use Rattle.std.proofs.Common.{◌≡◌, ◌⊎◌, inl, inr, ⊎_elim, ◌≤◌, ℕ, Bool, true, false, None, Some, Ok, Err, Result, IfErr, OnErr, OnOk, length, max, ap, sym, ◌∙◌, refl, subst, arith, if◌then◌else◌}
use Rattle.job_states.specs.Moment.{IsMoment}
use Rattle.job_states.specs.declared.answer.Refused.{Refused}
use Rattle.job_states.specs.declared.answer.Refused.TheVariants.{NoMemory}
use Rattle.job_states.specs.declared.command.Command.{Command}
use Rattle.journal_keeper.specs.Stands.{Keeper}
use Rattle.plan_model.specs.Begins.{locked, unless_locked}
use Rattle.plan_model.specs.Books.{Book, with_plan}
use Rattle.plan_model.specs.GoodBook.{MayOpen}
use Rattle.plan_model.specs.GoodScene.{IsGoodScene, IsWithinRanges}
use Rattle.plan_model.specs.JobCommands.{job_plan}
use Rattle.plan_model.specs.Plans.{Plan}
use Rattle.plan_model.specs.Scenes.{Scene, scene}
use Rattle.plan_model.specs.UpkeepCommands.{upkeep_plan}
use Rattle.queue_config.specs.declared.config.Config.{Config}
use Rattle.queue_engine.specs.Calls.{Begins}
use Rattle.queue_engine.specs.Running.{Running, running, store}
use Rattle.queue_model.specs.Map as map
use Rattle.situation_model.specs.GoodSituation.{IsGoodSituation}
use Rattle.situation_model.specs.Situations.{Doubt, Situation, begins, begun, command_plan, is_about_jobs, open_at}
use Rattle.situation_model.specs.Steps.{Begin, IsInRange, Step, after_step}

-- ---- a plan may be opened, and is short

abbrev Opens : (Scene → Command → Result Plan Refused) → Type 0
Opens planned = (s : Scene) (c : Command) (plan : Plan) (seat : ℕ) → IsGoodScene s → IsWithinRanges s c → map.get s.book.open_plans seat ≡ None → planned s c ≡ Ok plan → MayOpen s.book seat plan

pub either : Opens job_plan → Opens upkeep_plan → Opens command_plan
either jobs upkeep s c = by (is_about_jobs c)
  where
    by : (b : Bool) → (plan : Plan) (seat : ℕ) → IsGoodScene s → IsWithinRanges s c → map.get s.book.open_plans seat ≡ None → (if b then job_plan s c else upkeep_plan s c) ≡ Ok plan → MayOpen s.book seat plan
    by true = jobs s c
    by false = upkeep s c

pub either_short : ((s : Scene) (c : Command) (plan : Plan) → IsWithinRanges s c → job_plan s c ≡ Ok plan → length plan.tx.steps ≤ 2000)
    → ((s : Scene) (c : Command) (plan : Plan) → IsGoodScene s → upkeep_plan s c ≡ Ok plan → length plan.tx.steps ≤ 2000)
    → (s : Scene) (c : Command) (plan : Plan) → IsGoodScene s → IsWithinRanges s c → command_plan s c ≡ Ok plan → length plan.tx.steps ≤ 2000
either_short jobs upkeep s c plan good within = by (is_about_jobs c)
  where
    by : (b : Bool) → (if b then job_plan s c else upkeep_plan s c) ≡ Ok plan → length plan.tx.steps ≤ 2000
    by true = jobs s c plan within
    by false = upkeep s c plan good

pub later : (a b : ℕ) → IsMoment a → IsMoment b → IsMoment (max a b)
later a b p q = omega arith

-- ---- it is opened, or locked

unlocked : (b : Book) (plan : Plan) → locked b plan.rows ≡ None → unless_locked b (Ok plan) ≡ Ok plan
unlocked b plan free = rw free

held : (b : Book) (plan : Plan) (refused : Refused) → locked b plan.rows ≡ Some refused → unless_locked b (Ok plan) ≡ Err refused
held b plan refused fault = rw fault

module _ (settings : Config) (journal : Keeper) (doubt : Doubt) (b : Book) (c : Command) (now m : ℕ) (at : m ≡ max now b.given.moment) where
  -- the engine with this book
  abbrev with : Book → Running
  with book = running (store settings book journal) doubt

  abbrev here : Situation
  here = (with b).situation

  begins_by : (r : Result Plan Refused) → command_plan (scene b settings m) c ≡ r → begins settings here c now ≡ unless_locked b r
  begins_by r planned = ap (λ k. unless_locked b (command_plan (scene b settings k) c)) (sym at) ∙ ap (unless_locked b) planned

  -- the plan is refused, or there was no memory for it
  pub not_planned : (refused : Refused) → (refused ≡ NoMemory) ⊎ (command_plan (scene b settings m) c ≡ Err refused) → (seat : ℕ) → Begins (with b) seat c now (Err refused) (with b)
  not_planned refused fault seat = record {
    settings = refl;
    opens = tt;
    refused = ⊎_elim (λ memory. inl memory) (λ is. inr (begins_by (Err refused) is)) fault;
    kept = refl;
  }

  module _ (seat : ℕ) (plan : Plan) (planned : command_plan (scene b settings m) c ≡ Ok plan) (new : Book) where
    plan_begins : locked b plan.rows ≡ None → begins settings here c now ≡ Ok plan
    plan_begins free = begins_by (Ok plan) planned ∙ unlocked b plan free

    now_open : new ≡ with_plan b seat plan → (with new).situation ≡ begun here seat (Ok plan)
    now_open is = ap (λ (n : Book). (with n).situation) is

    begin_step : open_at here seat ≡ None → locked b plan.rows ≡ None → new ≡ with_plan b seat plan → after_step settings here (Begin seat c now) ≡ Some (with new).situation
    begin_step vacant free is = rw (vacant, plan_begins free) (ap Some (sym (now_open is)))

    -- the situation is good then
    pub still_good : ((end : Situation) (step : Step) → IsInRange settings step → IsGoodSituation here → after_step settings here step ≡ Some end → IsGoodSituation end)
        → IsInRange settings (Begin seat c now) → open_at here seat ≡ None → IsGoodSituation here → (result : Result (Unit {0}) Refused)
        → OnOk result (new ≡ with_plan b seat plan) → OnOk result (locked b plan.rows ≡ None) → OnErr result (new ≡ b) → IsGoodSituation (with new).situation
    still_good stays range vacant good (Ok done) opened free kept = stays (with new).situation (Begin seat c now) range good (begin_step vacant free opened)
    still_good stays range vacant good (Err refused) opened free kept = subst (λ (n : Book). IsGoodSituation (with n).situation) (sym kept) good

    pub all_of : (result : Result (Unit {0}) Refused) → OnOk result (new ≡ with_plan b seat plan) → OnOk result (locked b plan.rows ≡ None)
        → IfErr result (λ refused. (refused ≡ NoMemory) ⊎ (locked b plan.rows ≡ Some refused)) → OnErr result (new ≡ b) → Begins (with b) seat c now result (with new)
    all_of (Ok done) opened free refused kept = record {
      settings = refl;
      opens = record { plan = plan; begins = plan_begins free; situation = now_open opened };
      refused = tt;
      kept = tt;
    }
    all_of (Err r) opened free refused kept = record {
      settings = refl;
      opens = tt;
      refused = ⊎_elim (λ memory. inl memory) (λ is. inr (begins_by (Ok plan) planned ∙ held b plan r is)) refused;
      kept = ap with kept;
    }
