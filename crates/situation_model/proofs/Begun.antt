-- A situation stays good where a command is begun.
use Rattle.std.proofs.Common.{◌≡◌, ◌<◌, ℕ, Bool, true, false, None, Option, Some, Result, Ok, Err, refl, subst, arith, ⊎_elim, max, if◌then◌else◌}
use Rattle.job_states.specs.Moment.{IsMoment}
use Rattle.job_states.specs.declared.answer.Refused.{Refused}
use Rattle.job_states.specs.declared.command.Command.{Command}
use Rattle.queue_config.specs.Ranges.{IsConfig}
use Rattle.queue_config.specs.declared.config.Config.{Config}
use Rattle.queue_model.specs.Map as map
use Rattle.queue_model.specs.World.{empty}
use Rattle.plan_model.specs.Begins.{locked, unless_locked}
use Rattle.plan_model.specs.Books.{Book, opened_over, with_plan}
use Rattle.plan_model.specs.GoodBook.{IsGoodBook, MayOpen}
use Rattle.plan_model.specs.GoodScene.{IsGoodScene, IsWithinRanges}
use Rattle.plan_model.specs.JobCommands.{job_plan}
use Rattle.plan_model.specs.Plans.{Plan}
use Rattle.plan_model.specs.Scenes.{Scene}
use Rattle.plan_model.specs.UpkeepCommands.{upkeep_plan}
use Rattle.plan_model.proofs.BooksKept.{found_after_insert}
use Rattle.situation_model.specs.GoodSituation.{IsGoodSituation, IsNewTo}
use Rattle.situation_model.specs.Situations.{Situation, begins, begun, command_plan, is_about_jobs, open_at, scene_at, situation_over}
use Rattle.situation_model.proofs.NumberedCommands.{plan_is_new}
use Rattle.situation_model.proofs.Ranges.{in_any_scene}

-- ---- the plan that is opened

-- nothing locks the plan of a command that begins
pub unlocked : (b : Book) (r : Result Plan Refused) (plan : Plan) → unless_locked b r ≡ Ok plan → (r ≡ Ok plan) × (locked b plan.rows ≡ None)
unlocked b (Err refused) plan e = cc
unlocked b (Ok made) plan e = by (locked b made.rows) refl
  where
    by : (o : Option Refused) → locked b made.rows ≡ o → ◌≡◌ {A = Result Plan Refused} (Ok made) (Ok plan) × (locked b plan.rows ≡ None)
    by None is = let same : ◌≡◌ {A = Result Plan Refused} (Ok made) (Ok plan) = rw is at e in (same, (let e : made ≡ plan = cc in subst (λ (p : Plan). locked b p.rows ≡ None) e is))
    by (Some refused) is = let never : ◌≡◌ {A = Result Plan Refused} (Err refused) (Ok plan) = rw is at e in cc

-- what the law of plans says of each of the two tables
abbrev pub Opens : (Scene → Command → Result Plan Refused) → Type 0
Opens planned = (s : Scene) (c : Command) (plan : Plan) (seat : ℕ) → IsGoodScene s → IsWithinRanges s c → map.get s.book.open_plans seat ≡ None → planned s c ≡ Ok plan → MayOpen s.book seat plan

either : Opens job_plan → Opens upkeep_plan → Opens command_plan
either jobs upkeep s c = by (is_about_jobs c)
  where
    by : (b : Bool) → (plan : Plan) (seat : ℕ) → IsGoodScene s → IsWithinRanges s c → map.get s.book.open_plans seat ≡ None → (if b then job_plan s c else upkeep_plan s c) ≡ Ok plan → MayOpen s.book seat plan
    by true = jobs s c
    by false = upkeep s c

-- ---- the situation

abbrev pub WithPlan : Type 0
WithPlan = (b : Book) (seat : ℕ) (plan : Plan) → IsGoodBook b → MayOpen b seat plan → locked b plan.rows ≡ None → IsGoodBook (with_plan b seat plan)

module _ (jobs : Opens job_plan) (upkeep : Opens upkeep_plan) (with : WithPlan) (settings : Config) (config : IsConfig settings) (s : Situation) (good : IsGoodSituation s) where
  scene_good : (now : ℕ) → IsMoment now → IsGoodScene (scene_at settings s now)
  scene_good now at = record { book = good.book; settings = config; moment = later now s.book.given.moment at good.book.moment }
    where
      later : (a b : ℕ) → IsMoment a → IsMoment b → IsMoment (max a b)
      later a b p q = omega arith

  pub begun_good : (seat now : ℕ) (c : Command) → seat < 64 → IsMoment now → IsWithinRanges (scene_at settings (situation_over empty) 0) c → open_at s seat ≡ None → IsGoodSituation (begun s seat (begins settings s c now))
  begun_good seat now c below at within vacant = by (begins settings s c now) refl
    where
      by : (r : Result Plan Refused) → begins settings s c now ≡ r → IsGoodSituation (begun s seat r)
      by (Err refused) e = good
      by (Ok plan) e =
          let opens = unlocked s.book (command_plan (scene_at settings s now) c) plan e in
          let fits = in_any_scene settings (opened_over empty) 0 s.book (max now s.book.given.moment) c within in
          record {
            book = with s.book seat plan good.book (either jobs upkeep (scene_at settings s now) c plan seat (scene_good now at) fits vacant opens.0) opens.1;
            doubt = good.doubt;
            seats = λ other theirs there. ⊎_elim
                (λ (new : (seat ≡ other) × (plan ≡ theirs)). subst (λ n. n < 64) new.0 below)
                (λ old. good.seats other theirs old)
                (found_after_insert s.book.open_plans seat plan other theirs there);
            new = λ other theirs there. ⊎_elim
                (λ (new : (seat ≡ other) × (plan ≡ theirs)). subst (IsNewTo s.book.world) new.1 (plan_is_new (scene_at settings s now) good.book c plan opens.0))
                (λ old. good.new other theirs old)
                (found_after_insert s.book.open_plans seat plan other theirs there);
          }
