-- The plans of a register and of a beat may be opened.
use Rattle.std.proofs.Common.{◌≡◌, ℕ, true, List, [], ◌∷◌, None, Ok, refl}
use Rattle.std.proofs.lemmas.Bool.{and_from}
use Rattle.job_states.specs.Length.{is_name}
use Rattle.job_states.specs.Ranges.{is_number}
use Rattle.job_states.specs.declared.command.Command.TheVariants as command
use Rattle.job_states.specs.declared.command.Kind.{Kind}
use Rattle.job_states.specs.declared.transition.Transition.{Transition}
use Rattle.job_states.specs.declared.transition.Transition.TheVariants.{Register, Beat}
use Rattle.queue_model.specs.Map as finite
use Rattle.plan_model.specs.Drafts.{begin}
use Rattle.plan_model.specs.GoodBook.{MayOpen}
use Rattle.plan_model.specs.GoodScene.{IsGoodScene}
use Rattle.plan_model.specs.Planned.{Drafted}
use Rattle.plan_model.specs.Plans.{Plan}
use Rattle.plan_model.specs.Refusals.{no_such_process, numbers_spent}
use Rattle.plan_model.specs.Scenes.{Scene}
use Rattle.plan_model.specs.UpkeepCommands.{upkeep_plan, refusals, does}
use Rattle.plan_model.proofs.AllowedMoves as allowed
use Rattle.plan_model.proofs.AllowedSeen.{some_there}
use Rattle.plan_model.proofs.DraftLemmas.{brings_none}
use Rattle.plan_model.proofs.GoodDrafts.{stepped, fresh}
use Rattle.plan_model.proofs.Opening.{base, moment_fits, one_step, sound_opens}
use Rattle.plan_model.proofs.PlanLemmas.{accepted, unmet, unrefused, is_there, begins_empty}
use Rattle.plan_model.proofs.Ranged.{pid_fits}
use Rattle.plan_model.proofs.Spending.{noted_rises}

module _ (s : Scene) (seat : ℕ) (good : IsGoodScene s) (vacant : finite.get s.book.open_plans seat ≡ None) where
  pub register : (kind : Kind) (name : List ℕ) (plan : Plan) → is_name name ≡ true → upkeep_plan s (command.Register kind name) ≡ Ok plan → MayOpen s.book seat plan
  register kind name plan fits e =
      let pid : ℕ = s.book.given.pid in
      let t : Transition = Register pid kind name in
      sound_opens s seat good vacant (refusals s (command.Register kind name)) (does s (command.Register kind name)) plan e (record {
        rises = noted_rises s.book.given s.moment t;
        holds = λ unspent. (
          stepped s.book.world s.moment t (begin s) (moment_fits s good)
              (and_from (is_number pid) (is_name name) (pid_fits s.book.world s.moment (begin s) (base s good) t unspent refl) fits)
              (allowed.register s.moment pid kind name (begin s) (fresh s.book.world s.moment (begin s) (base s good)) refl) (base s good),
          brings_none 0 0 s.moment t (begin s) refl refl (begins_empty s),
        );
      }) refl

  pub beat : (pid : ℕ) (plan : Plan) → upkeep_plan s (command.Beat pid) ≡ Ok plan → MayOpen s.book seat plan
  beat pid plan e =
      let made : Drafted = does s (command.Beat pid) in
      let first = unmet (no_such_process s pid) (numbers_spent s made.draft ∷ []) (accepted s (refusals s (command.Beat pid)) made plan e).0 in
      let registered = is_there (finite.get s.book.world.processes pid) (unrefused _ _ first.0) in
      let process = some_there (finite.get s.book.world.processes pid) registered in
      sound_opens s seat good vacant (refusals s (command.Beat pid)) made plan e
      (one_step s good (Beat pid) (good.book.world.processes pid process.0 process.1).number.0 (allowed.beat s.moment pid (begin s) registered) refl refl) refl
