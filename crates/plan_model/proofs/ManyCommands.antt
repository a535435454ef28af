-- The plans of commands that move many jobs, one transition each, may be opened.
use Rattle.std.proofs.Common.{◌≡◌, ℕ, Bool, true, false, ◌&&◌, not, cond, List, Option, None, Some, Ok, ap, sym, refl, subst, is_some}
use Rattle.std.proofs.lemmas.Bool.{true≢false, and_from, and_parts}
use Rattle.std.specs.Prelude.{filter}
use Rattle.job_states.specs.Ranges.{is_number, is_put, is_in_range}
use Rattle.job_states.specs.Ranges as ranges
use Rattle.job_states.specs.States.{stage_of, is_failed, is_finished}
use Rattle.job_states.specs.declared.command.Command.TheVariants as command
use Rattle.job_states.specs.declared.job.JobRow.{JobRow}
use Rattle.job_states.specs.declared.job.State.{State}
use Rattle.job_states.specs.declared.job.State.TheVariants as state
use Rattle.job_states.specs.declared.transition.Put.{Put}
use Rattle.job_states.specs.declared.transition.Transition.{Transition}
use Rattle.job_states.specs.declared.transition.Transition.TheVariants.{Dispatch, Unblock, Retry, Clear}
use Rattle.semaphores.specs.Semaphore.{is_closed}
use Rattle.queue_model.specs.Map as finite
use Rattle.queue_model.specs.Transitions.{is_due}
use Rattle.queue_model.specs.World.{is_key, job}
use Rattle.queue_model.specs.declared.Job.{Job}
use Rattle.queue_model.proofs.Steps.{same_Some}
use Rattle.plan_model.specs.Drafts.{Draft, push, meets, generation_at}
use Rattle.plan_model.specs.GoodBook.{MayOpen}
use Rattle.plan_model.specs.GoodScene.{IsGoodScene}
use Rattle.plan_model.specs.JobCommands.{job_plan, matching, retry, retry_case, counting, is_wanted}
use Rattle.plan_model.specs.JobCommands as jobs
use Rattle.plan_model.specs.Plans.{Plan}
use Rattle.plan_model.specs.Refusals.{is_shut_out}
use Rattle.plan_model.specs.Scenes.{Scene}
use Rattle.plan_model.specs.UpkeepCommands.{upkeep_plan, due_cmp, due_entry, due_jobs, dispatch_case, is_overdue, overdue_jobs, overdue, key_entry, unblock_case, is_over, clear_case}
use Rattle.plan_model.specs.UpkeepCommands as upkeep
use Rattle.plan_model.proofs.AllowedMoves as allowed
use Rattle.plan_model.proofs.GoodDrafts.{stepped, fresh}
use Rattle.plan_model.proofs.Opening.{IsGoodFor, base, moment_fits, sound_opens}
use Rattle.plan_model.proofs.OrderLemmas.{own_place}
use Rattle.plan_model.proofs.PlanLemmas.{begins_empty}
use Rattle.plan_model.proofs.Raising.{retried}
use Rattle.plan_model.proofs.Ranged.{meets_fits, meets_now, generation_at_fits}
use Rattle.plan_model.proofs.Spending.{IsNotSpent}
use Rattle.plan_model.proofs.DueJobs.{due_is, due_apart}
use Rattle.plan_model.proofs.LateJobs.{is_late, late_is, late_apart, one_key, overdue_blocked}
use Rattle.plan_model.proofs.ManyJobs.{Moves, many, from_tables, filtered}

unless_shut : (b : Bool) (n e : Draft) → cond b None (Some n) ≡ Some e → (b ≡ false) × (n ≡ e)
unless_shut true n e is = absurd (true≢false (ap is_some (sym is)))
unless_shut false n e is = (refl, same_Some n e is)

over_finished : (s : Scene) (row : JobRow) (st : State) → is_over s (job row st) ≡ true → is_finished (Some (stage_of st)) ≡ true
over_finished s row (state.Finished at) e = refl
over_finished s row (state.Scheduled at) e = absurd (true≢false (sym e))
over_finished s row (state.Ready permit) e = absurd (true≢false (sym e))
over_finished s row (state.Blocked until) e = absurd (true≢false (sym e))
over_finished s row (state.Claimed pid permit) e = absurd (true≢false (sym e))
over_finished s row (state.Failed error message) e = absurd (true≢false (sym e))

module _ (s : Scene) (seat : ℕ) (good : IsGoodScene s) (vacant : finite.get s.book.open_plans seat ≡ None) where
  number : (d : Draft) (j : Job) → IsGoodFor s d → finite.get d.world.jobs j.row.id ≡ Some j → is_number j.row.id ≡ true
  number d j h found = (h.good.jobs j.row.id j found).number.0

  pub retry_many : (queue class : Option (List ℕ)) (plan : Plan) → job_plan s (command.RetryMany queue class) ≡ Ok plan → MayOpen s.book seat plan
  retry_many queue class plan e = sound_opens s seat good vacant (jobs.refusals s (command.RetryMany queue class)) (jobs.does s (command.RetryMany queue class)) plan e
      (many s good (λ j. j) wanted 500 (retry_case s.moment) (matching s.book.world is_failed queue class) moves keeps (filtered s good wanted)) refl
    where
      wanted : Job → Bool
      wanted j = is_failed (Some (stage_of j.state)) && is_wanted queue j.row.queue && is_wanted class j.row.class

      moves : (j : Job) (d e : Draft) → retry_case s.moment j d ≡ Some e → Moves s good (λ j. j) wanted j d e
      moves j d e is = record { transition = Retry j.row.id (meets d s.moment j.row.limited); pushed = (unless_shut (is_shut_out d.world j.row.limited) (retry s.moment j d) e is).1; named = refl; no_job = refl; no_claim = refl }

      keeps : (j : Job) (d e : Draft) → retry_case s.moment j d ≡ Some e → IsGoodFor s d → finite.get d.world.jobs j.row.id ≡ Some j → wanted j ≡ true → IsNotSpent d.given e.given → IsGoodFor s e
      keeps j d e is h found passes unspent =
          let here = unless_shut (is_shut_out d.world j.row.limited) (retry s.moment j d) e is in
          let failed = (and_parts (is_failed (Some (stage_of j.state))) (is_wanted queue j.row.queue) (and_parts (is_failed (Some (stage_of j.state)) && is_wanted queue j.row.queue) (is_wanted class j.row.class) passes).0).0 in
          subst (IsGoodFor s) here.1 (retried s j d good h found failed here.0 (subst (λ n. IsNotSpent d.given n.given) (sym here.1) unspent))

  pub clear_finished : (plan : Plan) → upkeep_plan s command.ClearFinished ≡ Ok plan → MayOpen s.book seat plan
  clear_finished plan e = sound_opens s seat good vacant (upkeep.refusals s command.ClearFinished) (upkeep.does s command.ClearFinished) plan e
      (many s good (λ j. j) (is_over s) 500 (clear_case s.moment) (filter (is_over s) (finite.values s.book.world.jobs))
      (λ j d e is. record { transition = Clear j.row.id; pushed = same_Some (push s.moment (Clear j.row.id) d) e is; named = refl; no_job = refl; no_claim = refl })
      (λ j d e is h found over unspent. subst (IsGoodFor s) (same_Some (push s.moment (Clear j.row.id) d) e is)
      (stepped s.book.world s.moment (Clear j.row.id) d (moment_fits s good) (number d j h found) (allowed.clear s.moment j.row.id d j found (over_finished s j.row j.state over)) h))
      (filtered s good (is_over s))) refl

  dispatched : (j : Job) (d : Draft) → IsGoodFor s d → finite.get d.world.jobs j.row.id ≡ Some j → is_due s.moment j.state ≡ true → IsNotSpent d.given (push s.moment (Dispatch j.row.id (meets d s.moment j.row.limited)) d).given → IsGoodFor s (push s.moment (Dispatch j.row.id (meets d s.moment j.row.limited)) d)
  dispatched j d h found due unspent =
      let put : Put = meets d s.moment j.row.limited in
      let t : Transition = Dispatch j.row.id put in
      let place : is_put put ≡ true = meets_fits s.book.world s.moment d h t unspent j.row.limited refl in
      let range : is_in_range t ≡ true = and_from (is_number j.row.id && is_put put) (not (ranges.is_scheduled put)) (and_from (is_number j.row.id) (is_put put) (number d j h found) place) (ap not (meets_now d s.moment j.row.limited)) in
      stepped s.book.world s.moment t d (moment_fits s good) range (allowed.dispatch s.moment j.row.id d j put (fresh s.book.world s.moment d h) found due refl) h

  pub dispatch : (plan : Plan) → upkeep_plan s command.Dispatch ≡ Ok plan → MayOpen s.book seat plan
  dispatch plan e = sound_opens s seat good vacant (upkeep.refusals s command.Dispatch) (upkeep.does s command.Dispatch) plan e
      (many s good (λ j. j) (λ j. is_due s.moment j.state) s.settings.dispatcher.batch_size (dispatch_case s.moment) (due_jobs s.book.world s.moment)
      (λ j d e is. record { transition = Dispatch j.row.id (meets d s.moment j.row.limited); pushed = same_Some (push s.moment (Dispatch j.row.id (meets d s.moment j.row.limited)) d) e is; named = refl; no_job = refl; no_claim = refl })
      (λ j d e is h found due unspent.
      let same = same_Some (push s.moment (Dispatch j.row.id (meets d s.moment j.row.limited)) d) e is in
      subst (IsGoodFor s) same (dispatched j d h found due (subst (λ n. IsNotSpent d.given n.given) (sym same) unspent)))
      (from_tables s good (λ j. is_due s.moment j.state) (due_jobs s.book.world s.moment) (λ j h. (due_is s.book.world s.moment j h).there) (λ j h. (due_is s.book.world s.moment j h).due) (due_apart s.book.world s.moment))) refl

  pub unblock : (plan : Plan) → upkeep_plan s command.Unblock ≡ Ok plan → MayOpen s.book seat plan
  unblock plan e = sound_opens s seat good vacant (upkeep.refusals s command.Unblock) (upkeep.does s command.Unblock) plan e
      (many s good (λ x. x.1) (is_late s.moment) 500 (unblock_case s.moment) (overdue s.book.world s.moment) moves keeps (record {
        draft = base s good;
        brings = begins_empty s;
        there = λ x h. own_place s.book.world x.1 good.book.world (late_is s.book.world s.moment x h).there;
        passes = λ x h. (late_is s.book.world s.moment x h).late;
        apart = late_apart s.book.world s.moment;
        one = same;
      })) refl
    where
      keys : (x : List ℕ × Job) → is_late s.moment x ≡ true → (is_overdue s.moment x.1 ≡ true) × (is_key x.0 x.1.row.limited ≡ true)
      keys x late = and_parts (is_overdue s.moment x.1) (is_key x.0 x.1.row.limited) late

      same : (x y : List ℕ × Job) → is_late s.moment x ≡ true → is_late s.moment y ≡ true → x.1 ≡ y.1 → x ≡ y
      same x y p q e =
          let key : x.0 ≡ y.0 = one_key x.0 y.0 y.1.row.limited (subst (λ (j : Job). is_key x.0 j.row.limited ≡ true) e (keys x p).1) (keys y q).1 in
          λ i. (key i, e i)

      moves : (x : List ℕ × Job) (d e : Draft) → unblock_case s.moment x d ≡ Some e → Moves s good (λ x. x.1) (is_late s.moment) x d e
      moves x d e is = record { transition = Unblock x.1.row.id (generation_at d x.0); pushed = (unless_shut (is_closed (finite.get d.world.semaphores x.0)) (push s.moment (Unblock x.1.row.id (generation_at d x.0)) d) e is).1; named = refl; no_job = refl; no_claim = refl }

      keeps : (x : List ℕ × Job) (d e : Draft) → unblock_case s.moment x d ≡ Some e → IsGoodFor s d → finite.get d.world.jobs x.1.row.id ≡ Some x.1 → is_late s.moment x ≡ true → IsNotSpent d.given e.given → IsGoodFor s e
      keeps x d e is h found late unspent =
          let t : Transition = Unblock x.1.row.id (generation_at d x.0) in
          let here = unless_shut (is_closed (finite.get d.world.semaphores x.0)) (push s.moment t d) e is in
          let parts = and_parts (is_overdue s.moment x.1) (is_key x.0 x.1.row.limited) late in
          let rest = subst (λ n. IsNotSpent d.given n.given) (sym here.1) unspent in
          let range : is_in_range t ≡ true = and_from (is_number x.1.row.id) (is_number (generation_at d x.0)) (number d x.1 h found) (generation_at_fits s.book.world s.moment d h t rest x.0 refl) in
          subst (IsGoodFor s) here.1 (stepped s.book.world s.moment t d (moment_fits s good) range
          (allowed.unblock s.moment x.1.row.id x.0 d x.1 (generation_at d x.0) (fresh s.book.world s.moment d h) found (overdue_blocked s.moment x.1.row x.1.state parts.0) parts.1 here.0 refl) h)
