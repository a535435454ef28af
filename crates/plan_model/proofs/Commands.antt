-- The plans of commands about one job, new jobs and queues may be opened.
use Rattle.std.proofs.Common.{◌≡◌, ◌+◌, ℕ, Bool, true, false, cond, List, [], ◌∷◌, ◌++◌, fold, Option, None, Some, Ok, is_some, sym, refl, subst, zero-add, All, arith}
use Rattle.std.proofs.lemmas.Bool.{true≢false}
use Rattle.std.proofs.lemmas.List.Elements.{All-head, All-tail}
use Rattle.std.proofs.lemmas.List.Sums.{sum_by-append, sum_by-cons}
use Rattle.std.specs.List.{sum_by}
use Rattle.job_states.specs.Length.{is_name}
use Rattle.job_states.specs.Ranges.{is_number, is_in_range}
use Rattle.job_states.specs.declared.answer.Answer.{Answer}
use Rattle.job_states.specs.declared.answer.Answer.TheVariants as answer
use Rattle.job_states.specs.declared.answer.Made.{Made}
use Rattle.job_states.specs.declared.answer.Refused.{Refused}
use Rattle.job_states.specs.declared.command.Command.TheVariants as command
use Rattle.job_states.specs.declared.command.NewJob.{NewJob}
use Rattle.job_states.specs.declared.row.Mode.TheVariants.{Alone}
use Rattle.job_states.specs.declared.row.Row.TheVariants as row
use Rattle.job_states.specs.declared.transition.Transition.{Transition}
use Rattle.job_states.specs.declared.transition.Transition.TheVariants.{Done, Discard, Release, Pause, Resume}
use Rattle.queue_model.specs.Map as map
use Rattle.queue_model.specs.Named.{job_named}
use Rattle.queue_model.specs.declared.Job.{Job}
use Rattle.plan_model.specs.Drafts.{Draft, begin, push, end}
use Rattle.plan_model.specs.GoodBook.{MayOpen}
use Rattle.plan_model.specs.GoodDraft.{IsAllowed, is_end}
use Rattle.plan_model.specs.GoodScene.{IsGoodScene, IsNewJob}
use Rattle.plan_model.specs.JobCommands.{job_plan, refusals, does, of_claim, may_discard, new_row, enqueue_new, and_made, is_paused}
use Rattle.plan_model.specs.Planned.{Drafted, answering, planned}
use Rattle.plan_model.specs.Plans.{Plan, one, jobs_named, jobs_handed}
use Rattle.plan_model.specs.Refusals.{no_such_job, wrong_state, numbers_spent}
use Rattle.plan_model.specs.Scenes.{Scene}
use Rattle.plan_model.proofs.AllowedMoves as allowed
use Rattle.plan_model.proofs.Claims.{claim_there}
use Rattle.plan_model.proofs.Opening.{IsSound, base, from_base, held, one_step, one_end, one_job, sound_opens}
use Rattle.plan_model.proofs.PlanLemmas.{accepted, unmet, job_there, right_state, begins_empty}
use Rattle.plan_model.proofs.Spending.{Holds}

unpaused : {A : Type 0} (o : Option A) → is_some o ≡ false → o ≡ None
unpaused None e = refl
unpaused (Some x) e = absurd (true≢false e)

abbrev next_job : Scene → Draft × List Made → NewJob → Draft × List Made
next_job s done new = and_made done.1 (enqueue_new s new done.0)

abbrev names : List Made → ℕ
names made = sum_by (λ m. one m.id) made

module _ (s : Scene) (seat : ℕ) (good : IsGoodScene s) (vacant : map.get s.book.open_plans seat ≡ None) where
  number : (id : ℕ) (j : Job) → map.get s.book.world.jobs id ≡ Some j → is_number id ≡ true
  number id j found = (good.book.world.jobs id j found).number.0

  -- ---- ends

  end_opens : (id : ℕ) (t : Transition) (causes : List (Option Refused)) (answer : Option ℕ → Answer) (plan : Plan) → planned s causes (answering (end s.moment id t (begin s)) answer) ≡ Ok plan → ((unblocked : Option ℕ) → (jobs_named (answer unblocked) ≡ 0) × (jobs_handed (answer unblocked) ≡ 0)) → is_end t ≡ true → job_named t ≡ Some id → is_in_range t ≡ true → IsAllowed s.moment (begin s) t → MayOpen s.book seat plan
  end_opens id t causes answer plan e tells ends named range allows =
      let none = tells (end s.moment id t (begin s)).1 in
      sound_opens s seat good vacant causes (answering (end s.moment id t (begin s)) answer) plan e
      (subst (λ n. Holds s (IsSound s n) (end s.moment id t (begin s)).0) (sym none.0) (one_end s good id t ends named range allows)) none.1

  pub done : (pid id : ℕ) (plan : Plan) → job_plan s (command.Done pid id) ≡ Ok plan → MayOpen s.book seat plan
  done pid id plan e =
      let made : Drafted = does s (command.Done pid id) in
      let c = claim_there s pid id made plan e in
      end_opens id (Done id) (of_claim s pid id) (λ unblocked. answer.Done id unblocked) plan e (λ unblocked. (refl, refl)) refl refl (number id c.job c.found) (allowed.done s.moment id (begin s) c.job c.found c.claimed)

  pub release : (pid id : ℕ) (plan : Plan) → job_plan s (command.Release pid id) ≡ Ok plan → MayOpen s.book seat plan
  release pid id plan e =
      let made : Drafted = does s (command.Release pid id) in
      let c = claim_there s pid id made plan e in
      sound_opens s seat good vacant (of_claim s pid id) made plan e
      (one_step s good (Release id) (number id c.job c.found) (allowed.release s.moment id (begin s) c.job c.found c.claimed) refl refl) refl

  pub discard : (id : ℕ) (plan : Plan) → job_plan s (command.Discard id) ≡ Ok plan → MayOpen s.book seat plan
  discard id plan e =
      let made : Drafted = does s (command.Discard id) in
      let causes = accepted s (refusals s (command.Discard id)) made plan e in
      let first = unmet (no_such_job s id) (wrong_state s id may_discard ∷ numbers_spent s made.draft ∷ []) causes.0 in
      let second = unmet (wrong_state s id may_discard) (numbers_spent s made.draft ∷ []) first.1 in
      let j = job_there s id first.0 in
      end_opens id (Discard id) (refusals s (command.Discard id)) (λ unblocked. answer.Discarded id unblocked) plan e (λ unblocked. (refl, refl)) refl refl (number id j.0 j.1) (allowed.discard s.moment id (begin s) j.0 j.1 (right_state s id may_discard j.0 j.1 second.0))

  -- ---- new jobs

  new_job : (named : ℕ) (new : NewJob) (d : Draft) → IsNewJob s new → Holds s (IsSound s named) d → Holds s (IsSound s (named + one (enqueue_new s new d).1.id)) (enqueue_new s new d).0
  new_job named new d fits h = one_job s good named (new_row s new) new.at d fits.row fits.at h

  pub enqueue : (new : NewJob) (plan : Plan) → IsNewJob s new → job_plan s (command.Enqueue new) ≡ Ok plan → MayOpen s.book seat plan
  enqueue new plan fits e =
      let made : Drafted = does s (command.Enqueue new) in
      sound_opens s seat good vacant (refusals s (command.Enqueue new)) made plan e
      (subst (λ n. Holds s (IsSound s n) made.draft) (zero-add (jobs_named made.answer)) (new_job 0 new (begin s) fits (from_base s (IsSound s 0) (base s good, begins_empty s)))) refl

  named_more : (all : List Made) (more : Made) → names all + one more.id ≡ names (all ++ more ∷ [])
  named_more all more =
      let both = sum_by-append (λ (m : Made). one m.id) all (more ∷ []) in
      let last = sum_by-cons (λ (m : Made). one m.id) more [] in
      omega (arith, both, last)

  many_jobs : (news : List NewJob) (e : Draft × List Made) → All (IsNewJob s) news → Holds s (IsSound s (names e.1)) e.0 → Holds s (IsSound s (names (fold (next_job s) e news).1)) (fold (next_job s) e news).0
  many_jobs [] e fit h = h
  many_jobs (new ∷ news) e fit h =
      let more = enqueue_new s new e.0 in
      many_jobs news (next_job s e new) (All-tail (IsNewJob s) new news fit)
      (subst (λ n. Holds s (IsSound s n) more.0) (named_more e.1 more.1) (new_job (names e.1) new e.0 (All-head (IsNewJob s) new news fit) h))

  pub bulk : (news : List NewJob) (plan : Plan) → All (IsNewJob s) news → job_plan s (command.Bulk news) ≡ Ok plan → MayOpen s.book seat plan
  bulk news plan fit e = sound_opens s seat good vacant (refusals s (command.Bulk news)) (does s (command.Bulk news)) plan e
      (many_jobs news (begin s, []) fit (from_base s (IsSound s 0) (base s good, begins_empty s))) refl

  -- ---- queues

  paused_draft : (queue : List ℕ) → is_name queue ≡ true → (b : Bool) → is_paused s queue ≡ b → Holds s (IsSound s 0) (cond b (begin s) (push s.moment (Pause queue) (begin s)))
  paused_draft queue name true e = from_base s (IsSound s 0) (base s good, begins_empty s)
  paused_draft queue name false e = one_step s good (Pause queue) name (allowed.pause s.moment queue (begin s) (unpaused (map.get s.book.world.paused queue) e)) refl refl

  pub pause : (queue : List ℕ) (plan : Plan) → is_name queue ≡ true → job_plan s (command.Pause queue) ≡ Ok plan → MayOpen s.book seat plan
  pause queue plan name e = sound_opens s seat good vacant [] (does s (command.Pause queue)) plan e (held s 0 (row.Queue queue) Alone (cond (is_paused s queue) (begin s) (push s.moment (Pause queue) (begin s))) (paused_draft queue name (is_paused s queue) refl)) refl

  resumed_draft : (queue : List ℕ) → is_name queue ≡ true → (b : Bool) → is_paused s queue ≡ b → Holds s (IsSound s 0) (cond b (push s.moment (Resume queue) (begin s)) (begin s))
  resumed_draft queue name false e = from_base s (IsSound s 0) (base s good, begins_empty s)
  resumed_draft queue name true e = one_step s good (Resume queue) name (allowed.resume s.moment queue (begin s) e) refl refl

  pub resume : (queue : List ℕ) (plan : Plan) → is_name queue ≡ true → job_plan s (command.Resume queue) ≡ Ok plan → MayOpen s.book seat plan
  resume queue plan name e = sound_opens s seat good vacant [] (does s (command.Resume queue)) plan e (held s 0 (row.Queue queue) Alone (cond (is_paused s queue) (push s.moment (Resume queue) (begin s)) (begin s)) (resumed_draft queue name (is_paused s queue) refl)) refl
