-- Each command makes jobs and processes with numbers that weren't given before, so none of them is in the world.
use Rattle.std.proofs.Common.{◌≡◌, ◌≤◌, ℕ, Bool, true, false, cond, List, [], ◌∷◌, All, Option, None, Some, Ok, map, filter, take, codes, is_some, ap, sym, refl, subst, arith}
use Rattle.std.proofs.lemmas.Bool.{true≢false}
use Rattle.std.proofs.lemmas.List.Elements.{All-contains, All-nil}
use Rattle.job_states.specs.Moment.{later_moment}
use Rattle.job_states.specs.States.{is_failed}
use Rattle.job_states.specs.declared.answer.Answer.TheVariants as answer
use Rattle.job_states.specs.declared.command.Command.{Command}
use Rattle.job_states.specs.declared.command.Command.TheVariants as command
use Rattle.job_states.specs.declared.row.Mode.TheVariants.{Alone, Shared}
use Rattle.job_states.specs.declared.row.Row.TheVariants as row_of
use Rattle.job_states.specs.declared.transition.Transition.{Transition}
use Rattle.job_states.specs.declared.transition.Transition.TheVariants.{Beat, Claim, Clear, Deregister, Discard, Dispatch, Done, Enqueue, Expire, Fail, Pause, Register, Release, Resume, Retry, Unblock}
use Rattle.semaphores.specs.Semaphore.{is_closed}
use Rattle.queue_config.specs.declared.retry.Act.{Act}
use Rattle.queue_config.specs.declared.retry.Act.TheVariants as act
use Rattle.queue_config.specs.Retry.{decision_of}
use Rattle.queue_model.specs.Map as finite
use Rattle.queue_model.specs.declared.Job.{Job}
use Rattle.queue_model.specs.declared.Process.{Process}
use Rattle.queue_model.proofs.Steps.{same_Some}
use Rattle.plan_model.specs.Drafts.{Draft, begin, each_free, end, generation_at, holding, meets, outcome_of, push}
use Rattle.plan_model.specs.GoodBook.{IsGoodBook}
use Rattle.plan_model.specs.JobCommands as jobs
use Rattle.plan_model.specs.Orders.{first_of, on_offer}
use Rattle.plan_model.specs.Planned.{Drafted, drafted}
use Rattle.plan_model.specs.Plans.{Plan}
use Rattle.plan_model.specs.Refusals.{is_shut_out}
use Rattle.plan_model.specs.Scenes.{Scene, are_free}
use Rattle.plan_model.specs.UpkeepCommands as upkeep
use Rattle.situation_model.specs.GoodSituation.{IsNewTo, job_made, pid_made}
use Rattle.situation_model.specs.Situations.{command_plan, is_about_jobs}
use Rattle.situation_model.proofs.Moments.{planned_is}
use Rattle.situation_model.proofs.Numbered.{IsAtLeast, IsNumbered, always, each, ended, enqueued, enqueued_all, folded, held, picked, pushed, unless}

module _ (s : Scene) where
  abbrev Kept : Draft → Type 0
  Kept d = IsNumbered s.book.given d

  base : Kept (begin s)
  base = record { job = omega arith; pid = omega arith; steps = All-nil (IsAtLeast s.book.given) }

  one : (t : Transition) (d : Draft) → IsAtLeast s.book.given t → Kept d → Kept (push s.moment t d)
  one t d p h = pushed s.book.given s.moment t d p h

  last : (id : ℕ) (t : Transition) (d : Draft) → IsAtLeast s.book.given t → Kept d → Kept (end s.moment id t d).0
  last id t d p h = ended s.book.given s.moment id t d p h

  many : {A : Type 0} (most : ℕ) (case : A → Draft → Option Draft) → ((x : A) (d e : Draft) → case x d ≡ Some e → Kept d → Kept e) → (xs : List A) → Kept (each_free s most (map case xs)).0
  many most case keeps xs = each s.book.given s most case keeps xs (begin s, 0) base

  -- ---- a job that is there

  abbrev job_then : (Job → Drafted) → Option Job → Drafted
  job_then f None = drafted (begin s) answer.NotDue
  job_then f (Some j) = f j

  with_job : (id : ℕ) (f : Job → Drafted) → ((j : Job) → Kept (f j).draft) → Kept (jobs.with_job s id f).draft
  with_job id f keeps = by (finite.get s.book.world.jobs id)
    where
      by : (o : Option Job) → Kept (job_then f o).draft
      by None = base
      by (Some j) = keeps j

  module _ (error message : List ℕ) (j : Job) where
    acted : (a : Act) → Kept (jobs.raise_by s error message j (begin s) a).draft
    acted act.Fail = last j.row.id (jobs.failing s error message j) (begin s) tt base
    acted act.Discard = last j.row.id (Done j.row.id) (begin s) tt base
    acted (act.Retry wait) = enqueued s.book.given s.moment (jobs.row_after s error j) (Some (later_moment s.moment wait)) (end s.moment j.row.id (Done j.row.id) (begin s)).0 (last j.row.id (Done j.row.id) (begin s) tt base)

    raised : Kept (jobs.raise s error message j (begin s)).draft
    raised = acted (decision_of s.settings j.row.class error j.row.counts).act

  -- ---- the commands about jobs and queues

  job_draft : (c : Command) → Kept (jobs.does s c).draft
  job_draft (command.Enqueue new) = enqueued s.book.given s.moment (jobs.new_row s new) new.at (begin s) base
  job_draft (command.Bulk news) = enqueued_all s.book.given s news (begin s, []) base
  job_draft (command.Poll pid items limit) = folded s.book.given (λ d (j : Job). push s.moment (Claim j.row.id pid) d) (λ d j h. one (Claim j.row.id pid) d tt h)
      (take limit (on_offer s.book items)) (holding (row_of.Process pid) Shared (begin s)) (held s.book.given (row_of.Process pid) Shared (begin s) base)
  job_draft (command.Done pid id) = last id (Done id) (begin s) tt base
  job_draft (command.Raised pid id error message) = with_job id (λ j. jobs.raise s error message j (begin s)) (raised error message)
  job_draft (command.Release pid id) = one (Release id) (begin s) tt base
  job_draft (command.Retry id) = with_job id (λ j. drafted (jobs.retry s.moment j (begin s)) (answer.Retried id (outcome_of (meets (begin s) s.moment j.row.limited))))
      (λ j. one (Retry j.row.id (meets (begin s) s.moment j.row.limited)) (begin s) tt base)
  job_draft (command.RetryMany queue class) = many 500 (jobs.retry_case s.moment)
      (λ j d e is h. unless s.book.given (is_shut_out d.world j.row.limited) (jobs.retry s.moment j d) e is (one (Retry j.row.id (meets d s.moment j.row.limited)) d tt h))
      (jobs.matching s.book.world is_failed queue class)
  job_draft (command.Discard id) = last id (Discard id) (begin s) tt base
  job_draft (command.DiscardMany status queue class) = many 500 (jobs.discard_case s.moment)
      (λ j d e is h. always s.book.given (end s.moment j.row.id (Discard j.row.id) d).0 e is (last j.row.id (Discard j.row.id) d tt h))
      (jobs.matching s.book.world (jobs.is_at status) queue class)
  job_draft (command.Pause queue) = held s.book.given (row_of.Queue queue) Alone _ (picked Kept (jobs.is_paused s queue) (begin s) (push s.moment (Pause queue) (begin s)) base (one (Pause queue) (begin s) tt base))
  job_draft (command.Resume queue) = held s.book.given (row_of.Queue queue) Alone _ (picked Kept (jobs.is_paused s queue) (push s.moment (Resume queue) (begin s)) (begin s) (one (Resume queue) (begin s) tt base) base)
  job_draft c = base

  -- ---- those of maintenance

  abbrev fails : List ℕ → Draft → Job → Draft
  fails message d j = (end s.moment j.row.id (Fail j.row.id (codes "ProcessPrunedError") message None) d).0

  pruned : (pid : ℕ) (p : Process) → Kept (upkeep.prune s pid p).draft
  pruned pid p =
      let failed : Draft = upkeep.fail_all s.moment (upkeep.pruned_message p) (upkeep.claimed_by s.book.world pid) (begin s) in
      held s.book.given (row_of.Process pid) Alone (push s.moment (Deregister pid) failed) (one (Deregister pid) failed tt
      (folded s.book.given (fails (upkeep.pruned_message p)) (λ d j h. last j.row.id (Fail j.row.id (codes "ProcessPrunedError") (upkeep.pruned_message p) None) d tt h)
      (upkeep.claimed_by s.book.world pid) (begin s) base))

  abbrev prunes : ℕ × Process → Drafted
  prunes e = upkeep.prune s e.0 e.1

  abbrev is_open : Drafted → Bool
  is_open made = are_free s.book made.draft.rows

  first_pruned : (silent : List (ℕ × Process)) → Kept (upkeep.or_nothing s (first_of (filter is_open (map prunes silent)))).draft
  first_pruned [] = base
  first_pruned (e ∷ es) = by (is_open (prunes e)) (first_pruned es)
    where
      by : (b : Bool) → Kept (upkeep.or_nothing s (first_of (filter is_open (map prunes es)))).draft → Kept (upkeep.or_nothing s (first_of (cond b (prunes e ∷ filter is_open (map prunes es)) (filter is_open (map prunes es))))).draft
      by true h = pruned e.0 e.1
      by false h = h

  upkeep_draft : (c : Command) → Kept (upkeep.does s c).draft
  upkeep_draft (command.Register kind name) = one (Register s.book.given.pid kind name) (begin s) base.pid base
  upkeep_draft (command.Beat pid) = one (Beat pid) (begin s) tt base
  upkeep_draft (command.Deregister pid) = one (Deregister pid) (upkeep.release_all s.moment (upkeep.claimed_by s.book.world pid) (begin s)) tt
      (folded s.book.given (λ d (j : Job). push s.moment (Release j.row.id) d) (λ d j h. one (Release j.row.id) d tt h) (upkeep.claimed_by s.book.world pid) (begin s) base)
  upkeep_draft command.Dispatch = many s.settings.dispatcher.batch_size (upkeep.dispatch_case s.moment)
      (λ j d e is h. always s.book.given (push s.moment (Dispatch j.row.id (meets d s.moment j.row.limited)) d) e is (one (Dispatch j.row.id (meets d s.moment j.row.limited)) d tt h))
      (upkeep.due_jobs s.book.world s.moment)
  upkeep_draft command.Expire = many 500 (upkeep.expire_case s.moment)
      (λ key d e is h. always s.book.given (push s.moment (Expire key) d) e is (one (Expire key) d tt h)) (upkeep.expired_keys s.book.world s.moment)
  upkeep_draft command.Unblock = many 500 (upkeep.unblock_case s.moment)
      (λ k d e is h. unless s.book.given (is_closed (finite.get d.world.semaphores k.0)) (push s.moment (Unblock k.1.row.id (generation_at d k.0)) d) e is (one (Unblock k.1.row.id (generation_at d k.0)) d tt h))
      (upkeep.overdue s.book.world s.moment)
  upkeep_draft command.Prune = first_pruned (filter (λ e. upkeep.is_silent s e.1) s.book.world.processes.entries)
  upkeep_draft command.ClearFinished = many 500 (upkeep.clear_case s.moment)
      (λ j d e is h. always s.book.given (push s.moment (Clear j.row.id) d) e is (one (Clear j.row.id) d tt h)) (filter (upkeep.is_over s) (finite.values s.book.world.jobs))
  upkeep_draft c = base

  -- ---- the plan

  numbered : (c : Command) (plan : Plan) → command_plan s c ≡ Ok plan → All (IsAtLeast s.book.given) plan.tx.steps
  numbered c plan e = by (is_about_jobs c) e
    where
      by : (b : Bool) → cond b (jobs.job_plan s c) (upkeep.upkeep_plan s c) ≡ Ok plan → All (IsAtLeast s.book.given) plan.tx.steps
      by true e = subst (λ (p : Plan). All (IsAtLeast s.book.given) p.tx.steps) (planned_is s (jobs.refusals s c) (jobs.does s c) plan e) (job_draft c).steps
      by false e = subst (λ (p : Plan). All (IsAtLeast s.book.given) p.tx.steps) (planned_is s (upkeep.refusals s c) (upkeep.does s c) plan e) (upkeep_draft c).steps

  job_above : (t : Transition) (id : ℕ) → IsAtLeast s.book.given t → job_made t ≡ Some id → s.book.given.job ≤ id
  job_above (Enqueue row put) id h e = subst (λ n. s.book.given.job ≤ n) (same_Some row.id id e) h
  job_above t id h e = absurd (true≢false (ap is_some (sym e)))

  pid_above : (t : Transition) (pid : ℕ) → IsAtLeast s.book.given t → pid_made t ≡ Some pid → s.book.given.pid ≤ pid
  pid_above (Register other kind name) pid h e = subst (λ n. s.book.given.pid ≤ n) (same_Some other pid e) h
  pid_above t pid h e = absurd (true≢false (ap is_some (sym e)))

  module _ (good : IsGoodBook s.book) where
    no_job : (id : ℕ) → s.book.given.job ≤ id → finite.get s.book.world.jobs id ≡ None
    no_job id h = by (finite.get s.book.world.jobs id) refl
      where
        by : (o : Option Job) → finite.get s.book.world.jobs id ≡ o → o ≡ None
        by None e = refl
        by (Some j) e = let below = (good.world.jobs id j e).number.1 in let least = good.given.job in absurd (omega (arith, below, least, h))

    no_process : (pid : ℕ) → s.book.given.pid ≤ pid → finite.get s.book.world.processes pid ≡ None
    no_process pid h = by (finite.get s.book.world.processes pid) refl
      where
        by : (o : Option Process) → finite.get s.book.world.processes pid ≡ o → o ≡ None
        by None e = refl
        by (Some p) e = let below = (good.world.processes pid p e).number.1 in let least = good.given.pid in absurd (omega (arith, below, least, h))

    pub plan_is_new : (c : Command) (plan : Plan) → command_plan s c ≡ Ok plan → IsNewTo s.book.world plan
    plan_is_new c plan e =
        let all = numbered c plan e in
        record {
          jobs = λ id made. no_job id (job_above made.0 id (All-contains (IsAtLeast s.book.given) plan.tx.steps made.0 all made.1) made.2);
          processes = λ pid made. no_process pid (pid_above made.0 pid (All-contains (IsAtLeast s.book.given) plan.tx.steps made.0 all made.1) made.2);
        }
