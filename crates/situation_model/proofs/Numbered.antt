-- A command makes jobs and processes with numbers that weren't given before.
use Rattle.std.proofs.Common.{◌≡◌, ◌≤◌, ◌+◌, ℕ, Bool, true, false, cond, nat_lt, List, [], ◌∷◌, ◌++◌, All, Option, None, Some, Ok, Err, map, filter, fold, take, min, refl, subst, sym, ap, arith}
use Rattle.std.proofs.lemmas.List.Elements.{All-append, All-cons, All-nil}
use Rattle.job_states.specs.Moment.{later_moment}
use Rattle.job_states.specs.declared.answer.Answer.TheVariants as answer
use Rattle.job_states.specs.declared.answer.Made.{Made}
use Rattle.job_states.specs.declared.answer.Outcome.TheVariants as outcome
use Rattle.job_states.specs.declared.answer.Refused.{Refused}
use Rattle.job_states.specs.declared.command.Command.{Command}
use Rattle.job_states.specs.declared.command.Command.TheVariants as command
use Rattle.job_states.specs.declared.command.NewJob.{NewJob}
use Rattle.job_states.specs.declared.job.JobRow.{JobRow}
use Rattle.job_states.specs.declared.row.Mode.{Mode}
use Rattle.job_states.specs.declared.row.Mode.TheVariants.{Alone, Shared}
use Rattle.job_states.specs.declared.row.Row.{Row}
use Rattle.job_states.specs.declared.row.Row.TheVariants as row_of
use Rattle.job_states.specs.declared.transition.Put.{Put}
use Rattle.job_states.specs.declared.transition.Put.TheVariants.{Away, Blocked, Ready, Scheduled}
use Rattle.job_states.specs.declared.transition.Transition.{Transition}
use Rattle.job_states.specs.declared.transition.Transition.TheVariants.{Claim, Clear, Deregister, Discard, Dispatch, Done, Enqueue, Expire, Fail, Pause, Register, Release, Resume, Retry, Unblock}
use Rattle.queue_config.specs.declared.retry.Act.{Act}
use Rattle.queue_config.specs.declared.retry.Act.TheVariants as act
use Rattle.queue_config.specs.declared.retry.Decision.{Decision}
use Rattle.queue_config.specs.Retry.{decision_of}
use Rattle.queue_model.specs.Map as finite
use Rattle.queue_model.specs.Named.{above, job_named, pid_named}
use Rattle.queue_model.specs.declared.Job.{Job}
use Rattle.queue_model.specs.declared.Numbers.{Numbers}
use Rattle.queue_model.specs.declared.Process.{Process}
use Rattle.plan_model.specs.Drafts.{Draft, and_case, begin, end, enqueue, enqueue_at, holding, key_given, meets, place_for, push, unblock, unblock_first, generation_at}
use Rattle.plan_model.specs.JobCommands as jobs
use Rattle.plan_model.specs.Orders.{first_blocked, first_of, on_offer}
use Rattle.plan_model.specs.Planned.{Drafted, answering, drafted}
use Rattle.plan_model.specs.Scenes.{Scene, are_free}
use Rattle.plan_model.specs.UpkeepCommands as upkeep
use Rattle.plan_model.specs.Refusals.{is_shut_out}
use Rattle.semaphores.specs.Semaphore.{is_closed}

-- the job or process that it makes has no lower number
abbrev pub IsAtLeast : Numbers → Transition → Type 0
IsAtLeast least (Enqueue row put) = least.job ≤ row.id
IsAtLeast least (Register pid kind name) = least.pid ≤ pid
IsAtLeast least t = Unit {0}

-- so has each that the draft makes, and each that it would make next
pub record IsNumbered (least : Numbers) (d : Draft) : Type 0 where
  pub job : least.job ≤ d.given.job
  pub pid : least.pid ≤ d.given.pid
  pub steps : All (IsAtLeast least) d.steps

up : (a n : ℕ) (o : Option ℕ) → a ≤ n → a ≤ above n o
up a n None h = h
up a n (Some k) h = omega arith

pub picked : {A : Type 0} (P : A → Type 0) (b : Bool) (x y : A) → P x → P y → P (cond b x y)
picked P true x y p q = p
picked P false x y p q = q

-- ---- one draft after another

module _ (least : Numbers) where
  abbrev Is : Draft → Type 0
  Is d = IsNumbered least d

  pub pushed : (m : ℕ) (t : Transition) (d : Draft) → IsAtLeast least t → Is d → Is (push m t d)
  pushed m t d p h = record {
    job = up least.job d.given.job (job_named t) h.job;
    pid = up least.pid d.given.pid (pid_named t) h.pid;
    steps = All-append (IsAtLeast least) d.steps (t ∷ []) h.steps (All-cons (IsAtLeast least) t [] p (All-nil (IsAtLeast least)));
  }

  pub held : (r : Row) (mode : Mode) (d : Draft) → Is d → Is (holding r mode d)
  held r mode d h = record { job = h.job; pid = h.pid; steps = h.steps }

  unblocked : (m : ℕ) (key : Option (List ℕ)) (d : Draft) → Is d → Is (unblock m key d).0
  unblocked m None d h = h
  unblocked m (Some key) d h = by (first_blocked d.world key)
    where
      by : (o : Option Job) → Is (unblock_first m key d o).0
      by None = h
      by (Some j) = pushed m (Unblock j.row.id (generation_at d key)) d tt h

  pub ended : (m id : ℕ) (t : Transition) (d : Draft) → IsAtLeast least t → Is d → Is (end m id t d).0
  ended m id t d p h = unblocked m (key_given d.world id) (push m t d) (pushed m t d p h)

  pub enqueued : (m : ℕ) (row : JobRow) (at : Option ℕ) (d : Draft) → Is d → Is (enqueue m row at d).0
  enqueued m row at d h = by (place_for d m at row.limited)
    where
      made : (put : Put) → Is (push m (Enqueue (record row { id = d.given.job }) put) d)
      made put = pushed m (Enqueue (record row { id = d.given.job }) put) d h.job h

      by : (put : Put) → Is (enqueue_at m row put d).0
      by Away = h
      by (Ready permit) = made (Ready permit)
      by (Scheduled until) = made (Scheduled until)
      by (Blocked until) = made (Blocked until)

  pub folded : {A : Type 0} (f : Draft → A → Draft) → ((d : Draft) (x : A) → Is d → Is (f d x)) → (xs : List A) (d : Draft) → Is d → Is (fold f d xs)
  folded f keeps [] d h = h
  folded f keeps (x ∷ xs) d h = folded f keeps xs (f d x) (keeps d x h)

  pub enqueued_all : (s : Scene) (news : List NewJob) (e : Draft × List Made) → Is e.0 → Is (fold (λ done new. jobs.and_made done.1 (jobs.enqueue_new s new done.0)) e news).0
  enqueued_all s [] e h = h
  enqueued_all s (new ∷ news) e h = enqueued_all s news (jobs.and_made e.1 (jobs.enqueue_new s new e.0)) (enqueued s.moment (jobs.new_row s new) new.at e.0 h)

  -- a command of many, case by case
  module _ {A : Type 0} (s : Scene) (most : ℕ) (case : A → Draft → Option Draft) (keeps : (x : A) (d e : Draft) → case x d ≡ Some e → Is d → Is e) where
    one_more : (x : A) (so_far : Draft × ℕ) → Is so_far.0 → Is (and_case s most so_far (case x)).0
    one_more x so_far h = by (case x so_far.0) refl
      where
        by : (o : Option Draft) → case x so_far.0 ≡ o → Is (and_case s most so_far (λ d. o)).0
        by None e = picked (λ (r : Draft × ℕ). Is r.0) (nat_lt so_far.1 most) so_far so_far h h
        by (Some d) e =
            picked (λ (r : Draft × ℕ). Is r.0) (nat_lt so_far.1 most) (cond (are_free s.book d.rows) (d, so_far.1 + 1) so_far) so_far
            (picked (λ (r : Draft × ℕ). Is r.0) (are_free s.book d.rows) (d, so_far.1 + 1) so_far (keeps x so_far.0 d e h) h) h

    pub each : (xs : List A) (so_far : Draft × ℕ) → Is so_far.0 → Is (fold (and_case s most) so_far (map case xs)).0
    each [] so_far h = h
    each (x ∷ xs) so_far h = each xs (and_case s most so_far (case x)) (one_more x so_far h)

  -- a case that is always done, or where a test doesn't hold
  pub always : (d e : Draft) → ◌≡◌ {A = Option Draft} (Some d) (Some e) → Is d → Is e
  always d e same h = let is : d ≡ e = cc in subst Is is h

  pub unless : (b : Bool) (d e : Draft) → ◌≡◌ {A = Option Draft} (cond b None (Some d)) (Some e) → Is d → Is e
  unless true d e same h = cc
  unless false d e same h = always d e same h
