-- A plan while it is made: each transition is chosen in the world after those before it.
use Rattle.std.specs.Prelude.{◌==◌, ◌+◌, ℕ, not, nat_lt, if◌then◌else◌, List, [], ◌∷◌, ◌++◌, fold, Option, None, Some}
use Rattle.job_states.specs.Moment.{later_moment}
use Rattle.job_states.specs.States.{permit_of}
use Rattle.job_states.specs.declared.answer.Made.{Made}
use Rattle.job_states.specs.declared.answer.Outcome.{Outcome}
use Rattle.job_states.specs.declared.answer.Outcome.TheVariants as outcome
use Rattle.job_states.specs.declared.job.JobRow.{JobRow}
use Rattle.job_states.specs.declared.job.Limited.{Limited}
use Rattle.job_states.specs.declared.row.Mode.{Mode}
use Rattle.job_states.specs.declared.row.Row.{Row}
use Rattle.job_states.specs.declared.transition.Put.{Put}
use Rattle.job_states.specs.declared.transition.Put.TheVariants.{Ready, Scheduled, Blocked, Away}
use Rattle.job_states.specs.declared.transition.Transition.{Transition}
use Rattle.job_states.specs.declared.transition.Transition.TheVariants.{Enqueue, Unblock}
use Rattle.semaphores.specs.Semaphore.{Semaphore, is_of_generation}
use Rattle.queue_model.specs.Chain.{◌>>=◌, ◌>>◌, when}
use Rattle.queue_model.specs.Held.{holds, held_rows}
use Rattle.queue_model.specs.Map as map
use Rattle.queue_model.specs.Named.{noted}
use Rattle.queue_model.specs.Sights.{Rows, sees, with_rows}
use Rattle.queue_model.specs.Transitions.{changes}
use Rattle.queue_model.specs.World.{World}
use Rattle.queue_model.specs.declared.Job.{Job}
use Rattle.queue_model.specs.declared.Numbers.{Numbers}
use Rattle.plan_model.specs.Orders.{first_blocked}
use Rattle.plan_model.specs.Scenes.{Scene, are_free}

pub record Draft : Type 0 where
  -- after the transitions so far
  pub world : World
  pub steps : List Transition
  pub rows : List (Row × Mode)
  -- the numbers that are given next
  pub given : Numbers

abbrev pub begin : Scene → Draft
begin s = record { world = s.book.world; steps = []; rows = []; given = s.book.given }

-- the world with these rows after a transition, or as it was where it isn't legal
abbrev pub with_changes : World → (moment : ℕ) → Transition → Option Rows → World
with_changes w m t None = w
with_changes w m t (Some rows) = record (with_rows w (holds w t) rows) { numbers = noted w.numbers m t }

-- The world after a transition, its ranges left open: whether a number is spent is asked of the whole plan, at its end.
abbrev pub moved : World → (moment : ℕ) → Transition → World
moved w m t = with_changes w m t (changes m (sees w (holds w t)) t)

-- one transition more, with the rows that it holds, and the numbers that it names given
abbrev pub push : (moment : ℕ) → Transition → Draft → Draft
push m t d = record { world = moved d.world m t; steps = d.steps ++ t ∷ []; rows = d.rows ++ held_rows (holds d.world t); given = noted d.given m t }

-- a row more, which the command's line holds
abbrev pub holding : Row → Mode → Draft → Draft
holding r mode d = record d { rows = d.rows ++ (r, mode) ∷ [] }

-- ---- meeting the semaphore

-- the generation of a standing semaphore, or else this one
abbrev pub generation_of : (fresh : ℕ) → Option Semaphore → ℕ
generation_of fresh None = fresh
generation_of fresh (Some s) = s.generation

-- the generation of the permit that is taken: that of the semaphore, or the next one to be given
abbrev pub generation_at : Draft → (key : List ℕ) → ℕ
generation_at d key = generation_of d.given.generation (map.get d.world.semaphores key)

-- at an open key ready, with a permit; at a closed one away where the class discards, else blocked
abbrev pub meets_key : Option Semaphore → (fresh moment : ℕ) → Limited → Put
meets_key None fresh m limited = Ready (Some fresh)
meets_key (Some s) fresh m limited =
    if not (s.free == 0) then Ready (Some s.generation)
    else if limited.discard then Away
    else Blocked (later_moment m limited.duration)

-- without a key ready
abbrev pub meets : Draft → (moment : ℕ) → Option Limited → Put
meets d m None = Ready None
meets d m (Some limited) = meets_key (map.get d.world.semaphores limited.key) d.given.generation m limited

-- ---- after a give

-- the key to which a permit comes back where the job ends now
abbrev pub key_given : World → (id : ℕ) → Option (List ℕ)
key_given w id = do
  j ← map.get w.jobs id
  limited ← j.row.limited
  generation ← permit_of j.state
  when (is_of_generation (map.get w.semaphores limited.key) generation)
  Some limited.key

-- the job, where there is one, becomes ready
abbrev pub unblock_first : (moment : ℕ) → (key : List ℕ) → Draft → Option Job → Draft × Option ℕ
unblock_first m key d None = (d, None)
unblock_first m key d (Some j) = (push m (Unblock j.row.id (generation_at d key)) d, Some j.row.id)

-- the first blocked job of the key becomes ready: which one
abbrev pub unblock : (moment : ℕ) → (key : Option (List ℕ)) → Draft → Draft × Option ℕ
unblock m None d = (d, None)
unblock m (Some key) d = unblock_first m key d (first_blocked d.world key)

-- the job's Done, Fail or Discard, and where it gave a permit back the job that is unblocked for it
abbrev pub end : (moment id : ℕ) → Transition → Draft → Draft × Option ℕ
end m id t d = unblock m (key_given d.world id) (push m t d)

-- ---- a new job

abbrev pub outcome_of : Put → Outcome
outcome_of (Ready permit) = outcome.Ready
outcome_of (Scheduled at) = outcome.Scheduled
outcome_of (Blocked until) = outcome.Blocked
outcome_of Away = outcome.Discarded

-- scheduled where its own moment is yet to come, else it meets the semaphore
abbrev pub place_for : Draft → (moment : ℕ) → (at : Option ℕ) → Option Limited → Put
place_for d m None limited = meets d m limited
place_for d m (Some at) limited = if nat_lt m at then Scheduled at else meets d m limited

-- the row becomes a job with the next number, unless it is discarded
abbrev pub enqueue_at : (moment : ℕ) → JobRow → Put → Draft → Draft × Made
enqueue_at m row Away d = (d, record { id = None; state = outcome.Discarded })
enqueue_at m row put d = (push m (Enqueue (record row { id = d.given.job }) put) d, record { id = Some d.given.job; state = outcome_of put })

abbrev pub enqueue : (moment : ℕ) → JobRow → (at : Option ℕ) → Draft → Draft × Made
enqueue m row at d = enqueue_at m row (place_for d m at row.limited) d

-- ---- leaving out what isn't free

-- one case more, where there is room for it and the rows that it needs are free
abbrev pub and_case : Scene → (most : ℕ) → Draft × ℕ → (Draft → Option Draft) → Draft × ℕ
and_case s most done case = if nat_lt done.1 most then by (case done.0) else done
  where
    by : Option Draft → Draft × ℕ
    by None = done
    by (Some d) = if are_free s.book d.rows then (d, done.1 + 1) else done

-- the cases in turn, and how many were done
abbrev pub each_free : Scene → (most : ℕ) → List (Draft → Option Draft) → Draft × ℕ
each_free s most cases = fold (and_case s most) (begin s, 0) cases
