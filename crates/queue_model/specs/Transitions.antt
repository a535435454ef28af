-- Which transitions are legal in a world, and what each changes.
use Rattle.std.specs.Prelude.{◌==◌, ℕ, Bool, true, false, ◌&&◌, ◌||◌, not, nat_le, nat_lt, [], Option, None, Some, is_some, is_none, option_map}
use Rattle.job_states.specs.Moment.{later_moment}
use Rattle.job_states.specs.Ranges.{is_in_range}
use Rattle.job_states.specs.States.{stage_of, permit_of, is_ready, is_blocked, is_claimed, is_failed, is_finished}
use Rattle.job_states.specs.declared.job.JobRow.{JobRow}
use Rattle.job_states.specs.declared.job.Limited.{Limited}
use Rattle.job_states.specs.declared.job.Stage.{Stage}
use Rattle.job_states.specs.declared.job.State.{State}
use Rattle.job_states.specs.declared.job.State.TheVariants as state
use Rattle.job_states.specs.declared.transition.Counters.{Counters}
use Rattle.job_states.specs.declared.transition.Put.TheVariants.{Ready, Scheduled, Blocked, Away}
use Rattle.job_states.specs.declared.transition.Transition.{Transition}
use Rattle.job_states.specs.declared.transition.Transition.TheVariants.{Enqueue, Dispatch, Claim, Done, Fail, Release, Unblock, Retry, Discard, Clear, Register, Beat, Deregister, Pause, Resume, Expire, Run}
use Rattle.semaphores.specs.Semaphore.{Semaphore, is_closed, is_expired, taken, given_back}
use Rattle.queue_model.specs.Chain.{◌>>=◌, ◌>>◌, when}
use Rattle.queue_model.specs.Held.{holds}
use Rattle.queue_model.specs.Map as map
use Rattle.queue_model.specs.Named.{job_named, noted}
use Rattle.queue_model.specs.Sights.{Rows, Sight, sees, with_rows}
use Rattle.queue_model.specs.World.{World, job}
use Rattle.queue_model.specs.declared.Job.{Job}

-- ---- the state before

-- the job, at a stage that passes
abbrev pub job_at : Sight → (Option Stage → Bool) → Option Job
job_at s passes = do
  j ← s.rows.job
  when (passes (Some (stage_of j.state)))
  Some j

-- a scheduled job whose moment has come
abbrev pub is_due : (moment : ℕ) → State → Bool
is_due m (state.Scheduled at) = nat_le at m
is_due m s = false

abbrev pub due_job : (moment : ℕ) → Sight → Option Job
due_job m s = do
  j ← s.rows.job
  when (is_due m j.state)
  Some j

-- ---- permits

-- a standing semaphore has permits of its own generation; a new one is of a generation of which no job holds a permit
abbrev pub has_permits : Option Semaphore → (generation holders : ℕ) → Bool
has_permits None generation holders = holders == 0
has_permits (Some s) generation holders = s.generation == generation

-- the key's semaphore once the job took this permit; a job without a key takes none, and a keyed job takes one
abbrev pub takes : (moment : ℕ) → Sight → Option Limited → (permit : Option ℕ) → Option (Option Semaphore)
takes m s None None = Some s.rows.semaphore
takes m s (Some limited) (Some generation) = do
  when (has_permits s.rows.semaphore generation (s.holders generation))
  new ← taken s.rows.semaphore generation limited.to (later_moment m limited.duration)
  Some (Some new)
takes m s limited permit = None

-- the key's semaphore once the job's permit, if any, is given back
abbrev pub gives : (moment : ℕ) → Sight → Option Limited → (permit : Option ℕ) → Option Semaphore
gives m s None permit = s.rows.semaphore
gives m s (Some limited) permit = given_back s.rows.semaphore permit (later_moment m limited.duration)

-- does a job of this limit go away where its key is closed, in place of waiting?
abbrev pub is_discarded : Option Limited → Bool
is_discarded None = false
is_discarded (Some limited) = limited.discard

-- ---- the state after

abbrev pub puts : Sight → JobRow → State → Rows
puts s row state = record s.rows { job = Some (job row state) }

-- ready, with the permit
abbrev pub puts_ready : (moment : ℕ) → Sight → JobRow → (permit : Option ℕ) → Option Rows
puts_ready m s row permit = do
  semaphore ← takes m s row.limited permit
  Some (record (puts s row (state.Ready permit)) { semaphore = semaphore })

-- blocked, at a closed key, for the duration of its limit
abbrev pub puts_blocked : (moment : ℕ) → Sight → JobRow → (until : ℕ) → Option Rows
puts_blocked m s row until = do
  limited ← row.limited
  when (is_closed s.rows.semaphore && until == later_moment m limited.duration)
  Some (puts s row (state.Blocked until))

-- as `rows`, with the permit of the job as it was given back
abbrev pub giving_back : (moment : ℕ) → Sight → Job → Rows → Rows
giving_back m s j rows = record rows { semaphore = gives m s j.row.limited (permit_of j.state) }

-- a job that is retried begins anew
abbrev pub anew : JobRow → JobRow
anew row = record row { executions = 0; counts = [] }

abbrev pub counted : JobRow → Option Counters → JobRow
counted row None = row
counted row (Some counters) = record row { executions = counters.executions; counts = counters.counts }

abbrev pub is_after : ℕ → Option ℕ → Bool
is_after time None = true
is_after time (Some last) = nat_lt last time

-- ---- the transitions

-- the rows after a transition at this moment, where it is legal
abbrev pub changes : (moment : ℕ) → Sight → Transition → Option Rows
changes m s (Enqueue row (Ready permit)) = do when (is_none s.rows.job); puts_ready m s row permit
changes m s (Enqueue row (Scheduled at)) = do when (is_none s.rows.job && nat_lt m at); Some (puts s row (state.Scheduled at))
changes m s (Enqueue row (Blocked until)) = do when (is_none s.rows.job); puts_blocked m s row until
changes m s (Enqueue row Away) = None
changes m s (Dispatch id (Ready permit)) = do j ← due_job m s; puts_ready m s j.row permit
changes m s (Dispatch id (Scheduled at)) = None
changes m s (Dispatch id (Blocked until)) = do j ← due_job m s; when (not (is_discarded j.row.limited)); puts_blocked m s j.row until
changes m s (Dispatch id Away) = do j ← due_job m s; when (is_discarded j.row.limited && is_closed s.rows.semaphore); Some (record s.rows { job = None })
changes m s (Claim id pid) = do j ← job_at s is_ready; when (is_some s.rows.process && nat_lt s.claims 500); Some (puts s j.row (state.Claimed pid (permit_of j.state)))
changes m s (Done id) = do j ← job_at s is_claimed; Some (giving_back m s j (puts s j.row (state.Finished m)))
changes m s (Fail id error message counters) = do j ← job_at s is_claimed; Some (giving_back m s j (puts s (counted j.row counters) (state.Failed error message)))
changes m s (Release id) = do j ← job_at s is_claimed; Some (puts s j.row (state.Ready (permit_of j.state)))
changes m s (Unblock id generation) = do j ← job_at s is_blocked; puts_ready m s j.row (Some generation)
changes m s (Retry id (Ready permit)) = do j ← job_at s is_failed; puts_ready m s (anew j.row) permit
changes m s (Retry id (Scheduled at)) = None
changes m s (Retry id (Blocked until)) = do j ← job_at s is_failed; when (not (is_discarded j.row.limited)); puts_blocked m s (anew j.row) until
changes m s (Retry id Away) = None
changes m s (Discard id) = do j ← job_at s (λ stage. not (is_claimed stage || is_finished stage)); Some (giving_back m s j (record s.rows { job = None }))
changes m s (Clear id) = do job_at s is_finished; Some (record s.rows { job = None })
changes m s (Register pid kind name) = do when (is_none s.rows.process); Some (record s.rows { process = Some (record { kind = kind; name = name; since = m; beat = m }) })
changes m s (Beat pid) = do p ← s.rows.process; Some (record s.rows { process = Some (record p { beat = m }) })
changes m s (Deregister pid) = do when (is_some s.rows.process && s.claims == 0); Some (record s.rows { process = None })
changes m s (Pause queue) = do when (is_none s.rows.pause); Some (record s.rows { pause = Some tt })
changes m s (Resume queue) = do when (is_some s.rows.pause); Some (record s.rows { pause = None })
changes m s (Expire key) = do old ← s.rows.semaphore; when (is_expired old m); Some (record s.rows { semaphore = None })
changes m s (Run task time id) = do when (nat_le time m && is_after time s.rows.last_run && (is_none id || is_some s.rows.job)); Some (record s.rows { last_run = Some time })

-- the world after the transition, where it is legal
abbrev pub step : World → (moment : ℕ) → Transition → Option World
step w m t = do
  when (is_in_range t)
  rows ← changes m (sees w (holds w t)) t
  Some (record (with_rows w (holds w t) rows) { numbers = noted w.numbers m t })

-- the stage of the job that a transition names
abbrev pub stage_before : World → Transition → Option Stage
stage_before w t = option_map (λ j. stage_of j.state) (job_named t >>= map.get w.jobs)
