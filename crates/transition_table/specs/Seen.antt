-- What the table reads of a transition's rows, and what it leaves there: no texts but the key and no more of a process than
-- that it is registered.
use Rattle.std.specs.Prelude.{◌==◌, ◌≤◌, ◌<◌, ◌-◌, ◌^◌, ℕ, length, Bool, true, ◌||◌, Option, None, Some, is_some}
use Rattle.std.specs.Option.{ForSome}
use Rattle.job_states.specs.declared.job.Limited.{Limited}
use Rattle.job_states.specs.declared.job.State.{State}
use Rattle.job_states.specs.declared.job.State.TheVariants as state
use Rattle.job_states.specs.declared.transition.Put.{Put}
use Rattle.job_states.specs.declared.transition.Put.TheVariants as put
use Rattle.job_states.specs.declared.transition.Transition.{Transition}
use Rattle.job_states.specs.declared.transition.Transition.TheVariants.{Enqueue}
use Rattle.semaphores.specs.Semaphore.{Semaphore}
use Rattle.queue_model.specs.Named.{job_named, pid_named, generation_named}
use Rattle.queue_model.specs.Sights as model
use Rattle.queue_model.specs.declared.Job.{Job}
use Rattle.transition_table.specs.declared.found.Stand.{Stand}
use Rattle.transition_table.specs.declared.found.Stand.TheVariants.{Scheduled, Ready, Blocked, Claimed, Failed, Finished}

-- ---- a job

-- where a job in this state stands
abbrev pub stand_of : State → Stand
stand_of (state.Scheduled at) = Scheduled at
stand_of (state.Ready permit) = Ready permit
stand_of (state.Blocked until) = Blocked until
stand_of (state.Claimed pid permit) = Claimed pid permit
stand_of (state.Failed error message) = Failed
stand_of (state.Finished at) = Finished at

-- the generation of the permit that a job holds which stands here
abbrev pub permit_at : Stand → Option ℕ
permit_at (Ready permit) = permit
permit_at (Claimed pid permit) = permit
permit_at stand = None

pub record Found : Type 0 where
  pub stand : Stand
  -- the concurrency limit that it is under
  pub limited : Option Limited

-- a limit has a permit, and its key the length of one that a job can have
abbrev pub IsFit : Option Limited → Type 0
IsFit None = Unit {0}
IsFit (Some limited) = (1 ≤ limited.to) × (length limited.key ≤ 257)

abbrev pub found : Job → Found
found j = record { stand = stand_of j.state; limited = j.row.limited }

abbrev pub job_seen : Option Job → Option Found
job_seen None = None
job_seen (Some j) = Some (found j)

abbrev pub stand_at : Option Found → Option Stand
stand_at None = None
stand_at (Some f) = Some f.stand

abbrev pub limited_of : Option Found → Option Limited
limited_of None = None
limited_of (Some f) = f.limited

-- the limit of a new job
abbrev pub new_limit : Transition → Option Limited
new_limit (Enqueue row put) = row.limited
new_limit t = None

-- the limit of a new job, or of the one that is found
abbrev pub limited_then : Transition → Option Found → Option Limited
limited_then (Enqueue row put) job = row.limited
limited_then t job = limited_of job

abbrev pub permit_of : Option Found → Option ℕ
permit_of None = None
permit_of (Some f) = permit_at f.stand

-- where a job stands that is put there
abbrev pub stand_put : Put → Option Stand
stand_put (put.Ready permit) = Some (Ready permit)
stand_put (put.Scheduled at) = Some (Scheduled at)
stand_put (put.Blocked until) = Some (Blocked until)
stand_put put.Away = None

-- ---- the numbers that are named

-- each has a next one
pub record HasNext (t : Transition) : Type 0 where
  pub job : ForSome (job_named t) (λ n. n < 2 ^ 64 - 1)
  pub pid : ForSome (pid_named t) (λ n. n < 2 ^ 64 - 1)
  pub generation : ForSome (generation_named t) (λ n. n < 2 ^ 64 - 1)

-- ---- rows

pub record Seen : Type 0 where
  pub job : Option Found
  -- at the key
  pub semaphore : Option Semaphore
  pub is_registered : Bool
  pub is_paused : Bool
  -- of the task
  pub last_run : Option ℕ

abbrev pub seen : model.Rows → Seen
seen rows = record {
  job = job_seen rows.job;
  semaphore = rows.semaphore;
  is_registered = is_some rows.process;
  is_paused = is_some rows.pause;
  last_run = rows.last_run;
}

abbrev pub all_seen : Option model.Rows → Option Seen
all_seen None = None
all_seen (Some rows) = Some (seen rows)

-- a semaphore stands, or no job holds a permit of the generation that is named, if one is
abbrev pub is_fresh : Option Semaphore → (holders : ℕ → ℕ) → (named : Option ℕ) → Bool
is_fresh semaphore holders None = true
is_fresh semaphore holders (Some generation) = is_some semaphore || holders generation == 0

-- what decides about a transition
pub record Sight : Type 0 where
  pub rows : Seen
  pub is_fresh : Bool
  -- how many jobs the process has claimed
  pub claims : ℕ

abbrev pub sight : model.Sight → Transition → Sight
sight s t = record { rows = seen s.rows; is_fresh = is_fresh s.rows.semaphore s.holders (generation_named t); claims = s.claims }
