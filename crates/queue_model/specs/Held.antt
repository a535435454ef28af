-- The rows that a transition holds: it reads and changes nothing else.
use Rattle.std.specs.Prelude.{ℕ, List, [], ◌∷◌, ◌++◌, Option, None, Some}
use Rattle.job_states.specs.declared.job.Limited.{Limited}
use Rattle.job_states.specs.declared.job.State.{State}
use Rattle.job_states.specs.declared.job.State.TheVariants as state
use Rattle.job_states.specs.declared.row.Mode.{Mode}
use Rattle.job_states.specs.declared.row.Mode.TheVariants.{Shared, Alone}
use Rattle.job_states.specs.declared.row.Row.{Row}
use Rattle.job_states.specs.declared.row.Row.TheVariants as row
use Rattle.job_states.specs.declared.transition.Put.{Put}
use Rattle.job_states.specs.declared.transition.Put.TheVariants.{Ready, Blocked}
use Rattle.job_states.specs.declared.transition.Transition.{Transition}
use Rattle.job_states.specs.declared.transition.Transition.TheVariants.{Enqueue, Dispatch, Claim, Done, Fail, Release, Unblock, Retry, Discard, Clear, Register, Beat, Deregister, Pause, Resume, Expire, Run}
use Rattle.queue_model.specs.Chain.{◌>>=◌}
use Rattle.queue_model.specs.Map as map
use Rattle.queue_model.specs.Named.{job_named}
use Rattle.queue_model.specs.World.{World}
use Rattle.queue_model.specs.declared.Job.{Job}

-- at most one row of each kind; all but a process are held alone
pub record Held : Type 0 where
  pub job : Option ℕ
  pub key : Option (List ℕ)
  pub process : Option (ℕ × Mode)
  pub queue : Option (List ℕ)
  pub task : Option (List ℕ)

abbrev pub nothing : Held
nothing = record { job = None; key = None; process = None; queue = None; task = None }

abbrev pub key_of : Option Limited → Option (List ℕ)
key_of None = None
key_of (Some limited) = Some limited.key

-- the key of a new job that becomes ready or blocked
abbrev pub key_put : Option Limited → Put → Option (List ℕ)
key_put limited (Ready permit) = key_of limited
key_put limited (Blocked until) = key_of limited
key_put limited put = None

-- the key of a job
abbrev pub key_at : Option Job → Option (List ℕ)
key_at None = None
key_at (Some j) = key_of j.row.limited

-- the key of a job that leaves ready, blocked or claimed
abbrev pub key_left : Option Job → Option (List ℕ)
key_left None = None
key_left (Some j) = by j.state
  where
    by : State → Option (List ℕ)
    by (state.Ready permit) = key_of j.row.limited
    by (state.Blocked until) = key_of j.row.limited
    by (state.Claimed pid permit) = key_of j.row.limited
    by s = None

-- the process that has claimed the job
abbrev pub claimant : Option Job → Option (ℕ × Mode)
claimant None = None
claimant (Some j) = by j.state
  where
    by : State → Option (ℕ × Mode)
    by (state.Claimed pid permit) = Some (pid, Shared)
    by s = None

-- the rows beside its job, where this is the job
abbrev pub beside : Option Job → Transition → Held
beside j (Enqueue r put) = record nothing { key = key_put r.limited put }
beside j (Dispatch id put) = record nothing { key = key_at j }
beside j (Claim id pid) = record nothing { process = Some (pid, Shared) }
beside j (Done id) = record nothing { key = key_left j; process = claimant j }
beside j (Fail id error message counters) = record nothing { key = key_left j; process = claimant j }
beside j (Release id) = record nothing { process = claimant j }
beside j (Unblock id generation) = record nothing { key = key_at j }
beside j (Retry id put) = record nothing { key = key_at j }
beside j (Discard id) = record nothing { key = key_left j }
beside j (Clear id) = nothing
beside j (Register pid kind name) = record nothing { process = Some (pid, Alone) }
beside j (Beat pid) = record nothing { process = Some (pid, Alone) }
beside j (Deregister pid) = record nothing { process = Some (pid, Alone) }
beside j (Pause queue) = record nothing { queue = Some queue }
beside j (Resume queue) = record nothing { queue = Some queue }
beside j (Expire key) = record nothing { key = Some key }
beside j (Run task time id) = record nothing { task = Some task }

-- with the job that it names
abbrev pub held : Option Job → Transition → Held
held j t = record (beside j t) { job = job_named t }

-- what it holds in the world
abbrev pub holds : World → Transition → Held
holds w t = held (job_named t >>= map.get w.jobs) t

-- the row of this kind, where there is one
abbrev pub row_of : {K : Type 0} → (K → Row × Mode) → Option K → List (Row × Mode)
row_of row None = []
row_of row (Some k) = row k ∷ []

-- the rows, with their modes
abbrev pub held_rows : Held → List (Row × Mode)
held_rows h =
    row_of (λ id. (row.Job id, Alone)) h.job
    ++ row_of (λ key. (row.Key key, Alone)) h.key
    ++ row_of (λ process. (row.Process process.0, process.1)) h.process
    ++ row_of (λ queue. (row.Queue queue, Alone)) h.queue
    ++ row_of (λ task. (row.Task task, Alone)) h.task
