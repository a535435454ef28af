-- All that the store stands for, as one value.
use Rattle.std.specs.Prelude.{◌==◌, ℕ, Bool, false, ◌&&◌, List, Option, None, Some}
use Rattle.std.specs.List.{count_by}
use Rattle.std.specs.Ordering.{nat_cmp, ordering_then}
use Rattle.std.specs.Cmp.Lexicographic.{slice_cmp}
use Rattle.std.specs.declared.cmp.Ordering.{Ordering}
use Rattle.std.specs.Str.{bytes_eq}
use Rattle.job_states.specs.States.{permit_of}
use Rattle.job_states.specs.declared.job.Limited.{Limited}
use Rattle.job_states.specs.declared.job.JobRow.{JobRow}
use Rattle.job_states.specs.declared.job.State.{State}
use Rattle.job_states.specs.declared.job.State.TheVariants.{Claimed}
use Rattle.semaphores.specs.Semaphore.{Semaphore}
use Rattle.queue_model.specs.Map as map
use Rattle.queue_model.specs.declared.Job.{Job}
use Rattle.queue_model.specs.declared.Process.{Process}
use Rattle.queue_model.specs.declared.Numbers.{Numbers}

-- texts in byte order
abbrev pub text_cmp : List ℕ → List ℕ → Ordering
text_cmp = slice_cmp nat_cmp

-- runs by task, and then by time
abbrev pub run_cmp : List ℕ × ℕ → List ℕ × ℕ → Ordering
run_cmp a b = ordering_then (text_cmp a.0 b.0) (nat_cmp a.1 b.1)

pub record World : Type 0 where
  -- by number
  pub jobs : map.Map nat_cmp Job
  -- by key
  pub semaphores : map.Map text_cmp Semaphore
  -- by number
  pub processes : map.Map nat_cmp Process
  -- the queues that are paused
  pub paused : map.Map text_cmp (Unit {0})
  -- by task
  pub last_runs : map.Map text_cmp ℕ
  -- the recurring executions: by task and time the job that the run made
  pub recurring : map.Map run_cmp ℕ
  -- the numbers that are given next, and the last moment
  pub numbers : Numbers

-- the empty store
abbrev pub empty : World
empty = record {
  jobs = map.empty;
  semaphores = map.empty;
  processes = map.empty;
  paused = map.empty;
  last_runs = map.empty;
  recurring = map.empty;
  numbers = record { job = 1; pid = 1; generation = 1; moment = 0 };
}

abbrev pub job : JobRow → State → Job
job row state = record { row = row; state = state }

-- ---- who holds permits, and who has claims

abbrev pub is_key : List ℕ → Option Limited → Bool
is_key key None = false
is_key key (Some limited) = bytes_eq limited.key key

-- it is there, and is this one
abbrev pub is_exactly : ℕ → Option ℕ → Bool
is_exactly n None = false
is_exactly n (Some other) = other == n

-- the job holds a permit of this key and generation
abbrev pub is_holder : List ℕ → ℕ → Job → Bool
is_holder key generation j = is_key key j.row.limited && is_exactly generation (permit_of j.state)

-- how many jobs hold one
abbrev pub holders : World → List ℕ → ℕ → ℕ
holders w key generation = count_by (is_holder key generation) (map.values w.jobs)

abbrev pub is_claimed_by : ℕ → Job → Bool
is_claimed_by pid j = by j.state
  where
    by : State → Bool
    by (Claimed p permit) = p == pid
    by s = false

-- how many jobs a process has claimed
abbrev pub claims : World → ℕ → ℕ
claims w pid = count_by (is_claimed_by pid) (map.values w.jobs)
