-- What is true of every world that the store can stand for.
use Rattle.std.specs.Prelude.{◌≡◌, ◌+◌, ◌≤◌, ◌<◌, ◌^◌, ℕ, List, length, Some, IsSome, IsSomeAnd, IsTrue}
use Rattle.std.specs.Option.{ForSome}
use Rattle.job_states.specs.Length.{IsName}
use Rattle.job_states.specs.Moment.{IsMoment}
use Rattle.job_states.specs.Ranges.{is_number, is_row, is_state}
use Rattle.job_states.specs.States.{stage_of, permit_of, is_blocked}
use Rattle.job_states.specs.declared.job.State.{State}
use Rattle.job_states.specs.declared.job.State.TheVariants.{Claimed}
use Rattle.semaphores.specs.Semaphore.{Semaphore}
use Rattle.queue_model.specs.Map as map
use Rattle.queue_model.specs.World.{World, holders, claims}
use Rattle.queue_model.specs.declared.Job.{Job}
use Rattle.queue_model.specs.declared.Process.{Process}

-- a number that was given: from 1 to 2^63, and below the next one
abbrev pub IsGiven : (next n : ℕ) → Type 0
IsGiven next n = IsTrue (is_number n) × (n < next)

-- a number that may be given next; after the last one none is
abbrev pub IsNext : ℕ → Type 0
IsNext next = (1 ≤ next) × (next ≤ 2 ^ 63 + 1)

-- a claim's process is registered
abbrev pub HasClaimant : World → State → Type 0
HasClaimant w (Claimed pid permit) = IsSome (map.get w.processes pid)
HasClaimant w s = Unit {0}

pub record IsGoodJob (w : World) (id : ℕ) (j : Job) : Type 0 where
  -- the row has the number under which the job stands
  pub own_number : j.row.id ≡ id
  pub number : IsGiven w.numbers.job id
  pub row : IsTrue (is_row j.row)
  pub in_range : IsTrue (is_state j.state)
  pub permit_has_key : IsSome (permit_of j.state) → IsSome j.row.limited
  pub permit : ForSome (permit_of j.state) (IsGiven w.numbers.generation)
  pub blocked_has_key : IsTrue (is_blocked (Some (stage_of j.state))) → IsSome j.row.limited
  pub claimant : HasClaimant w j.state

pub record IsGoodSemaphore (w : World) (key : List ℕ) (s : Semaphore) : Type 0 where
  -- as long as a text can be
  pub key_length : length key ≤ 65_535
  pub limit : (1 ≤ s.limit) × (s.limit ≤ 65_535)
  -- the free permits and the holders make up the limit
  pub adds_up : s.free + holders w key s.generation ≡ s.limit
  pub generation : IsGiven w.numbers.generation s.generation
  pub expires : IsMoment s.expires

pub record IsGoodProcess (w : World) (pid : ℕ) (p : Process) : Type 0 where
  pub number : IsGiven w.numbers.pid pid
  pub name : IsName p.name
  pub since : IsMoment p.since
  pub beat : IsMoment p.beat

-- No two recurring executions have one task and time, since they are a map.
pub record IsGoodRecurring (w : World) (task : List ℕ) (time id : ℕ) : Type 0 where
  pub job : IsSome (map.get w.jobs id)
  -- the task has a last run, which this one doesn't pass
  pub last_run : IsSomeAnd (map.get w.last_runs task) (λ last. time ≤ last)

pub record IsGood (w : World) : Type 0 where
  pub jobs : (id : ℕ) (j : Job) → map.get w.jobs id ≡ Some j → IsGoodJob w id j
  pub semaphores : (key : List ℕ) (s : Semaphore) → map.get w.semaphores key ≡ Some s → IsGoodSemaphore w key s
  pub processes : (pid : ℕ) (p : Process) → map.get w.processes pid ≡ Some p → IsGoodProcess w pid p
  pub few_claims : (pid : ℕ) → claims w pid ≤ 500
  pub recurring : (task : List ℕ) (time id : ℕ) → map.get w.recurring (task, time) ≡ Some id → IsGoodRecurring w task time id
  pub paused : (queue : List ℕ) → IsSome (map.get w.paused queue) → IsName queue
  pub last_runs : (task : List ℕ) (last : ℕ) → map.get w.last_runs task ≡ Some last → IsName task × IsMoment last
  pub next_job : IsNext w.numbers.job
  pub next_pid : IsNext w.numbers.pid
  pub next_generation : IsNext w.numbers.generation
  pub moment : IsMoment w.numbers.moment
