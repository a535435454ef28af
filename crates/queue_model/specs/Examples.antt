-- Worked examples: what replays from the empty world leave.
use Rattle.std.specs.Prelude.{◌≡◌, ◌++◌, ℕ, Bool, List, [], ◌∷◌, codes, pos, true, false, Option, None, Some, IsSome}
use Rattle.std.specs.Option.{option_map}
use Rattle.job_states.specs.declared.command.Kind.TheVariants.{Worker}
use Rattle.job_states.specs.declared.job.JobRow.{JobRow}
use Rattle.job_states.specs.declared.job.Limited.{Limited}
use Rattle.job_states.specs.declared.job.State.TheVariants as state
use Rattle.job_states.specs.declared.row.Mode.{Mode}
use Rattle.job_states.specs.declared.row.Mode.TheVariants.{Shared, Alone}
use Rattle.job_states.specs.declared.row.Row.{Row}
use Rattle.job_states.specs.declared.row.Row.TheVariants as row
use Rattle.job_states.specs.declared.transition.Put.TheVariants.{Ready, Scheduled, Blocked, Away}
use Rattle.job_states.specs.declared.transition.Transaction.{Transaction}
use Rattle.job_states.specs.declared.transition.Transition.{Transition}
use Rattle.job_states.specs.declared.transition.Transition.TheVariants.{Enqueue, Dispatch, Claim, Done, Fail, Unblock, Retry, Discard, Clear, Register, Expire, Run}
use Rattle.row_locks.specs.Footprints.{AreCompatible}
use Rattle.semaphores.specs.Semaphore.{semaphore}
use Rattle.queue_model.specs.Map as map
use Rattle.queue_model.specs.Replay.{replay}
use Rattle.queue_model.specs.Sights.{Sight}
use Rattle.queue_model.specs.Transitions.{changes}
use Rattle.queue_model.specs.World.{World, empty, job}

-- a replay of the history leaves this of the world
abbrev pub Leaves : {A : Type 0} → List Transaction → (World → A) → A → Type 0
Leaves history view x = option_map view (replay empty history) ≡ Some x

abbrev pub IsRefused : List Transaction → Type 0
IsRefused history = replay empty history ≡ None

abbrev at : ℕ → List Transition → Transaction
at moment steps = record { moment = moment; steps = steps }

abbrev numbered : ℕ → Option Limited → JobRow
numbered id limited = record { id = id; class = codes "A"; queue = codes "q"; priority = pos 0; active_id = codes "1"; envelope = codes "{}"; executions = 0; counts = []; limited = limited }

abbrev plain : ℕ → JobRow
plain id = numbered id None

abbrev key : List ℕ
key = codes "B/x"

-- one at a time, for three minutes
abbrev one_at_a_time : (discard : Bool) → Limited
one_at_a_time discard = record { key = key; to = 1; duration = 180_000_000; discard = discard }

-- a job that waits where its key is closed
abbrev waiting : ℕ → JobRow
waiting id = numbered id (Some (one_at_a_time false))

abbrev worker : Transition
worker = Register 1 Worker (codes "w")

-- ---- a limit of one: the second job is blocked, and unblocked in one transaction with the end of the first

abbrev first_runs : List Transaction
first_runs =
    at 0 (Enqueue (waiting 1) (Ready (Some 1)) ∷ [])
    ∷ at 0 (Enqueue (waiting 2) (Blocked 180_000_000) ∷ [])
    ∷ at 0 (worker ∷ [])
    ∷ at 1 (Claim 1 1 ∷ [])
    ∷ []

pub record LimitOfOne : Type 0 where
  pub second_is_not_ready : IsRefused (first_runs ++ at 2 (Unblock 2 1 ∷ []) ∷ [])
  pub end : Leaves (first_runs ++ at 2 (Done 1 ∷ Unblock 2 1 ∷ []) ∷ []) (λ w. w) (record {
    jobs = map.from_entries ((1, job (waiting 1) (state.Finished 2)) ∷ (2, job (waiting 2) (state.Ready (Some 1))) ∷ []);
    semaphores = map.from_entries ((key, semaphore 1 1 0 180_000_002) ∷ []);
    processes = map.from_entries ((1, record { kind = Worker; name = codes "w"; since = 0; beat = 0 }) ∷ []);
    paused = map.empty;
    last_runs = map.empty;
    recurring = map.empty;
    numbers = record { job = 3; pid = 2; generation = 2; moment = 2 };
  })

-- ---- generations: a standing semaphore has permits of its own; it expires while its permit is out, and a new one
-- stands; the late end gives it nothing

abbrev expired : List Transaction
expired =
    at 0 (Enqueue (waiting 1) (Ready (Some 1)) ∷ [])
    ∷ at 0 (worker ∷ [])
    ∷ at 1 (Claim 1 1 ∷ [])
    ∷ at 180_000_000 (Expire key ∷ [])
    ∷ []

abbrev renewed : List Transaction
renewed =
    expired
    ++ at 180_000_000 (Enqueue (waiting 2) (Ready (Some 2)) ∷ [])
    ∷ at 180_000_000 (Enqueue (waiting 3) (Blocked 360_000_000) ∷ [])
    ∷ at 180_000_001 (Done 1 ∷ [])
    ∷ []

abbrev two_at_a_time : ℕ → JobRow
two_at_a_time id = numbered id (Some (record (one_at_a_time false) { to = 2 }))

pub record Generations : Type 0 where
  pub own_generation : IsRefused (at 0 (Enqueue (two_at_a_time 1) (Ready (Some 1)) ∷ []) ∷ at 0 (Enqueue (two_at_a_time 2) (Ready (Some 2)) ∷ []) ∷ [])
  pub held_generation : IsRefused (expired ++ at 180_000_000 (Enqueue (waiting 2) (Ready (Some 1)) ∷ []) ∷ [])
  pub late_end : Leaves renewed (λ w. w.semaphores) (map.from_entries ((key, semaphore 2 1 0 360_000_000) ∷ []))
  pub new_generation : Leaves (renewed ++ at 360_000_000 (Expire key ∷ []) ∷ at 360_000_000 (Unblock 3 3 ∷ []) ∷ []) (λ w. map.get w.jobs 3) (Some (job (waiting 3) (state.Ready (Some 3))))

-- ---- a retry by hand clears the counters

abbrev failed : List Transaction
failed =
    at 0 (Enqueue (plain 1) (Ready None) ∷ [])
    ∷ at 0 (worker ∷ [])
    ∷ at 1 (Claim 1 1 ∷ [])
    ∷ at 2 (Fail 1 (codes "E") (codes "why") (Some (record { executions = 1; counts = record { list = codes "[E]"; count = 1 } ∷ [] })) ∷ [])
    ∷ []

pub record RetryByHand : Type 0 where
  pub before : Leaves failed (λ w. map.get w.jobs 1) (Some (job (record (plain 1) { executions = 1; counts = record { list = codes "[E]"; count = 1 } ∷ [] }) (state.Failed (codes "E") (codes "why"))))
  pub after : Leaves (failed ++ at 3 (Retry 1 (Ready None) ∷ []) ∷ []) (λ w. map.get w.jobs 1) (Some (job (plain 1) (state.Ready None)))

-- ---- a discard unblocks

abbrev pub DiscardUnblocks : Type 0
DiscardUnblocks = Leaves (at 0 (Enqueue (waiting 1) (Ready (Some 1)) ∷ []) ∷ at 0 (Enqueue (waiting 2) (Blocked 180_000_000) ∷ []) ∷ at 5 (Discard 1 ∷ Unblock 2 1 ∷ []) ∷ []) (λ w. w.jobs) (map.from_entries ((2, job (waiting 2) (state.Ready (Some 1))) ∷ []))

-- ---- a scheduled job goes where it is due, its key is closed and its class discards

abbrev going : ℕ → JobRow
going id = numbered id (Some (one_at_a_time true))

abbrev dispatched_at : ℕ → List Transaction
dispatched_at moment = at 0 (Enqueue (going 1) (Ready (Some 1)) ∷ Enqueue (going 2) (Scheduled 5) ∷ []) ∷ at moment (Dispatch 2 Away ∷ []) ∷ []

pub record DiscardedDispatch : Type 0 where
  pub early : IsRefused (dispatched_at 4)
  pub due : Leaves (dispatched_at 5) (λ w. w.jobs) (map.from_entries ((1, job (going 1) (state.Ready (Some 1))) ∷ []))

-- ---- a claim is by a process that is there, and has fewer than 500

abbrev claiming : ℕ → Sight
claiming claims = record {
  rows = record { job = Some (job (plain 1) (state.Ready None)); semaphore = None; process = Some (record { kind = Worker; name = codes "w"; since = 0; beat = 0 }); pause = None; last_run = None };
  holders = λ generation. 0;
  claims = claims;
}

pub record ClaimLimit : Type 0 where
  pub no_process : IsRefused (at 0 (Enqueue (plain 1) (Ready None) ∷ []) ∷ at 1 (Claim 1 1 ∷ []) ∷ [])
  pub last : IsSome (changes 1 (claiming 499) (Claim 1 1))
  pub one_more : changes 1 (claiming 500) (Claim 1 1) ≡ None

-- ---- a task runs once at a time; a job that is cleared takes its recurring execution with it, and the last run stays

abbrev run : List Transaction
run = at 60 (Enqueue (plain 1) (Ready None) ∷ Run (codes "t") 60 (Some 1) ∷ []) ∷ []

abbrev cleared : List Transaction
cleared = run ++ at 61 (worker ∷ Claim 1 1 ∷ Done 1 ∷ []) ∷ at 62 (Clear 1 ∷ []) ∷ []

pub record Runs : Type 0 where
  pub recurring : Leaves run (λ w. w.recurring) (map.from_entries (((codes "t", 60), 1) ∷ []))
  pub same_time : IsRefused (run ++ at 61 (Run (codes "t") 60 None ∷ []) ∷ [])
  pub no_recurring : Leaves cleared (λ w. w.recurring) map.empty
  pub last_run : Leaves cleared (λ w. map.get w.last_runs (codes "t")) (Some 60)
  pub same_time_later : IsRefused (cleared ++ at 90 (Run (codes "t") 60 None ∷ []) ∷ [])

-- ---- footprints: two polls of one process go together; a poll doesn't with another one of the same job, nor with the
-- end of its process

abbrev pub poll : ℕ → List (Row × Mode)
poll id = (row.Job id, Alone) ∷ (row.Process 1, Shared) ∷ []

pub record Compatible : Type 0 where
  pub polls : AreCompatible (poll 1) (poll 2)
  pub same_job : ¬ AreCompatible (poll 1) (poll 1)
  pub same_process : ¬ AreCompatible (poll 1) ((row.Process 1, Alone) ∷ [])

-- ---- histories of another model

-- each leaves its world
abbrev pub AreReplayed : List (List Transaction × World) → Type 0
AreReplayed [] = Unit {0}
AreReplayed (h ∷ hs) = (replay empty h.0 ≡ Some h.1) × AreReplayed hs

-- each is legal, and its transaction isn't legal after it
abbrev pub AreRefused : List (List Transaction × Transaction) → Type 0
AreRefused [] = Unit {0}
AreRefused (h ∷ hs) = (IsSome (replay empty h.0) × IsRefused (h.0 ++ h.1 ∷ [])) × AreRefused hs
