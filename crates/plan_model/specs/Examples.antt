-- Worked examples: what commands come to in the world that a history leaves.
use Rattle.std.specs.Prelude.{◌≡◌, ℕ, List, [], ◌∷◌, ◌++◌, codes, pos, ℤ, true, false, Bool, Option, None, Some, Ok, Err}
use Rattle.job_states.specs.declared.answer.Answer.{Answer}
use Rattle.job_states.specs.declared.answer.Answer.TheVariants as answer
use Rattle.job_states.specs.declared.answer.Made.{Made}
use Rattle.job_states.specs.declared.answer.Outcome.{Outcome}
use Rattle.job_states.specs.declared.answer.Outcome.TheVariants as outcome
use Rattle.job_states.specs.declared.answer.Polled.{Polled}
use Rattle.job_states.specs.declared.answer.Refused.{Refused}
use Rattle.job_states.specs.declared.answer.Refused.TheVariants as refused
use Rattle.job_states.specs.declared.command.Arg.{Arg}
use Rattle.job_states.specs.declared.command.Arg.TheVariants as arg
use Rattle.job_states.specs.declared.command.Command.{Command}
use Rattle.job_states.specs.declared.command.Command.TheVariants as command
use Rattle.job_states.specs.declared.command.Kind.TheVariants.{Worker}
use Rattle.job_states.specs.declared.command.NewJob.{NewJob}
use Rattle.job_states.specs.declared.job.Counted.{Counted}
use Rattle.job_states.specs.declared.job.JobRow.{JobRow}
use Rattle.job_states.specs.declared.job.Limited.{Limited}
use Rattle.job_states.specs.declared.job.Stage.TheVariants as stage
use Rattle.job_states.specs.declared.row.Mode.{Mode}
use Rattle.job_states.specs.declared.row.Mode.TheVariants.{Shared, Alone}
use Rattle.job_states.specs.declared.row.Row.{Row}
use Rattle.job_states.specs.declared.row.Row.TheVariants as row
use Rattle.job_states.specs.declared.transition.Put.TheVariants.{Ready, Scheduled, Blocked}
use Rattle.job_states.specs.declared.transition.Transaction.{Transaction}
use Rattle.job_states.specs.declared.transition.Transition.{Transition}
use Rattle.job_states.specs.declared.transition.Transition.TheVariants.{Enqueue, Dispatch, Claim, Done, Fail, Unblock, Register, Deregister, Pause, Expire}
use Rattle.queue_config.specs.declared.config.Class.{Class}
use Rattle.queue_config.specs.declared.config.Config.{Config}
use Rattle.queue_config.specs.declared.config.KeyFrom.TheVariants.{Argument}
use Rattle.queue_config.specs.declared.config.Limit.{Limit}
use Rattle.queue_config.specs.declared.config.Rule.{Rule}
use Rattle.queue_config.specs.declared.config.RuleAct.TheVariants.{Retry}
use Rattle.queue_model.specs.Replay.{replay}
use Rattle.queue_model.specs.World.{World, empty}
use Rattle.plan_model.specs.Books.{opened_over}
use Rattle.plan_model.specs.JobCommands.{job_plan}
use Rattle.plan_model.specs.Scenes.{Scene}
use Rattle.plan_model.specs.UpkeepCommands.{upkeep_plan}

-- ---- scenes

abbrev at : (moment : ℕ) → List Transition → Transaction
at moment steps = record { moment = moment; steps = steps }

abbrev world_after : List Transaction → World
world_after history = by (replay empty history)
  where
    by : Option World → World
    by None = empty
    by (Some w) = w

abbrev class : (name : List ℕ) → Option Limit → List Rule → Class
class name limit rules = record { name = name; limit = limit; rules = rules }

-- A has no limit, B runs one job of each argument at a time, C likewise and discards, R retries with growing waits
abbrev settings : Config
settings = record {
  classes =
      class (codes "A") None []
      ∷ class (codes "B") (Some (record { group = codes "B"; key = Argument 0; to = 1; duration = 180; discard = false })) []
      ∷ class (codes "C") (Some (record { group = codes "C"; key = Argument 0; to = 1; duration = 180; discard = true })) []
      ∷ class (codes "R") None (record { list = codes "NetError" ∷ []; act = Retry None (Some 4) } ∷ [])
      ∷ [];
  dispatcher = record { batch_size = 500; polling_ms = 1000; maintenance = 600 };
  errors = [];
  jobs = record { kept_max = 5; clear_after = 1 };
  processes = record { heartbeat = 60; alive_threshold = 300 };
  tasks = [];
  workers = [];
}

abbrev scene : List Transaction → (moment : ℕ) → Scene
scene history moment = record { book = opened_over (world_after history); settings = settings; moment = moment }

-- a command about jobs comes to these transitions and this answer
abbrev pub Comes : Scene → Command → List Transition → List (Row × Mode) → Answer → Type 0
Comes s c steps rows answer = job_plan s c ≡ Ok (record { tx = at s.moment steps; rows = rows; answer = answer })

abbrev pub IsRefused : Scene → Command → Refused → Type 0
IsRefused s c refused = job_plan s c ≡ Err refused

-- a command of maintenance
abbrev pub Keeps : Scene → Command → List Transition → List (Row × Mode) → Answer → Type 0
Keeps s c steps rows answer = upkeep_plan s c ≡ Ok (record { tx = at s.moment steps; rows = rows; answer = answer })

abbrev alone : Row → Row × Mode
alone r = (r, Alone)

abbrev shared : Row → Row × Mode
shared r = (r, Shared)

-- ---- jobs

abbrev job_of : (id : ℕ) → (class queue : List ℕ) → (priority : ℤ) → Option Limited → JobRow
job_of id class queue priority limited = record { id = id; class = class; queue = queue; priority = priority; active_id = codes "1"; envelope = codes "{}"; executions = 0; counts = []; limited = limited }

abbrev new_of : (class queue : List ℕ) → List Arg → NewJob
new_of class queue args = record { class = class; queue = queue; priority = pos 0; active_id = codes "1"; envelope = codes "{}"; executions = 0; counts = []; at = None; args = args }

abbrev made : ℕ → Outcome → Made
made id state = record { id = Some id; state = state }

-- ---- the order of a poll

abbrev worker : Transaction
worker = at 0 (Register 1 Worker (codes "w") ∷ [])

abbrev plain : (id : ℕ) → (queue : List ℕ) → (priority : ℤ) → Transition
plain id queue priority = Enqueue (job_of id (codes "A") queue priority None) (Ready None)

abbrev four_ready : List Transaction
four_ready = worker ∷ at 0 (plain 1 (codes "background") (pos 0) ∷ plain 2 (codes "real_time") (pos 10) ∷ plain 3 (codes "backend") (pos 0) ∷ plain 4 (codes "real_time") (pos 5) ∷ []) ∷ []

abbrev polled : (id : ℕ) → (queue : List ℕ) → (priority : ℤ) → Polled
polled id queue priority = record { active_id = codes "1"; class = codes "A"; envelope = codes "{}"; executions = 0; id = id; priority = priority; queue = queue }

abbrev pub PollsInOrder : Type 0
PollsInOrder = Comes (scene four_ready 1) (command.Poll 1 (codes "real_time" ∷ codes "back*" ∷ []) 3)
    (Claim 4 1 ∷ Claim 2 1 ∷ Claim 3 1 ∷ [])
    (alone (row.Job 2) ∷ alone (row.Job 3) ∷ alone (row.Job 4) ∷ shared (row.Process 1) ∷ [])
    (answer.Polled (polled 4 (codes "real_time") (pos 5) ∷ polled 2 (codes "real_time") (pos 10) ∷ polled 3 (codes "backend") (pos 0) ∷ []))

-- a paused queue is left out, and the process is held even where nothing is claimed
abbrev pub PollsNoPausedQueue : Type 0
PollsNoPausedQueue = Comes (scene (worker ∷ at 0 (plain 1 (codes "a") (pos 0) ∷ Pause (codes "a") ∷ []) ∷ []) 1) (command.Poll 1 (codes "*" ∷ []) 2)
    [] (shared (row.Process 1) ∷ []) (answer.Polled [])

abbrev pub PollNeedsProcess : Type 0
PollNeedsProcess = IsRefused (scene (worker ∷ []) 1) (command.Poll 9 (codes "*" ∷ []) 1) (refused.NoSuchProcess 9 2)

-- ---- ends of claims

abbrev claimed : List Transaction
claimed = worker ∷ at 0 (Register 2 Worker (codes "v") ∷ []) ∷ at 0 (plain 1 (codes "q") (pos 0) ∷ []) ∷ at 0 (Claim 1 1 ∷ []) ∷ []

abbrev pub StrangersCantEnd : Type 0
StrangersCantEnd = IsRefused (scene claimed 1) (command.Done 2 1) (refused.NotClaimant 1 1)

abbrev pub NoJobToEnd : Type 0
NoJobToEnd = IsRefused (scene claimed 1) (command.Done 1 9) (refused.NoSuchJob 9 2)

abbrev pub EndsOnce : Type 0
EndsOnce = IsRefused (scene (claimed ++ at 1 (Done 1 ∷ []) ∷ []) 2) (command.Done 1 1) (refused.WrongState 1 stage.Finished)

-- ---- new jobs

-- the settings keep five jobs
abbrev pub KeepsFive : Type 0
KeepsFive =
    Comes (scene four_ready 1) (command.Enqueue (new_of (codes "A") (codes "q") []))
    (plain 5 (codes "q") (pos 0) ∷ []) (alone (row.Job 5) ∷ []) (answer.Enqueued (made 5 outcome.Ready))
    × IsRefused (scene four_ready 1) (command.Bulk (new_of (codes "A") (codes "q") [] ∷ new_of (codes "A") (codes "q") [] ∷ [])) (refused.Full 4)

abbrev pub BulkNeedsClasses : Type 0
BulkNeedsClasses = IsRefused (scene [] 1) (command.Bulk (new_of (codes "A") (codes "q") [] ∷ new_of (codes "Z") (codes "q") [] ∷ [])) (refused.UnknownClass 1 (codes "Z"))

-- ---- one job of a key at a time

abbrev limited : (group : List ℕ) → Bool → Option Limited
limited group discard = Some (record { key = group ++ codes "/x"; to = 1; duration = 180_000_000; discard = discard })

abbrev b_job : (id : ℕ) → JobRow
b_job id = job_of id (codes "B") (codes "q") (pos 0) (limited (codes "B") false)

abbrev b_new : NewJob
b_new = new_of (codes "B") (codes "q") (arg.Text (codes "x") ∷ [])

abbrev b_key : Row
b_key = row.Key (codes "B/x")

abbrev pub FirstIsReady : Type 0
FirstIsReady = Comes (scene [] 0) (command.Enqueue b_new) (Enqueue (b_job 1) (Ready (Some 1)) ∷ [])
    (alone (row.Job 1) ∷ alone b_key ∷ []) (answer.Enqueued (made 1 outcome.Ready))

-- in one bulk the second job waits for the first
abbrev pub SecondIsBlocked : Type 0
SecondIsBlocked = Comes (scene [] 0) (command.Bulk (b_new ∷ b_new ∷ []))
    (Enqueue (b_job 1) (Ready (Some 1)) ∷ Enqueue (b_job 2) (Blocked 180_000_000) ∷ [])
    (alone (row.Job 1) ∷ alone (row.Job 2) ∷ alone b_key ∷ [])
    (answer.Bulk (made 1 outcome.Ready ∷ made 2 outcome.Blocked ∷ []))

abbrev b_claimed : List Transaction
b_claimed = worker ∷ at 0 (Enqueue (b_job 1) (Ready (Some 1)) ∷ Enqueue (b_job 2) (Blocked 180_000_000) ∷ []) ∷ at 1 (Claim 1 1 ∷ []) ∷ []

-- the end of the first lets the second go
abbrev pub EndUnblocks : Type 0
EndUnblocks = Comes (scene b_claimed 2) (command.Done 1 1) (Done 1 ∷ Unblock 2 1 ∷ [])
    (alone (row.Job 1) ∷ alone (row.Job 2) ∷ alone b_key ∷ shared (row.Process 1) ∷ [])
    (answer.Done 1 (Some 2))

-- a permit of an expired semaphore lets none go
abbrev pub OldPermitsUnblockNone : Type 0
OldPermitsUnblockNone = Comes (scene (b_claimed ++ at 180_000_000 (Expire (codes "B/x") ∷ []) ∷ at 180_000_000 (Enqueue (b_job 3) (Ready (Some 2)) ∷ []) ∷ []) 180_000_001) (command.Done 1 1) (Done 1 ∷ [])
    (alone (row.Job 1) ∷ alone b_key ∷ shared (row.Process 1) ∷ [])
    (answer.Done 1 None)

abbrev c_job : (id : ℕ) → JobRow
c_job id = job_of id (codes "C") (codes "q") (pos 0) (limited (codes "C") true)

abbrev c_new : NewJob
c_new = new_of (codes "C") (codes "q") (arg.Text (codes "x") ∷ [])

-- a class that discards makes no second job
abbrev pub SecondIsDiscarded : Type 0
SecondIsDiscarded = Comes (scene (at 0 (Enqueue (c_job 1) (Ready (Some 1)) ∷ []) ∷ []) 1) (command.Enqueue c_new) [] []
    (answer.Enqueued (record { id = None; state = outcome.Discarded }))

-- and tries none again while its key is closed
abbrev pub RetryNeedsPermit : Type 0
RetryNeedsPermit = IsRefused
    (scene (worker ∷ at 0 (Enqueue (c_job 1) (Ready (Some 1)) ∷ []) ∷ at 0 (Claim 1 1 ∷ []) ∷ at 0 (Fail 1 (codes "E") [] None ∷ []) ∷ at 0 (Enqueue (c_job 2) (Ready (Some 1)) ∷ []) ∷ []) 1)
    (command.Retry 1) (refused.SemaphoreClosed (codes "C/x"))

-- ---- retries with growing waits

abbrev net_errors : (count : ℕ) → List Counted
net_errors count = record { list = codes "[NetError]"; count = count } ∷ []

abbrev r_job : (id : ℕ) → JobRow
r_job id = job_of id (codes "R") (codes "q") (pos 0) None

abbrev tried : (id count : ℕ) → JobRow
tried id count = record (r_job id) { executions = count; counts = net_errors count }

-- the first error waits 1 + 2 seconds
abbrev pub FirstWait : Type 0
FirstWait = Comes (scene (worker ∷ at 0 (Enqueue (r_job 1) (Ready None) ∷ []) ∷ at 1 (Claim 1 1 ∷ []) ∷ []) 2) (command.Raised 1 1 (codes "NetError") [])
    (Done 1 ∷ Enqueue (tried 2 1) (Scheduled 3_000_002) ∷ [])
    (alone (row.Job 1) ∷ alone (row.Job 2) ∷ shared (row.Process 1) ∷ [])
    (answer.Raised 1 (Some 2) outcome.Finished None)

-- the fourth one is the last
abbrev pub LastAttempt : Type 0
LastAttempt = Comes (scene (worker ∷ at 0 (Enqueue (tried 1 3) (Ready None) ∷ []) ∷ at 1 (Claim 1 1 ∷ []) ∷ []) 2) (command.Raised 1 1 (codes "NetError") (codes "down"))
    (Fail 1 (codes "NetError") (codes "down") (Some (record { executions = 4; counts = net_errors 4 })) ∷ [])
    (alone (row.Job 1) ∷ shared (row.Process 1) ∷ [])
    (answer.Raised 1 None outcome.Failed None)

-- ---- maintenance

abbrev registered : List Transaction
registered = at 1000 (Register 1 Worker (codes "w") ∷ []) ∷ at 1000 (plain 1 (codes "q") (pos 0) ∷ []) ∷ at 1000 (Claim 1 1 ∷ []) ∷ []

-- a process goes once its last beat is 300 seconds ago, and no earlier
abbrev pub PrunesInTime : Type 0
PrunesInTime =
    Keeps (scene registered 300_000_999) command.Prune [] [] (answer.Pruned 0 None)
    × Keeps (scene registered 300_001_000) command.Prune
    (Fail 1 (codes "ProcessPrunedError") (codes "pruned: last beat 1000") None ∷ Deregister 1 ∷ [])
    (alone (row.Job 1) ∷ alone (row.Process 1) ∷ [])
    (answer.Pruned 1 (Some 1))

-- the first due job takes the key's permit, and the second waits
abbrev pub DispatchMeetsSemaphore : Type 0
DispatchMeetsSemaphore = Keeps (scene (at 0 (Enqueue (b_job 1) (Scheduled 5) ∷ Enqueue (b_job 2) (Scheduled 4) ∷ []) ∷ []) 5) command.Dispatch
    (Dispatch 2 (Ready (Some 1)) ∷ Dispatch 1 (Blocked 180_000_005) ∷ [])
    (alone (row.Job 1) ∷ alone (row.Job 2) ∷ alone b_key ∷ [])
    (answer.Count 2)

-- a lapsed semaphore goes, and what waited for it starts a new one
abbrev pub LapsedKeysLetGo : Type 0
LapsedKeysLetGo =
    Keeps (scene b_claimed 180_000_000) command.Expire (Expire (codes "B/x") ∷ []) (alone b_key ∷ []) (answer.Count 1)
    × Keeps (scene (b_claimed ++ at 180_000_000 (Expire (codes "B/x") ∷ []) ∷ []) 180_000_000) command.Unblock
    (Unblock 2 2 ∷ []) (alone (row.Job 2) ∷ alone b_key ∷ []) (answer.Count 1)
