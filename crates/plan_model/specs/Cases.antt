-- Cases of commands in scenes, as an independent model worked them out.
use Rattle.std.specs.Prelude.{◌≡◌, ℕ, ℤ, List, [], ◌∷◌, Option, None, Some, Result, codes, true, false}
use Rattle.job_states.specs.declared.answer.Answer.{Answer}
use Rattle.job_states.specs.declared.answer.Made.{Made}
use Rattle.job_states.specs.declared.answer.Outcome.{Outcome}
use Rattle.job_states.specs.declared.answer.Polled.{Polled}
use Rattle.job_states.specs.declared.answer.Refused.{Refused}
use Rattle.job_states.specs.declared.command.Arg.{Arg}
use Rattle.job_states.specs.declared.command.Command.{Command}
use Rattle.job_states.specs.declared.command.Kind.{Kind}
use Rattle.job_states.specs.declared.command.NewJob.{NewJob}
use Rattle.job_states.specs.declared.job.Counted.{Counted}
use Rattle.job_states.specs.declared.job.JobRow.{JobRow}
use Rattle.job_states.specs.declared.job.Limited.{Limited}
use Rattle.job_states.specs.declared.row.Mode.{Mode}
use Rattle.job_states.specs.declared.row.Row.{Row}
use Rattle.job_states.specs.declared.transition.Counters.{Counters}
use Rattle.job_states.specs.declared.transition.Transaction.{Transaction}
use Rattle.job_states.specs.declared.transition.Transition.{Transition}
use Rattle.semaphores.specs.Semaphore.{Semaphore}
use Rattle.queue_config.specs.declared.config.Config.{Config}
use Rattle.queue_config.specs.declared.config.KeyFrom.TheVariants.{Fixed, Argument}
use Rattle.queue_config.specs.declared.config.RuleAct.TheVariants.{Discard, Retry}
use Rattle.queue_model.specs.Map as map
use Rattle.queue_model.specs.World.{World, job}
use Rattle.queue_model.specs.declared.Job.{Job}
use Rattle.queue_model.specs.declared.Numbers.{Numbers}
use Rattle.queue_model.specs.declared.Process.{Process}
use Rattle.std.specs.Prelude.{Bool}
use Rattle.plan_model.specs.Begins.{unless_locked}
use Rattle.plan_model.specs.Plans.{Plan}
use Rattle.plan_model.specs.Scenes.{Scene}

-- ---- short names

abbrev pub class_a : List ℕ
class_a = codes "A"

abbrev pub class_b : List ℕ
class_b = codes "B"

abbrev pub class_c : List ℕ
class_c = codes "C"

abbrev pub class_d : List ℕ
class_d = codes "D"

abbrev pub queue_a : List ℕ
queue_a = codes "a"

abbrev pub queue_ab : List ℕ
queue_ab = codes "ab"

abbrev pub queue_b : List ℕ
queue_b = codes "b"

abbrev pub queue_q : List ℕ
queue_q = codes "q"

abbrev pub key_g : List ℕ
key_g = codes "g/x"

abbrev pub key_h : List ℕ
key_h = codes "h/x"

abbrev pub active_id : List ℕ
active_id = codes "1"

abbrev pub envelope : List ℕ
envelope = codes "{}"

abbrev pub limit : (key : List ℕ) → (to duration : ℕ) → (discard : Bool) → Limited
limit key to duration discard = record { key = key; to = to; duration = duration; discard = discard }

abbrev pub waits_g : Limited
waits_g = limit key_g 1 50_000_000 false

abbrev pub drops_g : Limited
drops_g = limit key_g 1 60_000_000 true

abbrev pub drops_h : Limited
drops_h = limit key_h 2 70_000_000 true

abbrev pub counted : (list : List ℕ) → (count : ℕ) → Counted
counted list count = record { list = list; count = count }

abbrev pub counters : (executions : ℕ) → List Counted → Counters
counters executions counts = record { executions = executions; counts = counts }

abbrev pub row : (id : ℕ) → (class queue : List ℕ) → (priority : ℤ) → (executions : ℕ) → List Counted → Option Limited → JobRow
row id class queue priority executions counts limited = record { id = id; class = class; queue = queue; priority = priority; active_id = active_id; envelope = envelope; executions = executions; counts = counts; limited = limited }

abbrev pub new : (class queue : List ℕ) → (priority : ℤ) → (executions : ℕ) → List Counted → (at : Option ℕ) → List Arg → NewJob
new class queue priority executions counts at args = record { class = class; queue = queue; priority = priority; active_id = active_id; envelope = envelope; executions = executions; counts = counts; at = at; args = args }

abbrev pub polled : (id : ℕ) → (class queue : List ℕ) → (priority : ℤ) → (executions : ℕ) → Polled
polled id class queue priority executions = record { active_id = active_id; class = class; envelope = envelope; executions = executions; id = id; priority = priority; queue = queue }

abbrev pub process : Kind → (since beat : ℕ) → Process
process kind since beat = record { kind = kind; name = codes "w"; since = since; beat = beat }

abbrev pub numbers : (job pid generation moment : ℕ) → Numbers
numbers job pid generation moment = record { job = job; pid = pid; generation = generation; moment = moment }

abbrev pub made : Option ℕ → Outcome → Made
made id state = record { id = id; state = state }

abbrev pub tx : (moment : ℕ) → List Transition → Transaction
tx moment steps = record { moment = moment; steps = steps }

abbrev pub world : List (ℕ × Job) → List (List ℕ × Semaphore) → List (ℕ × Process) → (paused : List (List ℕ × Unit {0})) → (last_runs : List (List ℕ × ℕ)) → Numbers → World
world jobs semaphores processes paused last_runs numbers = record {
  jobs = map.from_entries jobs;
  semaphores = map.from_entries semaphores;
  processes = map.from_entries processes;
  paused = map.from_entries paused;
  last_runs = map.from_entries last_runs;
  recurring = map.empty;
  numbers = numbers;
}

-- A tries E and F again, and G ends without an error; B runs one job of its key at a time, C two of each argument, and D shares
-- the key of B.
abbrev pub settings : (kept_max : ℕ) → Config
settings kept_max = record {
  classes =
      record { name = class_a; limit = None; rules = record { list = codes "E" ∷ codes "F" ∷ []; act = Retry None (Some 3) } ∷ record { list = codes "G" ∷ []; act = Discard } ∷ [] }
      ∷ record { name = class_b; limit = Some (record { group = codes "g"; key = Fixed (codes "x"); to = 1; duration = 50; discard = false }); rules = record { list = codes "StandardError" ∷ []; act = Retry (Some 0) None } ∷ record { list = codes "E" ∷ []; act = Retry (Some 9) (Some 2) } ∷ [] }
      ∷ record { name = class_c; limit = Some (record { group = codes "h"; key = Argument 0; to = 2; duration = 70; discard = true }); rules = record { list = codes "StandardError" ∷ []; act = Retry (Some 0) None } ∷ [] }
      ∷ record { name = class_d; limit = Some (record { group = codes "g"; key = Fixed (codes "x"); to = 1; duration = 60; discard = true }); rules = record { list = codes "G" ∷ []; act = Retry (Some 5) None } ∷ [] }
      ∷ [];
  dispatcher = record { batch_size = 3; polling_ms = 1000; maintenance = 600 };
  errors = record { name = codes "G"; parent = codes "E" } ∷ record { name = codes "H"; parent = codes "Other" } ∷ [];
  jobs = record { kept_max = kept_max; clear_after = 100 };
  processes = record { heartbeat = 60; alive_threshold = 200 };
  tasks = [];
  workers = [];
}

-- ---- cases

abbrev pub plan : Transaction → List (Row × Mode) → Answer → Plan
plan transaction rows answer = record { tx = transaction; rows = rows; answer = answer }

abbrev pub scene : World → (open_plans : List (ℕ × Plan)) → (given : Numbers) → (kept_max moment : ℕ) → Scene
scene w open_plans given kept_max moment = record { book = record { world = w; open_plans = map.from_entries open_plans; given = given }; settings = settings kept_max; moment = moment }

pub record Case : Type 0 where
  pub scene : Scene
  pub command : Command
  pub comes_to : Result Plan Refused

abbrev pub begins : Scene → Command → Result Plan Refused → Case
begins s c comes_to = record { scene = s; command = c; comes_to = comes_to }

-- beginning each command comes to what is said
abbrev pub AreBegun : (Scene → Command → Result Plan Refused) → List Case → Type 0
AreBegun planned [] = Unit {0}
AreBegun planned (c ∷ cs) = (unless_locked c.scene.book (planned c.scene c.command) ≡ c.comes_to) × AreBegun planned cs
