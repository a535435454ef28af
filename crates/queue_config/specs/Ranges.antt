-- What holds of each accepted value.
use Rattle.std.specs.Prelude.{◌≡◌, ◌≢◌, ◌≤◌, ℕ, false, List, length, map, sum_by, Ok, All, AllPairs}
use Rattle.std.specs.Option.{ForSome, IsSome}
use Rattle.serde_json.specs.Data.{Data, boolean, number, string, array}
use Rattle.serde_json.specs.Find.{of_integer}
use Rattle.serde_json.specs.View.{items_of}
use Rattle.serde_json.specs.Written.{compact_text}
use Rattle.cron_lines.specs.Text.{schedule_of}
use Rattle.job_states.specs.declared.command.Arg.{Arg}
use Rattle.job_states.specs.declared.command.Arg.TheVariants as arg
use Rattle.job_states.specs.Length.{IsName}
use Rattle.queue_selector.specs.Items.{IsQueueList}
use Rattle.queue_config.specs.declared.config.Class.{Class}
use Rattle.queue_config.specs.declared.config.Config.{Config}
use Rattle.queue_config.specs.declared.config.DispatcherKeys.{DispatcherKeys}
use Rattle.queue_config.specs.declared.config.ErrorKeys.{ErrorKeys}
use Rattle.queue_config.specs.declared.config.JobsKeys.{JobsKeys}
use Rattle.queue_config.specs.declared.config.KeyFrom.{KeyFrom}
use Rattle.queue_config.specs.declared.config.KeyFrom.TheVariants.{Fixed, Argument}
use Rattle.queue_config.specs.declared.config.Limit.{Limit}
use Rattle.queue_config.specs.declared.config.ProcessKeys.{ProcessKeys}
use Rattle.queue_config.specs.declared.config.Rule.{Rule}
use Rattle.queue_config.specs.declared.config.RuleAct.{RuleAct}
use Rattle.queue_config.specs.declared.config.RuleAct.TheVariants.{Discard, Retry}
use Rattle.queue_config.specs.declared.config.Task.{Task}
use Rattle.queue_config.specs.declared.config.TaskArg.{TaskArg}
use Rattle.queue_config.specs.declared.config.TaskArg.TheVariants.{Text, Whole, Truth}
use Rattle.queue_config.specs.declared.config.Worker.{Worker}
use Rattle.queue_config.specs.Errors.{standard_error, IsKindOf, is_own_ancestor}
use Rattle.queue_config.specs.Limits.{find_class, limit_in, refuses_key}
use Rattle.queue_config.specs.ListText.{list_text}
use Rattle.queue_config.specs.Wrong.{clash}

abbrev pub Between : ℕ → ℕ → ℕ → Type 0
Between least most n = (least ≤ n) × (n ≤ most)

-- ---- classes

-- a text of 1 to 128 bytes, or the number of one of the first 16 arguments
abbrev pub IsKeyFrom : KeyFrom → Type 0
IsKeyFrom (Fixed text) = IsName text
IsKeyFrom (Argument n) = n ≤ 15

pub record IsLimit (limit : Limit) : Type 0 where
  pub group : IsName limit.group
  pub key : IsKeyFrom limit.key
  pub to : Between 1 65_535 limit.to
  pub duration : Between 1 31_536_000 limit.duration

abbrev pub IsRuleAct : RuleAct → Type 0
IsRuleAct Discard = Unit {0}
IsRuleAct (Retry wait attempts) = ForSome wait (λ n. n ≤ 31_536_000) × ForSome attempts (Between 1 65_535)

-- 1 to 8 names, and their text is short
pub record IsErrorList (names : List (List ℕ)) : Type 0 where
  pub count : Between 1 8 (length names)
  pub each : All IsName names
  pub text : length (list_text names) ≤ 1024

pub record IsRule (rule : Rule) : Type 0 where
  pub list : IsErrorList rule.list
  pub act : IsRuleAct rule.act

pub record IsClass (class : Class) : Type 0 where
  pub name : IsName class.name
  pub limit : ForSome class.limit IsLimit
  pub rule_count : length class.rules ≤ 16
  pub rules : All IsRule class.rules

-- ---- the other tables

-- `StandardError` is not declared
pub record IsErrorKeys (error : ErrorKeys) : Type 0 where
  pub name : IsName error.name
  pub parent : IsName error.parent
  pub own : error.name ≢ standard_error

pub record IsDispatcher (keys : DispatcherKeys) : Type 0 where
  pub batch_size : Between 1 500 keys.batch_size
  pub polling_ms : Between 1 3_600_000 keys.polling_ms
  pub maintenance : Between 1 86_400 keys.maintenance

pub record IsJobs (keys : JobsKeys) : Type 0 where
  pub kept_max : Between 1 250_000 keys.kept_max
  pub clear_after : keys.clear_after ≤ 31_536_000

pub record IsProcesses (keys : ProcessKeys) : Type 0 where
  pub heartbeat : Between 1 86_400 keys.heartbeat
  pub alive_threshold : Between 1 86_400 keys.alive_threshold

-- an argument in JSON
abbrev pub arg_data : TaskArg → Data
arg_data (Text text) = string text
arg_data (Whole n) = number (of_integer n)
arg_data (Truth b) = boolean b

-- all arguments as a JSON array
abbrev pub args_text : List TaskArg → List ℕ
args_text args = compact_text (array (items_of (map arg_data args)))

-- the argument of a job
abbrev pub arg_of : TaskArg → Arg
arg_of (Text text) = arg.Text text
arg_of (Whole n) = arg.Whole n
arg_of (Truth b) = arg.Other

-- Its schedule is the one that its text spells, its arguments' JSON is short, and its class, if it is among these, takes them.
pub record IsTask (classes : List Class) (task : Task) : Type 0 where
  pub key : IsName task.key
  pub class : IsName task.class
  pub schedule : schedule_of task.schedule_text ≡ Ok task.schedule
  pub queue : IsName task.queue
  pub text : length (args_text task.args) ≤ 4096
  pub args : refuses_key (limit_in (find_class task.class classes)) (map arg_of task.args) ≡ false

pub record IsWorker (worker : Worker) : Type 0 where
  pub queues : IsQueueList worker.queues
  pub threads : Between 1 32 worker.threads
  pub claim : Between 1 100 worker.claim
  pub polling_ms : Between 1 3_600_000 worker.polling_ms

abbrev pub threads_of : List Worker → ℕ
threads_of workers = sum_by (λ worker. worker.threads) workers

pub record AreWorkers (workers : List Worker) : Type 0 where
  pub each : All IsWorker workers
  pub threads : threads_of workers ≤ 32

-- what holds of each value by itself
pub record HasRanges (config : Config) : Type 0 where
  pub class_count : length config.classes ≤ 1024
  pub classes : All IsClass config.classes
  pub dispatcher : IsDispatcher config.dispatcher
  pub error_count : length config.errors ≤ 1024
  pub errors : All IsErrorKeys config.errors
  pub jobs : IsJobs config.jobs
  pub processes : IsProcesses config.processes
  pub task_count : length config.tasks ≤ 1024
  pub tasks : All (IsTask config.classes) config.tasks
  pub worker_count : 1 ≤ length config.workers
  pub workers : AreWorkers config.workers

-- ---- the whole

-- What holds of all accepted settings. The parents of each error don't come round to it, and end at `StandardError`.
pub record IsConfig (config : Config) : Type 0 where
  pub ranges : HasRanges config
  pub class_names : AllPairs (λ a b. a.name ≢ b.name) config.classes
  pub error_names : AllPairs (λ a b. a.name ≢ b.name) config.errors
  pub task_keys : AllPairs (λ a b. a.key ≢ b.key) config.tasks
  pub task_classes : All (λ task. IsSome (find_class task.class config.classes)) config.tasks
  pub rounds : All (λ error. is_own_ancestor config.errors error ≡ false) config.errors
  pub parents : All (λ error. IsKindOf config.errors error.name standard_error) config.errors
  pub groups : AllPairs (λ a b. clash a b ≡ false) config.classes
