-- The settings that are accepted, and the first thing that is wrong with any other text.
use Rattle.std.specs.Prelude.{ℕ, ◌+◌, ◌||◌, Bool, true, false, ℤ, pos, negsuc, List, [], ◌∷◌, length, map, nat_lt, unsigned_abs, codes, Option, Some, None, Result, Ok, Err, if◌then◌else◌}
use Rattle.std.specs.Str.{bytes_eq}
use Rattle.cron_lines.specs.Text.{schedule_of}
use Rattle.cron_lines.specs.declared.times.Schedule.{Schedule}
use Rattle.cron_lines.specs.declared.times.ScheduleFault.{ScheduleFault}
use Rattle.toml.specs.Data.{Data, string, integer, boolean, Members, get_member, as_str}
use Rattle.job_states.specs.Judged.{◌>>=◌}
use Rattle.toml_members.specs.Document.{document_of}
use Rattle.toml_members.specs.Fault.{Judged, missing, wrong_kind, not_allowed}
use Rattle.toml_members.specs.Key.{key_in}
use Rattle.toml_members.specs.Kind.{or_default, or_empty, needed, known, section, whole_in, whole_at, counted, count_at, count_or_word, text_in, name_from, name_in, name_at, name_or, flag_in, items_at, each, array_at, names_in}
use Rattle.queue_config.specs.declared.config.Class.{Class}
use Rattle.queue_config.specs.declared.config.Config.{Config}
use Rattle.queue_config.specs.declared.config.DispatcherKeys.{DispatcherKeys}
use Rattle.queue_config.specs.declared.config.ErrorKeys.{ErrorKeys}
use Rattle.queue_config.specs.declared.config.JobsKeys.{JobsKeys}
use Rattle.queue_config.specs.declared.config.KeyFrom.{KeyFrom}
use Rattle.queue_config.specs.declared.config.KeyFrom.TheVariants.{Fixed, Argument}
use Rattle.queue_config.specs.declared.config.Limit.{Limit}
use Rattle.queue_config.specs.declared.config.ProcessKeys.{ProcessKeys}
use Rattle.queue_config.specs.declared.config.Rule.{Rule}
use Rattle.queue_config.specs.declared.config.RuleAct.{RuleAct}
use Rattle.queue_config.specs.declared.config.RuleAct.TheVariants.{Discard, Retry}
use Rattle.queue_config.specs.declared.config.Task.{Task}
use Rattle.queue_config.specs.declared.config.TaskArg.{TaskArg}
use Rattle.queue_config.specs.declared.config.TaskArg.TheVariants.{Text, Whole, Truth}
use Rattle.queue_config.specs.declared.config.Worker.{Worker}
use Rattle.queue_config.specs.Errors.{standard_error}
use Rattle.queue_config.specs.Fault.{too_long}
use Rattle.queue_config.specs.Limits.{find_class, limit_in, refuses_key}
use Rattle.queue_config.specs.Ranges.{arg_of, args_text, threads_of}
use Rattle.queue_config.specs.ListText.{list_text}
use Rattle.queue_config.specs.Wrong.{judged_whole}
pub use Rattle.queue_config.specs.Limits.{find_class}

-- ---- limits

abbrev pub fixed_key : List ℕ → Data → Judged (List ℕ)
fixed_key place d = name_in (key_in place (codes "key")) d

-- one of `key` and `key_argument` is needed, and not both
abbrev pub key_from : List ℕ → Option Data → Option Data → Judged KeyFrom
key_from place None None = missing (key_in place (codes "key"))
key_from place (Some text) None = fixed_key place text >>= λ t. Ok (Fixed t)
key_from place None (Some n) = counted (whole_in (key_in place (codes "key_argument")) (pos 0) (pos 15) n) >>= λ i. Ok (Argument i)
key_from place (Some text) (Some n) =
    fixed_key place text >>= λ t.
    whole_in (key_in place (codes "key_argument")) (pos 0) (pos 15) n >>= λ i.
    not_allowed (key_in place (codes "key_argument"))

abbrev pub discards_in : List ℕ → Option Data → Judged Bool
discards_in place d = or_default d false (flag_in (key_in place (codes "on_conflict")) (codes "block") (codes "discard"))

unfoldable pub limit_members : List ℕ → Data → Judged Members
limit_members place d = section place (codes "group" ∷ codes "key" ∷ codes "key_argument" ∷ codes "to" ∷ codes "duration" ∷ codes "on_conflict" ∷ []) d

-- the limit of a class of this name
unfoldable pub limit_of : List ℕ → List ℕ → Data → Judged Limit
limit_of name place d = do
  ms ← limit_members place d
  group ← name_or place (codes "group") name ms
  key ← key_from place (get_member (codes "key") ms) (get_member (codes "key_argument") ms)
  to ← count_at place (codes "to") 1 65_535 1 ms
  duration ← count_at place (codes "duration") 1 31_536_000 180 ms
  discard ← discards_in place (get_member (codes "on_conflict") ms)
  Ok (record { group = group; key = key; to = to; duration = duration; discard = discard })

abbrev pub limit_at : List ℕ → List ℕ → Option Data → Judged (Option Limit)
limit_at name place None = Ok None
limit_at name place (Some d) = limit_of name place d >>= λ limit. Ok (Some limit)

-- ---- rules

abbrev pub short_list : List ℕ → List (List ℕ) → Judged (List (List ℕ))
short_list key names = if nat_lt 1024 (length (list_text names)) then not_allowed key else Ok names

abbrev pub error_list : List ℕ → Data → Judged (List (List ℕ))
error_list key d = names_in key 8 d >>= short_list key

-- what stands beside `retry` alone
abbrev pub unless_discard : List ℕ → Bool → Option ℕ → Judged (Option ℕ)
unless_discard key true count = not_allowed key
unless_discard key false count = Ok count

abbrev pub retry_key : (place key word : List ℕ) → (least most default : ℤ) → Bool → Members → Judged (Option ℕ)
retry_key place key word least most default discard ms =
    or_default (get_member key ms) (Some (unsigned_abs default)) (λ d. count_or_word (key_in place key) word least most d >>= unless_discard (key_in place key) discard)

abbrev pub act_of : Bool → Option ℕ → Option ℕ → RuleAct
act_of true wait attempts = Discard
act_of false wait attempts = Retry wait attempts

unfoldable pub rule_of : List Rule → List ℕ → Data → Judged Rule
rule_of before place d = do
  ms ← section place (codes "on" ∷ codes "do" ∷ codes "wait" ∷ codes "attempts" ∷ []) d
  on ← needed place (codes "on") ms
  list ← error_list (key_in place (codes "on")) on
  does ← needed place (codes "do") ms
  discard ← flag_in (key_in place (codes "do")) (codes "retry") (codes "discard") does
  wait ← retry_key place (codes "wait") (codes "polynomially_longer") (pos 0) (pos 31_536_000) (pos 3) discard ms
  attempts ← retry_key place (codes "attempts") (codes "unlimited") (pos 1) (pos 65_535) (pos 5) discard ms
  Ok (record { list = list; act = act_of discard wait attempts })

-- ---- the tables, each with its keys in order

unfoldable pub class_of : List Class → List ℕ → Data → Judged Class
class_of before place d = do
  ms ← section place (codes "name" ∷ codes "limit" ∷ codes "rules" ∷ []) d
  name ← name_at place (codes "name") ms
  limit ← limit_at name (key_in place (codes "limit")) (get_member (codes "limit") ms)
  rules ← array_at rule_of place (codes "rules") 16 ms
  Ok (record { name = name; limit = limit; rules = rules })

unfoldable pub dispatcher_members : List ℕ → Data → Judged Members
dispatcher_members place d = section place (codes "batch_size" ∷ codes "polling_ms" ∷ codes "maintenance" ∷ []) d

unfoldable pub dispatcher_of : List ℕ → Data → Judged DispatcherKeys
dispatcher_of place d = do
  ms ← dispatcher_members place d
  batch_size ← count_at place (codes "batch_size") 1 500 500 ms
  polling_ms ← count_at place (codes "polling_ms") 1 3_600_000 1000 ms
  maintenance ← count_at place (codes "maintenance") 1 86_400 600 ms
  Ok (record { batch_size = batch_size; polling_ms = polling_ms; maintenance = maintenance })

abbrev pub unless_standard : List ℕ → List ℕ → Judged (List ℕ)
unless_standard key name = if bytes_eq name standard_error then not_allowed key else Ok name

unfoldable pub error_of : List ErrorKeys → List ℕ → Data → Judged ErrorKeys
error_of before place d = do
  ms ← section place (codes "name" ∷ codes "parent" ∷ []) d
  text ← name_at place (codes "name") ms
  name ← unless_standard (key_in place (codes "name")) text
  parent ← name_or place (codes "parent") standard_error ms
  Ok (record { name = name; parent = parent })

unfoldable pub jobs_of : List ℕ → Data → Judged JobsKeys
jobs_of place d = do
  ms ← section place (codes "kept_max" ∷ codes "clear_after" ∷ []) d
  kept_max ← count_at place (codes "kept_max") 1 250_000 250_000 ms
  clear_after ← count_at place (codes "clear_after") 0 31_536_000 86_400 ms
  Ok (record { kept_max = kept_max; clear_after = clear_after })

unfoldable pub processes_of : List ℕ → Data → Judged ProcessKeys
processes_of place d = do
  ms ← section place (codes "heartbeat" ∷ codes "alive_threshold" ∷ []) d
  heartbeat ← count_at place (codes "heartbeat") 1 86_400 60 ms
  alive_threshold ← count_at place (codes "alive_threshold") 1 86_400 300 ms
  Ok (record { heartbeat = heartbeat; alive_threshold = alive_threshold })

-- ---- tasks

abbrev pub schedule_in : List ℕ → Result Schedule ScheduleFault → Judged Schedule
schedule_in key (Ok schedule) = Ok schedule
schedule_in key (Err fault) = not_allowed key

-- a text, a whole number or a truth value, refused at the key of the array
abbrev pub arg_in : List ℕ → List TaskArg → List ℕ → Data → Judged TaskArg
arg_in array before place (string text) = Ok (Text text)
arg_in array before place (integer n) = Ok (Whole n)
arg_in array before place (boolean b) = Ok (Truth b)
arg_in array before place d = wrong_kind array

-- their JSON is short, and a class with this limit takes them
abbrev pub args_for : List ℕ → Option Limit → List TaskArg → Judged (List TaskArg)
args_for key limit args = if nat_lt 4096 (length (args_text args)) || refuses_key limit (map arg_of args) then not_allowed key else Ok args

unfoldable pub args_at : List ℕ → List ℕ → Option Limit → Members → Judged (List TaskArg)
args_at place key limit ms = do
  items ← items_at place key ms
  args ← each (arg_in (key_in place key)) (key_in place key) [] items
  args_for (key_in place key) limit args

unfoldable pub task_members : List ℕ → Data → Judged Members
task_members place d = section place (codes "key" ∷ codes "class" ∷ codes "schedule" ∷ codes "queue" ∷ codes "priority" ∷ codes "args" ∷ []) d

-- the text of a schedule, and what it says
unfoldable pub schedule_at : List ℕ → Members → Judged (List ℕ × Schedule)
schedule_at place ms = do
  spelled ← needed place (codes "schedule") ms
  text ← text_in (key_in place (codes "schedule")) spelled
  schedule ← schedule_in (key_in place (codes "schedule")) (schedule_of text)
  Ok (text, schedule)

unfoldable pub task_of : List Class → List Task → List ℕ → Data → Judged Task
task_of classes before place d = do
  ms ← task_members place d
  key ← name_at place (codes "key") ms
  class ← name_at place (codes "class") ms
  timed ← schedule_at place ms
  queue ← name_or place (codes "queue") (codes "default") ms
  priority ← whole_at place (codes "priority") (negsuc 2_147_483_647) (pos 2_147_483_647) (pos 0) ms
  args ← args_at place (codes "args") (limit_in (find_class class classes)) ms
  Ok (record { key = key; class = class; schedule = timed.1; schedule_text = timed.0; queue = queue; priority = priority; args = args })

-- ---- workers

-- a text is a list of one item
abbrev pub queues_from : List ℕ → Data → Option (List ℕ) → Judged (List (List ℕ))
queues_from key d (Some text) = name_from key text >>= λ item. Ok (item ∷ [])
queues_from key d None = names_in key 64 d

abbrev pub queues_in : List ℕ → Data → Judged (List (List ℕ))
queues_in key d = queues_from key d (as_str d)

abbrev pub queues_at : List ℕ → Option Data → Judged (List (List ℕ))
queues_at place d = or_default d (codes "*" ∷ []) (queues_in (key_in place (codes "queues")))

-- all workers so far have at most 32 threads
abbrev pub unless_many : List ℕ → List Worker → ℕ → Judged ℕ
unless_many key before threads = if nat_lt 32 (threads_of before + threads) then not_allowed key else Ok threads

abbrev pub threads_at : List ℕ → List Worker → Members → Judged ℕ
threads_at place before ms = count_at place (codes "threads") 1 32 3 ms >>= unless_many (key_in place (codes "threads")) before

unfoldable pub worker_members : List ℕ → Data → Judged Members
worker_members place d = section place (codes "queues" ∷ codes "threads" ∷ codes "claim" ∷ codes "polling_ms" ∷ []) d

unfoldable pub worker_of : List Worker → List ℕ → Data → Judged Worker
worker_of before place d = do
  ms ← worker_members place d
  queues ← queues_at place (get_member (codes "queues") ms)
  threads ← threads_at place before ms
  claim ← count_at place (codes "claim") 1 100 1 ms
  polling_ms ← count_at place (codes "polling_ms") 1 3_600_000 100 ms
  Ok (record { queues = queues; threads = threads; claim = claim; polling_ms = polling_ms })

-- no workers are one, with the defaults: any queue, three threads, one job at a time, every tenth of a second
abbrev pub or_default_worker : List Worker → List Worker
or_default_worker [] = record { queues = codes "*" ∷ []; threads = 3; claim = 1; polling_ms = 100 } ∷ []
or_default_worker (worker ∷ workers) = worker ∷ workers

abbrev pub workers_at : List ℕ → Members → Judged (List Worker)
workers_at key top = items_at [] key top >>= each worker_of key [] >>= λ workers. Ok (or_default_worker workers)

-- ---- the whole

abbrev pub top_keys : List (List ℕ)
top_keys = codes "classes" ∷ codes "dispatcher" ∷ codes "errors" ∷ codes "jobs" ∷ codes "processes" ∷ codes "tasks" ∷ codes "workers" ∷ []

abbrev pub table_of : {X : Type 0} → (List ℕ → Data → Judged X) → List ℕ → Members → Judged X
table_of judge key top = judge key (or_empty (get_member key top))

-- the settings of a document's tables, each judged by itself
unfoldable pub tables_of : Members → Judged Config
tables_of top = do
  classes ← array_at class_of [] (codes "classes") 1024 top
  dispatcher ← table_of dispatcher_of (codes "dispatcher") top
  errors ← array_at error_of [] (codes "errors") 1024 top
  jobs ← table_of jobs_of (codes "jobs") top
  processes ← table_of processes_of (codes "processes") top
  tasks ← array_at (task_of classes) [] (codes "tasks") 1024 top
  workers ← workers_at (codes "workers") top
  Ok (record { classes = classes; dispatcher = dispatcher; errors = errors; jobs = jobs; processes = processes; tasks = tasks; workers = workers })

unfoldable pub top_members : Members → Judged Members
top_members document = known [] top_keys document

-- unknown keys at the top, then table by table, and then what is judged of the whole
unfoldable pub settings_of : Members → Judged Config
settings_of document = top_members document >>= tables_of >>= judged_whole

unfoldable pub config_of : List ℕ → Judged Config
config_of text = if nat_lt 1_048_576 (length text) then too_long (codes "length") else document_of text >>= settings_of
