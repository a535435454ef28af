-- The envelopes that are accepted, what each asks for, and the first fault of any other bytes.
use Rattle.std.specs.Prelude.{ℕ, ℤ, pos, List, [], length, nat_lt, codes, is_some, Option, Some, None, Ok, Err, if◌then◌else◌}
use Rattle.std.specs.Str.{is_utf8}
use Rattle.serde_json.specs.Data.{Data, Items, no_items}
use Rattle.serde_json.specs.Find.{as_object}
use Rattle.serde_json.specs.Read.{read}
use Rattle.serde_json.specs.Written.{has_float, items_have_float, compact_text}
use Rattle.job_states.specs.Judged.{◌>>=◌}
use Rattle.job_states.specs.declared.job.Counted.{Counted}
use Rattle.job_states.specs.declared.command.NewJob.{NewJob}
use Rattle.job_envelope.specs.declared.fault.EnvelopeFault.TheVariants.{TooLong, NotJson, FloatArgument}
use Rattle.job_envelope.specs.declared.member.Member.{Member}
use Rattle.job_envelope.specs.declared.member.Member.TheVariants.{JobClass, JobId, QueueName, Priority, Arguments, Executions, ExceptionExecutions, ScheduledAt}
use Rattle.job_envelope.specs.Kind.{Judged, optional, needed, unless_null, or_default, name_in, priority_in, count_in, items_in, counts_in, moment_in}
use Rattle.job_envelope.specs.Arguments.{first_args}

-- ---- the table of the members that are read

unfoldable pub name_at : Member → Data → Judged (List ℕ)
name_at m envelope = needed m envelope >>= name_in m

unfoldable pub queue_at : Data → Judged (List ℕ)
queue_at envelope = or_default (unless_null (optional QueueName envelope)) (codes "default") (name_in QueueName)

unfoldable pub priority_at : Data → Judged ℤ
priority_at envelope = or_default (unless_null (optional Priority envelope)) (pos 0) (priority_in Priority)

unfoldable pub arguments_at : Data → Judged Items
arguments_at envelope = or_default (optional Arguments envelope) no_items (items_in Arguments)

unfoldable pub executions_at : Data → Judged ℕ
executions_at envelope = or_default (optional Executions envelope) 0 (count_in Executions)

unfoldable pub counts_at : Data → Judged (List Counted)
counts_at envelope = or_default (optional ExceptionExecutions envelope) [] (counts_in ExceptionExecutions)

unfoldable pub moment_at : Data → Judged (Option ℕ)
moment_at envelope = or_default (unless_null (optional ScheduledAt envelope)) None (λ d. moment_in ScheduledAt d >>= λ moment. Ok (Some moment))

-- the class, the job's name at Active Job, and the queue
unfoldable pub names_of : Data → Judged (List ℕ × List ℕ × List ℕ)
names_of envelope = do
  class ← name_at JobClass envelope
  active_id ← name_at JobId envelope
  queue ← queue_at envelope
  Ok (class, active_id, queue)

-- The job that an object asks for, its members judged in turn. The bytes that came are its envelope.
unfoldable pub job_of : List ℕ → Data → Judged NewJob
job_of bytes envelope = do
  names ← names_of envelope
  priority ← priority_at envelope
  arguments ← arguments_at envelope
  executions ← executions_at envelope
  counts ← counts_at envelope
  at ← moment_at envelope
  if items_have_float arguments then Err FloatArgument else Ok (record { class = names.0; queue = names.2; priority = priority; active_id = names.1; envelope = bytes; executions = executions; counts = counts; at = at; args = first_args arguments })

-- ---- the whole

-- an object, or no envelope
abbrev pub object_from : Option Data → Judged Data
object_from None = Err NotJson
object_from (Some d) = if is_some (as_object d) then Ok d else Err NotJson

abbrev pub object_of : List ℕ → Judged Data
object_of bytes = if is_utf8 bytes then object_from (read bytes) else Err NotJson

unfoldable pub envelope_of : List ℕ → Judged NewJob
envelope_of bytes = if nat_lt 8192 (length bytes) then Err (TooLong (length bytes)) else object_of bytes >>= job_of bytes

-- A value is judged by its compact text, which a value with a float doesn't have.
unfoldable pub value_envelope : Data → Judged NewJob
value_envelope d = if has_float d then Err FloatArgument else envelope_of (compact_text d)
