-- The job that an enqueue asks for, and its envelope.
use Rattle.std.specs.Prelude.{◌≡◌, ℕ, ℤ, List, [], ◌∷◌, length, nat_le, codes, Option, Some, None, Ok, Err, if◌then◌else◌}
use Rattle.serde_json.specs.Data.{null, string, array, Items, no_items, item}
use Rattle.serde_json.specs.Written.{compact_text}
use Rattle.job_states.specs.Judged.{◌>>=◌}
use Rattle.job_states.specs.declared.command.Arg.{Arg}
use Rattle.job_states.specs.declared.command.Arg.TheVariants.{Text}
use Rattle.job_states.specs.declared.command.NewJob.{NewJob}
use Rattle.job_envelope.specs.Written.{envelope_data}
use Rattle.trace_lines.specs.declared.line.LineFault.TheVariants.{NotALine}
use Rattle.trace_lines.specs.Words.{Judged, name_of, priority_of, argument_of, due_of}

-- a job with no argument, no moment and no envelope
abbrev pub plain_job : List ℕ → List ℕ → ℤ → NewJob
plain_job class queue priority = record { class = class; queue = queue; priority = priority; active_id = codes "trace"; envelope = []; executions = 0; counts = []; at = None; args = [] }

abbrev pub IsPlain : NewJob → Type 0
IsPlain job = job ≡ plain_job job.class job.queue job.priority

-- at most one argument, which is a text
abbrev pub argument_items : Option (List ℕ) → Items
argument_items None = no_items
argument_items (Some text) = item (string text) no_items

abbrev pub argument_list : Option (List ℕ) → List Arg
argument_list None = []
argument_list (Some text) = Text text ∷ []

-- The envelope of a job with this argument. It says nothing of the moment at which the job is due.
abbrev pub envelope_for : NewJob → Option (List ℕ) → List ℕ
envelope_for job argument = compact_text (envelope_data job (array (argument_items argument)) null)

abbrev pub with_envelope : NewJob → Option (List ℕ) → Option ℕ → List ℕ → NewJob
with_envelope job argument at envelope = record job { envelope = envelope; at = at; args = argument_list argument }

-- a job whose envelope has at most 8192 bytes
abbrev pub whole_job : NewJob → Option (List ℕ) → Option ℕ → Judged NewJob
whole_job job argument at = if nat_le (length (envelope_for job argument)) 8192 then Ok (with_envelope job argument at (envelope_for job argument)) else Err NotALine

-- the words after `enqueue`
unfoldable pub job_of : (class queue priority argument at : List ℕ) → Judged NewJob
job_of class queue priority argument at = do
  class ← name_of class
  queue ← name_of queue
  priority ← priority_of priority
  argument ← argument_of argument
  at ← due_of at
  whole_job (plain_job class queue priority) argument at
