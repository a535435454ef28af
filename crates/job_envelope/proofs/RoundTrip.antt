-- What is written reads as what it was written for.
use Rattle.std.proofs.Common.{◌≡◌, ◌≤◌, ◌*◌, ◌/◌, ℕ, ℤ, pos, negsuc, min, List, [], length, true, false, Option, None, Some, Ok, FitsSigned, w32, refl, arith}
use Rattle.std.proofs.lemmas.Bool.Decides.{nat_tests}
use Rattle.std.specs.Option.{ForSome}
use Rattle.std.specs.Str.{is_utf8}
use Rattle.serde_json.specs.Data.{Data, Items, array, number, string}
use Rattle.serde_json.specs.Find.{of_integer}
use Rattle.serde_json.specs.Read.{read}
use Rattle.serde_json.specs.Written.{items_have_float}
use Rattle.job_states.specs.Length.{IsName}
use Rattle.job_states.specs.declared.command.NewJob.{NewJob}
use Rattle.job_states.specs.Moment.{IsMoment, last_moment}
use Rattle.job_envelope.specs.declared.member.Member.{Member}
use Rattle.job_envelope.specs.declared.member.Member.TheVariants.{JobClass, JobId, QueueName, Priority, Executions, ScheduledAt}
use Rattle.job_envelope.specs.Arguments.{first_args}
use Rattle.job_envelope.specs.Envelope.{name_at, queue_at, priority_at, arguments_at, executions_at, counts_at, moment_at, names_of, job_of, envelope_of}
use Rattle.job_envelope.specs.Kind.{name_from, priority_in, count_from, counts_of, moment_in, moment_from}
use Rattle.job_envelope.specs.Written.{IsMomentText, IsScheduledAt, HasRanges, CanReadBack, envelope_data}

name_from-IsName : (m : Member) (text : List ℕ) → IsName text → name_from m text ≡ Ok text
name_from-IsName m text name = grind (arith, nat_tests, name.0, name.1)

priority_in-of_integer : (m : Member) (z : ℤ) → FitsSigned w32 z → priority_in m (number (of_integer z)) ≡ Ok z
priority_in-of_integer m (pos n) fits = grind (arith, nat_tests)
priority_in-of_integer m (negsuc n) fits = grind (arith, nat_tests)

count_from-most : (m : Member) (n : ℕ) → n ≤ 65_535 → count_from m (Some n) ≡ Ok n
count_from-most m n most = grind (arith, nat_tests)

moment_from-thousand : (moment : ℕ) → IsMoment moment → moment_from (pos (moment * 1000)) ≡ Some moment
moment_from-thousand moment last =
    let cut : moment * 1000 / 1000 ≡ moment = omega arith in
    rw cut (grind (arith, nat_tests))

moment_in-written : (m : Member) (moment : ℕ) (text : List ℕ) → IsMoment moment → IsMomentText moment text → moment_in m (string text) ≡ Ok moment
moment_in-written m moment text last is =
    let same : min moment last_moment ≡ moment = omega arith in
    rw (is.reads, same, moment_from-thousand moment last) refl

-- each member of an envelope that was written
class_read : (job : NewJob) (args at : Data) → IsName job.class → name_at JobClass (envelope_data job args at) ≡ Ok job.class
unfolding name_at
class_read job args at name = name_from-IsName JobClass job.class name

active_id_read : (job : NewJob) (args at : Data) → IsName job.active_id → name_at JobId (envelope_data job args at) ≡ Ok job.active_id
unfolding name_at
active_id_read job args at name = name_from-IsName JobId job.active_id name

queue_read : (job : NewJob) (args at : Data) → IsName job.queue → queue_at (envelope_data job args at) ≡ Ok job.queue
unfolding queue_at
queue_read job args at name = name_from-IsName QueueName job.queue name

priority_read : (job : NewJob) (args at : Data) → FitsSigned w32 job.priority → priority_at (envelope_data job args at) ≡ Ok job.priority
unfolding priority_at
priority_read job args at fits = priority_in-of_integer Priority job.priority fits

arguments_read : (job : NewJob) (items : Items) (at : Data) → arguments_at (envelope_data job (array items) at) ≡ Ok items
unfolding arguments_at
arguments_read job items at = refl

executions_read : (job : NewJob) (args at : Data) → job.executions ≤ 65_535 → executions_at (envelope_data job args at) ≡ Ok job.executions
unfolding executions_at
executions_read job args at most = count_from-most Executions job.executions most

counts_read : (job : NewJob) (args at : Data) → job.counts ≡ [] → counts_at (envelope_data job args at) ≡ Ok job.counts
unfolding counts_at counts_of
counts_read job args at none = rw none refl

moment_data_read : (moment : Option ℕ) (job : NewJob) (args at : Data) → ForSome moment IsMoment → IsScheduledAt moment at → moment_at (envelope_data job args at) ≡ Ok moment
unfolding moment_at
moment_data_read None job args at last is = rw is refl
moment_data_read (Some moment) job args at last is = rw (is.2, moment_in-written ScheduledAt moment is.0 (last moment refl) is.1) refl

-- an envelope whose members read so
joined : (text : List ℕ) (d : Data) (job : NewJob) (items : Items) → name_at JobClass d ≡ Ok job.class → name_at JobId d ≡ Ok job.active_id → queue_at d ≡ Ok job.queue
    → priority_at d ≡ Ok job.priority → arguments_at d ≡ Ok items → executions_at d ≡ Ok job.executions → counts_at d ≡ Ok job.counts → moment_at d ≡ Ok job.at
    → items_have_float items ≡ false → job_of text d ≡ Ok (record job { envelope = text; args = first_args items })
unfolding job_of names_of
joined text d job items class active_id queue priority arguments executions counts at whole = rw (class, active_id, queue, priority, arguments, executions, counts, at, whole) refl

pub job_of-envelope_data : (job : NewJob) (items : Items) (at : Data) (text : List ℕ) → HasRanges job → CanReadBack job items text → IsScheduledAt job.at at
    → job_of text (envelope_data job (array items) at) ≡ Ok (record job { envelope = text; args = first_args items })
job_of-envelope_data job items at text ranges can moment =
    joined text (envelope_data job (array items) at) job items (class_read job (array items) at ranges.class) (active_id_read job (array items) at ranges.active_id)
    (queue_read job (array items) at ranges.queue) (priority_read job (array items) at ranges.priority) (arguments_read job items at)
    (executions_read job (array items) at can.executions) (counts_read job (array items) at can.no_counts) (moment_data_read job.at job (array items) at can.moment moment) can.no_float

pub envelope_of-read : (text : List ℕ) (job : NewJob) (args at : Data) → length text ≤ 8192 → is_utf8 text ≡ true → read text ≡ Some (envelope_data job args at)
    → envelope_of text ≡ job_of text (envelope_data job args at)
unfolding envelope_of
envelope_of-read text job args at short utf8 is = rw (utf8, is) (grind (arith, nat_tests))
