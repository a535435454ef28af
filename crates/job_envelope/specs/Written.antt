-- The envelope that is written for a job.
use Rattle.std.specs.Prelude.{◌≡◌, ◌≤◌, ℕ, ◌*◌, pos, min, List, [], ◌∷◌, ◌++◌, codes, length, false, Option, None, Some, FitsSigned, Ok}
use Rattle.std.specs.Int.{w32}
use Rattle.std.specs.Option.{ForSome}
use Rattle.serde_json.specs.Data.{Data, null, unsigned, number, string, array, object, Items, Members, no_members, member, put, depth}
use Rattle.serde_json.specs.Find.{of_integer}
use Rattle.serde_json.specs.Written.{items_have_float}
use Rattle.jiff_core.specs.declared.civil.datetime.DateTime.{DateTime}
use Rattle.jiff_core.specs.DateTime.{civil_nanos}
use Rattle.jiff_fmt.specs.Temporal.{parse_timestamp}
use Rattle.jiff_fmt.specs.Text.{datetime_text, zulu_text}
use Rattle.job_states.specs.Length.{IsName}
use Rattle.job_states.specs.Moment.{IsMoment, last_moment}
use Rattle.job_states.specs.declared.job.Counted.{Counted}
use Rattle.job_states.specs.declared.command.NewJob.{NewJob}
use Rattle.job_envelope.specs.Arguments.{first_args}
use Rattle.job_envelope.specs.Envelope.{envelope_of}

-- `2026-03-06T00:00:00.000001Z`: what a clock in UTC shows, with no more digits of a fraction than it takes
abbrev pub utc_text : DateTime → List ℕ
utc_text utc = datetime_text false 84 None utc ++ zulu_text false

-- The text of a moment, which is read as the same instant. The last moment stands for any number past it.
pub record IsMomentText (moment : ℕ) (text : List ℕ) : Type 0 where
  pub utc : DateTime
  pub instant : civil_nanos utc ≡ pos (min moment last_moment * 1000)
  pub printed : text ≡ utc_text utc
  pub reads : parse_timestamp text ≡ Ok (pos (min moment last_moment * 1000))

-- what stands at scheduled_at: null, or the text of the moment
abbrev pub IsScheduledAt : Option ℕ → Data → Type 0
IsScheduledAt None d = d ≡ null
IsScheduledAt (Some moment) d = (text : List ℕ) × IsMomentText moment text × (d ≡ string text)

-- the members with the counts put in, one after another
abbrev pub with_counts : List Counted → Members → Members
with_counts [] ms = ms
with_counts (c ∷ cs) ms = with_counts cs (put c.list (number (unsigned c.count)) ms)

-- all twelve members, in byte order of their names
abbrev pub envelope_data : NewJob → (args at : Data) → Data
envelope_data job args at = object
    (member (codes "arguments") args
    (member (codes "enqueued_at") null
    (member (codes "exception_executions") (object (with_counts job.counts no_members))
    (member (codes "executions") (number (unsigned job.executions))
    (member (codes "job_class") (string job.class)
    (member (codes "job_id") (string job.active_id)
    (member (codes "locale") null
    (member (codes "priority") (number (of_integer job.priority))
    (member (codes "provider_job_id") null
    (member (codes "queue_name") (string job.queue)
    (member (codes "scheduled_at") at
    (member (codes "timezone") null
    no_members))))))))))))

-- the envelope of a job with these arguments
pub record IsEnvelopeOf (job : NewJob) (args d : Data) : Type 0 where
  pub at : Data
  pub moment : IsScheduledAt job.at at
  pub members : d ≡ envelope_data job args at

-- what a job's types say of it
pub record HasRanges (job : NewJob) : Type 0 where
  pub class : IsName job.class
  pub active_id : IsName job.active_id
  pub queue : IsName job.queue
  pub priority : FitsSigned w32 job.priority

-- what has to hold of a job, its arguments and its text, so that the text reads as the job again
pub record CanReadBack (job : NewJob) (items : Items) (text : List ℕ) : Type 0 where
  pub moment : ForSome job.at IsMoment
  pub no_counts : job.counts ≡ []
  pub executions : job.executions ≤ 65_535
  pub no_float : items_have_float items ≡ false
  pub nested : depth (array items) ≤ 126
  pub short : length text ≤ 8192

-- The text reads as the job again, with the first of the arguments that were written.
abbrev pub ReadsBack : NewJob → Data → List ℕ → Type 0
ReadsBack job args text = (items : Items) → args ≡ array items → CanReadBack job items text → envelope_of text ≡ Ok (record job { envelope = text; args = first_args items })
