-- What is read of a request's body, or its first fault.
use Rattle.std.specs.Prelude.{ℕ, suc, ◌≤◌, List, [], ◌∷◌, length, codes, is_some, Option, Some, None, option_and_then, ok_or, Result, Ok, Err, if◌then◌else◌}
use Rattle.std.specs.Str.{bytes_eq, is_utf8}
use Rattle.serde_json.specs.Data.{Data, Items, no_items, item}
use Rattle.serde_json.specs.Events.{items_len}
use Rattle.serde_json.specs.Find.{get, as_str, as_number, as_u64, as_array, as_object}
use Rattle.serde_json.specs.Read.{read}
use Rattle.job_states.specs.Judged.{◌>>=◌}
use Rattle.job_states.specs.Length.{is_name, is_within}
use Rattle.job_states.specs.declared.command.Kind.{Kind}
use Rattle.job_states.specs.declared.command.Kind.TheVariants.{Worker, Dispatcher, Scheduler, Supervisor}
use Rattle.job_states.specs.declared.command.NewJob.{NewJob}
use Rattle.job_envelope.specs.Envelope.{envelope_of, value_envelope}
use Rattle.job_envelope.specs.declared.fault.EnvelopeFault.{EnvelopeFault}
use Rattle.queue_routes.specs.declared.fault.BodyFault.TheVariants.{NotJson, Missing, WrongKind, Envelope}
use Rattle.queue_routes.specs.declared.fault.BodyMember.{BodyMember}
use Rattle.queue_routes.specs.declared.fault.BodyMember.TheVariants as member
use Rattle.queue_routes.specs.declared.fault.NoCommand.{NoCommand}
use Rattle.queue_routes.specs.declared.fault.NoCommand.TheVariants.{Body}

-- a value, or why there is no command
abbrev pub Judged : Type 0 → Type 0
Judged X = Result X NoCommand

-- ---- JSON

abbrev pub json_of : List ℕ → Judged Data
json_of bytes = if is_utf8 bytes then ok_or (read bytes) (Body NotJson) else Err (Body NotJson)

abbrev pub object_from : Data → Judged Data
object_from d = if is_some (as_object d) then Ok d else Err (Body NotJson)

-- the object of a body whose members are read
abbrev pub object_of : List ℕ → Judged Data
object_of bytes = json_of bytes >>= object_from

-- ---- members

abbrev pub member_name : BodyMember → List ℕ
member_name member.Kind = codes "kind"
member_name member.Name = codes "name"
member_name member.Limit = codes "limit"
member_name member.Queues = codes "queues"
member_name member.Error = codes "error"
member_name member.Message = codes "message"
member_name member.Jobs = codes "jobs"

abbrev pub needed : BodyMember → Data → Judged Data
needed m body = ok_or (get (member_name m) body) (Body (Missing m))

-- ---- the kinds of values

abbrev pub text_in : BodyMember → Data → Judged (List ℕ)
text_in m d = ok_or (as_str d) (Body (WrongKind m))

-- a text of 1 to 128 bytes
abbrev pub name_from : BodyMember → List ℕ → Judged (List ℕ)
name_from m text = if is_name text then Ok text else Err (Body (WrongKind m))

abbrev pub name_in : BodyMember → Data → Judged (List ℕ)
name_in m d = text_in m d >>= name_from m

abbrev pub kind_named : List ℕ → Option Kind
kind_named text =
    if bytes_eq text (codes "worker") then Some Worker
    else (if bytes_eq text (codes "dispatcher") then Some Dispatcher
    else (if bytes_eq text (codes "scheduler") then Some Scheduler
    else (if bytes_eq text (codes "supervisor") then Some Supervisor else None)))

abbrev pub kind_in : BodyMember → Data → Judged Kind
kind_in m d = text_in m d >>= λ text. ok_or (kind_named text) (Body (WrongKind m))

-- a whole number from 1 to 100
abbrev pub limit_from : BodyMember → Option ℕ → Judged ℕ
limit_from m None = Err (Body (WrongKind m))
limit_from m (Some n) = if is_within 1 100 n then Ok n else Err (Body (WrongKind m))

abbrev pub limit_in : BodyMember → Data → Judged ℕ
limit_in m d = limit_from m (option_and_then as_u64 (as_number d))

-- an array of 1 to so many items
abbrev pub items_from : BodyMember → ℕ → Option Items → Judged Items
items_from m most None = Err (Body (WrongKind m))
items_from m most (Some ds) = if is_within 1 most (items_len ds) then Ok ds else Err (Body (WrongKind m))

abbrev pub items_in : BodyMember → ℕ → Data → Judged Items
items_in m most d = items_from m most (as_array d)

-- what is read of each item, the first of which has this place
unfoldable pub each_from : {X : Type 0} → (ℕ → Data → Judged X) → ℕ → Items → Judged (List X)
each_from judge place no_items = Ok []
each_from judge place (item d ds) = judge place d >>= λ first. each_from judge (suc place) ds >>= λ others. Ok (first ∷ others)

-- ---- the members of bodies

unfoldable pub kind_at : Data → Judged Kind
kind_at body = needed member.Kind body >>= kind_in member.Kind

unfoldable pub name_at : BodyMember → Data → Judged (List ℕ)
name_at m body = needed m body >>= name_in m

unfoldable pub message_at : Data → Judged (List ℕ)
message_at body = needed member.Message body >>= text_in member.Message

unfoldable pub limit_at : Data → Judged ℕ
limit_at body = needed member.Limit body >>= limit_in member.Limit

-- an item of a queue list
abbrev pub queue_in : ℕ → Data → Judged (List ℕ)
queue_in place d = name_in member.Queues d

-- 1 to 64 items
unfoldable pub queues_at : Data → Judged (List (List ℕ))
queues_at body = needed member.Queues body >>= items_in member.Queues 64 >>= each_from queue_in 0

-- ---- jobs

-- the job of the envelope at this place of the request
abbrev pub job_at : ℕ → Result NewJob EnvelopeFault → Judged NewJob
job_at place (Ok job) = Ok job
job_at place (Err fault) = Err (Body (Envelope place fault))

-- the job of a body that is one envelope
abbrev pub job_of : List ℕ → Judged NewJob
job_of bytes = job_at 0 (envelope_of bytes)

-- the job of an item, whose envelope is its compact text
abbrev pub job_in : ℕ → Data → Judged NewJob
job_in place d = job_at place (value_envelope d)

-- the jobs of a body that is an array of 1 to 100 envelopes
unfoldable pub jobs_of : List ℕ → Judged (List NewJob)
jobs_of bytes = json_of bytes >>= items_in member.Jobs 100 >>= each_from job_in 0

-- ---- lengths

-- at least one item, and at most so many
abbrev pub IsFew : {X : Type 0} → ℕ → List X → Type 0
IsFew most xs = (1 ≤ length xs) × (length xs ≤ most)
