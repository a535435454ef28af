-- The replies to faults: of envelopes, of other bodies, of streams, and of the service itself.
use Rattle.std.specs.Prelude.{ℕ, List, [], ◌∷◌, codes}
use Rattle.serde_json.specs.Data.{Data, string}
use Rattle.job_envelope.specs.declared.member.Member.{Member}
use Rattle.job_envelope.specs.Member.{member_name}
use Rattle.job_envelope.specs.declared.fault.EnvelopeFault.{EnvelopeFault}
use Rattle.job_envelope.specs.declared.fault.EnvelopeFault.TheVariants as envelope
use Rattle.http_wire.specs.declared.head.Refusal.{Refusal}
use Rattle.http_wire.specs.declared.head.Refusal.TheVariants.{Bad, TooLarge, Unsupported}
use Rattle.http_wire.specs.declared.reply.Reply.{Reply}
use Rattle.http_wire.specs.declared.reply.Body.TheVariants.{DiskFault, NoMemory}
use Rattle.http_wire.specs.declared.reply.BodyKind.TheVariants.{Json}
use Rattle.queue_replies.specs.Json.{json, whole, error, json_reply}

-- ---- the service itself

-- it doesn't know this request yet
abbrev pub not_built : Reply
not_built = json_reply 501 (error (codes "not_built"))

-- the disk failed
abbrev pub disk_fault : Reply
disk_fault = record { status = 503; kind = Json; body = DiskFault }

-- there was no memory
abbrev pub no_memory : Reply
no_memory = record { status = 500; kind = Json; body = NoMemory }

-- ---- a refused stream; `_at` is with the place of the refusal in it

abbrev pub error_at : ℕ → List ℕ → Data
error_at at name = json ((codes "at", whole at) ∷ (codes "error", string name) ∷ [])

abbrev pub length_error_at : ℕ → ℕ → Data
length_error_at at len = json ((codes "at", whole at) ∷ (codes "error", string (codes "too_large")) ∷ (codes "length", whole len) ∷ [])

-- to a stream that is refused at a place
abbrev pub fault_reply : ℕ → Refusal → Reply
fault_reply at Bad = json_reply 400 (error_at at (codes "bad_request"))
fault_reply at (TooLarge len) = json_reply 413 (length_error_at at len)
fault_reply at Unsupported = json_reply 501 (error_at at (codes "unsupported"))

-- ---- a refused envelope; index is its place in the request

abbrev pub job_error : ℕ → List ℕ → Data
job_error index name = json ((codes "error", string name) ∷ (codes "index", whole index) ∷ [])

abbrev pub job_member_error : ℕ → List ℕ → Member → Data
job_member_error index name m = json ((codes "error", string name) ∷ (codes "index", whole index) ∷ (codes "member", string (member_name m)) ∷ [])

abbrev pub length_error : ℕ → ℕ → Data
length_error index len = json ((codes "error", string (codes "too_long")) ∷ (codes "index", whole index) ∷ (codes "length", whole len) ∷ [])

-- to an envelope that isn't accepted; want of memory is the fault of none
abbrev pub envelope_fault : ℕ → EnvelopeFault → Reply
envelope_fault index (envelope.TooLong len) = json_reply 413 (length_error index len)
envelope_fault index envelope.NotJson = json_reply 400 (job_error index (codes "not_json"))
envelope_fault index (envelope.Missing m) = json_reply 400 (job_member_error index (codes "missing") m)
envelope_fault index (envelope.WrongKind m) = json_reply 400 (job_member_error index (codes "wrong_kind") m)
envelope_fault index (envelope.DateRefused m) = json_reply 400 (job_member_error index (codes "date_refused") m)
envelope_fault index envelope.FloatArgument = json_reply 422 (job_error index (codes "float_argument"))
envelope_fault index envelope.NoMemory = no_memory

-- ---- another refused body

abbrev pub member_error : List ℕ → List ℕ → Data
member_error name member = json ((codes "error", string name) ∷ (codes "member", string member) ∷ [])

-- it isn't JSON, or no object where its members are read
abbrev pub not_json : Reply
not_json = json_reply 400 (error (codes "not_json"))

-- a member that is needed isn't there
abbrev pub missing : List ℕ → Reply
missing member = json_reply 400 (member_error (codes "missing") member)

-- a member's value is of the wrong kind, or out of its range
abbrev pub wrong_kind : List ℕ → Reply
wrong_kind member = json_reply 400 (member_error (codes "wrong_kind") member)
