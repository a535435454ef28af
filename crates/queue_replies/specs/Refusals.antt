-- The reply to each refusal of a command.
use Rattle.std.specs.Prelude.{◌≡◌, ℕ, List, [], ◌∷◌, codes, Option, None, Some, Result, IsSome, IfSome, IfOk}
use Rattle.serde_json.specs.Data.{string}
use Rattle.serde_json.specs.View.{view}
use Rattle.serde_json.specs.declared.value.Value.{Value}
use Rattle.job_states.specs.declared.answer.Refused.{Refused}
use Rattle.job_states.specs.declared.answer.Refused.TheVariants.{UnknownClass, KeyRefused, Full, ClaimLimit, NoSuchJob, WrongState, NotClaimant, NoSuchProcess, NoSuchTask, AlreadyRun, SemaphoreClosed, NumbersSpent, Locked, NoMemory}
use Rattle.job_states.specs.declared.job.Stage.{Stage}
use Rattle.job_states.specs.declared.job.Stage.TheVariants as stage
use Rattle.job_states.specs.declared.no_memory.NoMemory.{NoMemory as OutOfMemory}
use Rattle.http_wire.specs.declared.reply.Reply.{Reply}
use Rattle.queue_replies.specs.Faults.{no_memory}
use Rattle.queue_replies.specs.Json.{json, whole, json_reply}

abbrev pub stage_name : Stage → List ℕ
stage_name stage.Scheduled = codes "scheduled"
stage_name stage.Ready = codes "ready"
stage_name stage.Blocked = codes "blocked"
stage_name stage.Claimed = codes "claimed"
stage_name stage.Failed = codes "failed"
stage_name stage.Finished = codes "finished"

-- the settings don't have the class of the job at this place of the request
abbrev pub unknown_class : ℕ → List ℕ → Reply
unknown_class index class = json_reply 422 (json ((codes "class", string class) ∷ (codes "error", string (codes "unknown_class")) ∷ (codes "index", whole index) ∷ []))

-- a row that another seat holds is waited for, and gets no reply
abbrev pub refused_reply : Refused → Option Reply
refused_reply (UnknownClass index class) = Some (unknown_class index class)
refused_reply (KeyRefused index) = Some (json_reply 422 (json ((codes "error", string (codes "key_refused")) ∷ (codes "index", whole index) ∷ [])))
refused_reply (Full kept) = Some (json_reply 507 (json ((codes "error", string (codes "full")) ∷ (codes "kept", whole kept) ∷ [])))
refused_reply (ClaimLimit pid held) = Some (json_reply 409 (json ((codes "error", string (codes "claim_limit")) ∷ (codes "held", whole held) ∷ (codes "pid", whole pid) ∷ [])))
refused_reply (NoSuchJob id next) = Some (json_reply 404 (json ((codes "error", string (codes "no_such_job")) ∷ (codes "id", whole id) ∷ (codes "next", whole next) ∷ [])))
refused_reply (WrongState id state) = Some (json_reply 409 (json ((codes "error", string (codes "wrong_state")) ∷ (codes "id", whole id) ∷ (codes "state", string (stage_name state)) ∷ [])))
refused_reply (NotClaimant id by) = Some (json_reply 409 (json ((codes "by", whole by) ∷ (codes "error", string (codes "not_claimant")) ∷ (codes "id", whole id) ∷ [])))
refused_reply (NoSuchProcess pid next) = Some (json_reply 404 (json ((codes "error", string (codes "no_such_process")) ∷ (codes "next", whole next) ∷ (codes "pid", whole pid) ∷ [])))
refused_reply (NoSuchTask key) = Some (json_reply 404 (json ((codes "error", string (codes "no_such_task")) ∷ (codes "key", string key) ∷ [])))
refused_reply (AlreadyRun last) = Some (json_reply 409 (json ((codes "error", string (codes "already_run")) ∷ (codes "last", whole last) ∷ [])))
refused_reply (SemaphoreClosed key) = Some (json_reply 409 (json ((codes "error", string (codes "semaphore_closed")) ∷ (codes "key", string key) ∷ [])))
refused_reply (NumbersSpent next) = Some (json_reply 507 (json ((codes "error", string (codes "numbers_spent")) ∷ (codes "next", whole next) ∷ [])))
refused_reply (Locked row by) = None
refused_reply NoMemory = Some no_memory

abbrev pub HasReply : Refused → Type 0
HasReply refused = IsSome (refused_reply refused)

-- what is made of a refusal is its reply, unless there is no memory
abbrev pub RepliesTo : Refused → Result Reply OutOfMemory → Type 0
RepliesTo refused result = IfSome (refused_reply refused) (λ known. IfOk result (λ reply. reply ≡ known))

-- what is made of a refusal is the body of its reply, unless there is no memory
abbrev pub HasBody : {E : Type 0} → Refused → Result Value E → Type 0
HasBody refused result = IfSome (refused_reply refused) (λ known. IfOk result (λ body. known ≡ json_reply known.status (view body)))
