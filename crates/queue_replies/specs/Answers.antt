-- The reply to each answer.
use Rattle.std.specs.Prelude.{ℕ, List, [], ◌∷◌, map, codes, Option, None, Some}
use Rattle.serde_json.specs.Data.{Data, boolean, number, string, array}
use Rattle.serde_json.specs.Find.{of_integer}
use Rattle.serde_json.specs.View.{items_of}
use Rattle.job_states.specs.declared.answer.Answer.{Answer}
use Rattle.job_states.specs.declared.answer.Answer.TheVariants.{Enqueued, Bulk, Polled, Done, Raised, Released, Retried, Discarded, Count, Paused, Registered, Beaten, Deregistered, Pruned, Ticked, NotDue}
use Rattle.job_states.specs.declared.answer.Made.{Made}
use Rattle.job_states.specs.declared.answer.Outcome.{Outcome}
use Rattle.job_states.specs.declared.answer.Outcome.TheVariants as outcome
use Rattle.job_states.specs.declared.answer.Polled.{Polled as PolledJob}
use Rattle.http_wire.specs.declared.reply.Reply.{Reply}
use Rattle.queue_replies.specs.Json.{json, whole, whole_or_null, json_reply}

abbrev pub outcome_name : Outcome → List ℕ
outcome_name outcome.Ready = codes "ready"
outcome_name outcome.Scheduled = codes "scheduled"
outcome_name outcome.Blocked = codes "blocked"
outcome_name outcome.Discarded = codes "discarded"
outcome_name outcome.Failed = codes "failed"
outcome_name outcome.Finished = codes "finished"

-- ---- the bodies

-- where a job stands now; a discarded one that was asked for has no number
abbrev pub job_state : Option ℕ → Outcome → Data
job_state id state = json ((codes "id", whole_or_null id) ∷ (codes "state", string (outcome_name state)) ∷ [])

-- a job that is done or gone, and the job that its permit went to
abbrev pub ended_job : ℕ → Outcome → Option ℕ → Data
ended_job id state unblocked = json ((codes "id", whole id) ∷ (codes "state", string (outcome_name state)) ∷ (codes "unblocked", whole_or_null unblocked) ∷ [])

abbrev pub made_job : Made → Data
made_job made = job_state made.id made.state

-- a claimed job as its worker gets it
abbrev pub polled_job : PolledJob → Data
polled_job job = json
    ((codes "active_job_id", string job.active_id)
    ∷ (codes "class", string job.class)
    ∷ (codes "envelope", string job.envelope)
    ∷ (codes "executions", whole job.executions)
    ∷ (codes "id", whole job.id)
    ∷ (codes "priority", number (of_integer job.priority))
    ∷ (codes "queue", string job.queue)
    ∷ [])

abbrev pub several : List Data → Data
several jobs = json ((codes "jobs", array (items_of jobs)) ∷ [])

abbrev pub answer_body : Answer → Data
answer_body (Enqueued made) = made_job made
answer_body (Bulk jobs) = several (map made_job jobs)
answer_body (Polled jobs) = several (map polled_job jobs)
answer_body (Done id unblocked) = ended_job id outcome.Finished unblocked
answer_body (Raised id next state unblocked) = json
    ((codes "id", whole id) ∷ (codes "next", whole_or_null next) ∷ (codes "state", string (outcome_name state)) ∷ (codes "unblocked", whole_or_null unblocked) ∷ [])
answer_body (Released id) = job_state (Some id) outcome.Ready
answer_body (Retried id state) = job_state (Some id) state
answer_body (Discarded id unblocked) = ended_job id outcome.Discarded unblocked
answer_body (Count count) = json ((codes "count", whole count) ∷ [])
answer_body (Paused paused queue) = json ((codes "paused", boolean paused) ∷ (codes "queue", string queue) ∷ [])
answer_body (Registered pid) = json ((codes "pid", whole pid) ∷ [])
answer_body (Beaten pid) = json ((codes "pid", whole pid) ∷ [])
answer_body (Deregistered pid released) = json ((codes "pid", whole pid) ∷ (codes "released", whole released) ∷ [])
answer_body (Pruned failed pid) = json ((codes "failed", whole failed) ∷ (codes "pid", whole_or_null pid) ∷ [])
answer_body (Ticked id run_at state) = json ((codes "id", whole_or_null id) ∷ (codes "run_at", whole run_at) ∷ (codes "state", string (outcome_name state)) ∷ [])
answer_body NotDue = json ((codes "state", string (codes "not_due")) ∷ [])

-- ---- the statuses

-- Created where there is a new job, else OK
abbrev pub created_with : Option ℕ → ℕ
created_with None = 200
created_with (Some id) = 201

abbrev pub answer_status : Answer → ℕ
answer_status (Enqueued made) = created_with made.id
answer_status (Bulk jobs) = 201
answer_status (Registered pid) = 201
answer_status (Ticked id run_at state) = created_with id
answer_status answer = 200

-- ---- the replies

abbrev pub reply_of : Answer → Reply
reply_of answer = json_reply (answer_status answer) (answer_body answer)

-- to an enqueue that made a job
abbrev pub created : ℕ → Outcome → Reply
created id state = reply_of (Enqueued (record { id = Some id; state = state }))
