-- The lines that are printed, without their line feeds.
use Rattle.std.specs.Prelude.{ℕ, List, [], ◌∷◌, ◌++◌, map, decimal, codes, Option, Some, None}
use Rattle.serde_json.specs.Data.{Data, string, array}
use Rattle.serde_json.specs.View.{items_of}
use Rattle.serde_json.specs.Written.{compact_text}
use Rattle.job_states.specs.declared.answer.Answer.{Answer}
use Rattle.job_states.specs.declared.answer.Answer.TheVariants.{Polled}
use Rattle.job_states.specs.declared.answer.Polled.{Polled as PolledJob}
use Rattle.job_states.specs.declared.answer.Refused.{Refused}
use Rattle.job_states.specs.declared.answer.Refused.TheVariants.{Locked}
use Rattle.job_states.specs.declared.row.Row.{Row}
use Rattle.job_states.specs.declared.row.Row.TheVariants as row
use Rattle.http_wire.specs.Reply.{body_bytes}
use Rattle.http_wire.specs.declared.reply.Reply.{Reply}
use Rattle.queue_replies.specs.Answers.{reply_of}
use Rattle.queue_replies.specs.Faults.{error_at, not_built}
use Rattle.queue_replies.specs.Json.{json, whole}
use Rattle.queue_replies.specs.Refusals.{refused_reply}
use Rattle.trace_lines.specs.declared.printed.Printed.{Printed}
use Rattle.trace_lines.specs.declared.printed.Printed.TheVariants as printed

-- ---- what a printed line is

abbrev pub printed_text : Printed → List ℕ
printed_text printed.Open = codes "open"
printed_text printed.RolledBack = codes "rolled back"
printed_text printed.Reopened = codes "reopened"
printed_text printed.SeatOpen = codes "{\"error\":\"seat_open\"}"
printed_text printed.SeatEmpty = codes "{\"error\":\"seat_empty\"}"
printed_text printed.DiskFault = codes "{\"error\":\"disk_fault\"}"
printed_text printed.NoMemory = codes "{\"error\":\"no_memory\"}"
printed_text (printed.Json bytes) = bytes

-- ---- answers

-- the numbers of the jobs that a poll claimed
abbrev pub claimed_ids : List PolledJob → Data
claimed_ids jobs = json ((codes "ids", array (items_of (map (λ job. whole job.id) jobs))) ∷ [])

-- the body of the reply to an answer, but for a poll
abbrev pub answer_text : Answer → List ℕ
answer_text (Polled jobs) = compact_text (claimed_ids jobs)
answer_text answer = body_bytes (reply_of answer).body

-- ---- refusals

abbrev pub row_text : Row → List ℕ
row_text (row.Job id) = codes "job " ++ decimal id
row_text (row.Key key) = codes "key " ++ key
row_text (row.Process pid) = codes "process " ++ decimal pid
row_text (row.Queue queue) = codes "queue " ++ queue
row_text (row.Task task) = codes "task " ++ task

-- the row, and the seat that holds it
abbrev pub locked_error : Row → ℕ → Data
locked_error held by = json ((codes "by", whole by) ∷ (codes "error", string (codes "locked")) ∷ (codes "row", string (row_text held)) ∷ [])

abbrev pub body_text : Option Reply → List ℕ
body_text None = []
body_text (Some reply) = body_bytes reply.body

-- A refusal that has a reply prints its body. One for a locked row has none.
abbrev pub refused_text : Refused → List ℕ
refused_text (Locked held by) = compact_text (locked_error held by)
refused_text refused = body_text (refused_reply refused)

-- ---- bad lines

-- with the place of the line's first byte
abbrev pub bad_line_text : ℕ → List ℕ
bad_line_text at = compact_text (error_at at (codes "bad_line"))

-- ---- commands that aren't built yet

abbrev pub not_built_text : List ℕ
not_built_text = body_bytes not_built.body
