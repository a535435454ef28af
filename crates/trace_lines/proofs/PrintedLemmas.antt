-- What is printed for refusals and polls.
use Rattle.std.proofs.Common.{◌≡◌, ℕ, false, List, [], ◌∷◌, map, refl, ap, sym, IfSome}
use Rattle.serde_json.specs.Data.{Data}
use Rattle.serde_json.specs.View.{items_of}
use Rattle.serde_json.specs.Written.{has_float, items_have_float}
use Rattle.job_states.specs.declared.answer.Polled.{Polled as PolledJob}
use Rattle.job_states.specs.declared.answer.Refused.{Refused}
use Rattle.job_states.specs.declared.answer.Refused.TheVariants.{UnknownClass, KeyRefused, Full, ClaimLimit, NoSuchJob, WrongState, NotClaimant, NoSuchProcess, NoSuchTask, AlreadyRun, SemaphoreClosed, NumbersSpent, Locked, NoMemory}
use Rattle.job_states.specs.declared.row.Row.{Row}
use Rattle.http_wire.specs.Reply.{body_bytes}
use Rattle.http_wire.specs.declared.reply.Reply.{Reply}
use Rattle.queue_replies.specs.Json.{whole}
use Rattle.queue_replies.specs.Refusals.{refused_reply}
use Rattle.trace_lines.specs.Printed.{claimed_ids, refused_text}

in_ids : (jobs : List PolledJob) → items_have_float (items_of (map (λ job. whole job.id) jobs)) ≡ false
in_ids [] = refl
in_ids (job ∷ jobs) = in_ids jobs

pub claimed_ids-whole : (d : Data) (jobs : List PolledJob) → d ≡ claimed_ids jobs → has_float d ≡ false
claimed_ids-whole d jobs is = rw (is, in_ids jobs) refl

same_body : (reply known : Reply) → reply ≡ known → body_bytes known.body ≡ body_bytes reply.body
same_body reply known is = sym (ap (λ (r : Reply). body_bytes r.body) is)

pub refused_text-replied : (refused : Refused) (reply : Reply) → ((row : Row) (by : ℕ) → refused ≡ Locked row by → ⊥) → IfSome (refused_reply refused) (λ known. reply ≡ known) → refused_text refused ≡ body_bytes reply.body
refused_text-replied (UnknownClass index class) reply free is = same_body reply _ is
refused_text-replied (KeyRefused index) reply free is = same_body reply _ is
refused_text-replied (Full kept) reply free is = same_body reply _ is
refused_text-replied (ClaimLimit pid held) reply free is = same_body reply _ is
refused_text-replied (NoSuchJob id next) reply free is = same_body reply _ is
refused_text-replied (WrongState id state) reply free is = same_body reply _ is
refused_text-replied (NotClaimant id by) reply free is = same_body reply _ is
refused_text-replied (NoSuchProcess pid next) reply free is = same_body reply _ is
refused_text-replied (NoSuchTask key) reply free is = same_body reply _ is
refused_text-replied (AlreadyRun last) reply free is = same_body reply _ is
refused_text-replied (SemaphoreClosed key) reply free is = same_body reply _ is
refused_text-replied (NumbersSpent next) reply free is = same_body reply _ is
refused_text-replied (Locked row by) reply free is = absurd (free row by refl)
refused_text-replied NoMemory reply free is = same_body reply _ is
