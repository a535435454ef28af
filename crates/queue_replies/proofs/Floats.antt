-- No body of an answer holds a float.
use Rattle.std.proofs.Common.{◌≡◌, ℕ, ℤ, pos, negsuc, false, List, [], ◌∷◌, map, Option, None, Some, refl}
use Rattle.serde_json.specs.Find.{of_integer, is_float}
use Rattle.serde_json.specs.View.{items_of}
use Rattle.serde_json.specs.Written.{has_float, items_have_float}
use Rattle.job_states.specs.declared.answer.Answer.{Answer}
use Rattle.job_states.specs.declared.answer.Answer.TheVariants.{Enqueued, Bulk, Polled, Done, Raised, Released, Retried, Discarded, Count, Paused, Registered, Beaten, Deregistered, Pruned, Ticked, NotDue}
use Rattle.job_states.specs.declared.answer.Made.{Made}
use Rattle.job_states.specs.declared.answer.Polled.{Polled as PolledJob}
use Rattle.queue_replies.specs.Json.{whole_or_null}
use Rattle.queue_replies.specs.Answers.{made_job, polled_job, answer_body}

in_number : (n : ℤ) → is_float (of_integer n) ≡ false
in_number (pos n) = refl
in_number (negsuc n) = refl

in_option : (n : Option ℕ) → has_float (whole_or_null n) ≡ false
in_option None = refl
in_option (Some n) = refl

in_made : (made : Made) → has_float (made_job made) ≡ false
in_made made = rw (in_option made.id) refl

in_bulk : (jobs : List Made) → items_have_float (items_of (map made_job jobs)) ≡ false
in_bulk [] = refl
in_bulk (job ∷ jobs) = rw (in_made job) (in_bulk jobs)

in_polled_job : (job : PolledJob) → has_float (polled_job job) ≡ false
in_polled_job job = rw (in_number job.priority) refl

in_polled : (jobs : List PolledJob) → items_have_float (items_of (map polled_job jobs)) ≡ false
in_polled [] = refl
in_polled (job ∷ jobs) = rw (in_polled_job job) (in_polled jobs)

pub in_answer : (answer : Answer) → has_float (answer_body answer) ≡ false
in_answer (Enqueued made) = in_made made
in_answer (Bulk jobs) = rw (in_bulk jobs) refl
in_answer (Polled jobs) = rw (in_polled jobs) refl
in_answer (Done id unblocked) = rw (in_option unblocked) refl
in_answer (Raised id next state unblocked) = rw (in_option next, in_option unblocked) refl
in_answer (Released id) = refl
in_answer (Retried id state) = refl
in_answer (Discarded id unblocked) = rw (in_option unblocked) refl
in_answer (Count count) = refl
in_answer (Paused paused queue) = refl
in_answer (Registered pid) = refl
in_answer (Beaten pid) = refl
in_answer (Deregistered pid released) = refl
in_answer (Pruned failed pid) = rw (in_option pid) refl
in_answer (Ticked id run_at state) = rw (in_option id) refl
in_answer NotDue = refl
