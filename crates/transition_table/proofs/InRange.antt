-- What holds of a transition that is within its ranges.
use Rattle.std.proofs.Common.{◌&&◌, not, ◌<◌, ◌-◌, ◌^◌, ℕ, Option, None, Some, IsTrue, arith}
use Rattle.std.proofs.lemmas.Bool.{and_parts}
use Rattle.std.specs.Option.{ForSome}
use Rattle.job_states.specs.Ranges.{is_away, is_in_range, is_limited, is_number, is_put, is_row, is_some_number}
use Rattle.job_states.specs.declared.job.JobRow.{JobRow}
use Rattle.job_states.specs.declared.job.Limited.{Limited}
use Rattle.job_states.specs.declared.transition.Put.{Put}
use Rattle.job_states.specs.declared.transition.Put.TheVariants.{Ready}
use Rattle.job_states.specs.declared.transition.Transition.{Transition}
use Rattle.job_states.specs.declared.transition.Transition.TheVariants.{Enqueue, Dispatch, Claim, Fail, Retry}
use Rattle.queue_model.specs.Named.{job_named, generation_named, put_named}
use Rattle.transition_table.specs.Seen.{HasNext, IsFit, new_limit}

pub limited : (row : JobRow) (put : Put) → IsTrue (is_in_range (Enqueue row put)) → IsTrue (is_limited row.limited)
limited row put h = grind arith

pub fit : (t : Transition) → IsTrue (is_in_range t) → IsFit (new_limit t)
fit (Enqueue row put) h = by row.limited (limited row put h)
  where
    by : (o : Option Limited) → IsTrue (is_limited o) → IsFit o
    by None h = tt
    by (Some l) h = (grind arith, grind arith)
fit t h = tt

number : (o : Option ℕ) → IsTrue (is_some_number o) → ForSome o (λ n. n < 2 ^ 64 - 1)
number o h n e = grind arith

-- the parts of a new job
enqueued : (row : JobRow) (put : Put) → IsTrue (is_in_range (Enqueue row put)) → IsTrue (is_number row.id) × IsTrue (is_put put)
enqueued row put h = (grind arith, (and_parts (is_row row) (is_put put) (and_parts (is_row row && is_put put) (not (is_away put)) h).0).1)

put_within : (put : Put) → IsTrue (is_put put) → ForSome (put_named put) (λ n. n < 2 ^ 64 - 1)
put_within (Ready permit) h n e = number permit h n e
put_within put h n e = grind arith

job_within : (t : Transition) → IsTrue (is_in_range t) → ForSome (job_named t) (λ n. n < 2 ^ 64 - 1)
job_within (Enqueue row put) h n e = number (Some row.id) (enqueued row put h).0 n e
job_within (Dispatch id put) h n e = grind arith
job_within (Claim id pid) h n e = grind arith
job_within (Fail id error message counters) h n e = grind arith
job_within (Retry id put) h n e = grind arith
job_within t h n e = grind arith

generation_within : (t : Transition) → IsTrue (is_in_range t) → ForSome (generation_named t) (λ n. n < 2 ^ 64 - 1)
generation_within (Enqueue row put) h n e = put_within put (enqueued row put h).1 n e
generation_within t h n e = grind arith

pub next : (t : Transition) → IsTrue (is_in_range t) → HasNext t
next t h = record { job = job_within t h; pid = λ n e. grind arith; generation = generation_within t h }
