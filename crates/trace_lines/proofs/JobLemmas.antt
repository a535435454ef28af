-- Jobs and their envelopes.
use Rattle.std.proofs.Common.{◌≡◌, ◌≤◌, ℕ, ℤ, List, [], length, true, false, refl, inl, inr, ltb, Option, None, Some, Ok, IsTrue, rules, arith}
use Rattle.std.proofs.lemmas.Bool.{cases_Bool}
use Rattle.std.proofs.lemmas.Bool.Decides.{nat_tests}
use Rattle.std.proofs.lemmas.Str.{IsUtf8-nil, is_utf8-from_IsUtf8}
use Rattle.std.specs.List.Sorted.{IsStrictlySortedBy}
use Rattle.std.specs.Str.{is_utf8}
use Rattle.serde_json.specs.Data.{array, depth}
use Rattle.serde_json.specs.Written.{items_have_float}
use Rattle.job_states.specs.Length.{IsName, is_name}
use Rattle.job_states.specs.Ranges.{is_envelope, is_priority}
use Rattle.job_states.specs.declared.command.NewJob.{NewJob}
use Rattle.job_envelope.specs.Envelope.{envelope_of}
use Rattle.job_envelope.specs.Ranges.{AreEnvelopeCounts}
use Rattle.job_envelope.specs.Written.{CanReadBack, ReadsBack}
use Rattle.trace_lines.specs.Jobs.{plain_job, IsPlain, argument_items}
use Rattle.trace_lines.specs.Ranges.{IsFitJob}

-- ---- ranges

is_name-from_IsName : (name : List ℕ) → IsName name → is_name name ≡ true
is_name-from_IsName name is = grind (arith, nat_tests, is.0, is.1)

no_counts : AreEnvelopeCounts []
unfolding IsStrictlySortedBy
no_counts = record { few = omega arith; row = refl; ordered = tt }

no_envelope : is_envelope [] ≡ true
no_envelope = is_utf8-from_IsUtf8 [] IsUtf8-nil

pub IsFitJob-plain : (job : NewJob) (class queue : List ℕ) (priority : ℤ) → job ≡ plain_job class queue priority → IsName class → IsName queue → IsTrue (is_priority priority) → IsFitJob job
IsFitJob-plain job class queue priority is class_is queue_is within = rw is (record {
  class = is_name-from_IsName class class_is;
  queue = is_name-from_IsName queue queue_is;
  active_id = refl;
  priority = within;
  rest = record { envelope = no_envelope; executions = refl; counts = no_counts; at = search rules; args = omega arith };
})

-- ---- envelopes

-- what reads as an envelope is UTF-8
is_utf8-read : (text : List ℕ) (job : NewJob) → envelope_of text ≡ Ok job → is_utf8 text ≡ true
unfolding envelope_of
is_utf8-read text job read =
    elim (cases_Bool (is_utf8 text)) [
      | inl is ↦ is
      | inr other ↦ elim (cases_Bool (ltb 8192 (length text))) [ inl long ↦ let r = rw long at read in cc | inr short ↦ let r = rw (short, other) at read in cc ]
    ]

flat_items : (argument : Option (List ℕ)) → depth (array (argument_items argument)) ≤ 126
flat_items None = omega arith
flat_items (Some text) = omega arith

whole_items : (argument : Option (List ℕ)) → items_have_float (argument_items argument) ≡ false
whole_items None = refl
whole_items (Some text) = refl

can_read_back : (job : NewJob) (argument : Option (List ℕ)) (text : List ℕ) → IsPlain job → length text ≤ 8192 → CanReadBack job (argument_items argument) text
can_read_back job argument text plain short =
    rw plain (record { moment = λ moment some. cc; no_counts = refl; executions = omega arith; no_float = whole_items argument; nested = flat_items argument; short = short })

pub is_envelope-written : (job : NewJob) (argument : Option (List ℕ)) (text : List ℕ) → IsPlain job → ReadsBack job (array (argument_items argument)) text → length text ≤ 8192 → IsTrue (is_envelope text)
is_envelope-written job argument text plain reads short =
    let utf8 = is_utf8-read text _ (reads (argument_items argument) refl (can_read_back job argument text plain short)) in
    grind (arith, nat_tests, short, utf8)
