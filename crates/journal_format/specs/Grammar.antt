-- The readers of a payload's parts.
use Rattle.std.specs.Prelude.{ℕ, zero, suc, ◌-◌, ◌==◌, Bool, true, false, if◌then◌else◌, List, [], ◌∷◌, ◌++◌, drop, Option, Some, None, Ok, Err, ℤ}
use Rattle.std.specs.Int.{w32, cast_signed}
use Rattle.job_states.specs.declared.command.Kind.{Kind}
use Rattle.job_states.specs.declared.command.Kind.TheVariants.{Worker, Dispatcher, Scheduler, Supervisor}
use Rattle.job_states.specs.declared.job.Counted.{Counted}
use Rattle.job_states.specs.declared.job.JobRow.{JobRow}
use Rattle.job_states.specs.declared.job.Limited.{Limited}
use Rattle.job_states.specs.declared.transition.Counters.{Counters}
use Rattle.job_states.specs.declared.transition.Put.{Put}
use Rattle.job_states.specs.declared.transition.Put.TheVariants.{Ready, Scheduled, Blocked, Away}
use Rattle.job_states.specs.declared.transition.Transaction.{Transaction}
use Rattle.job_states.specs.declared.transition.Transition.{Transition}
use Rattle.job_states.specs.declared.transition.Transition.TheVariants.{Enqueue, Dispatch, Claim, Done, Fail, Release, Unblock, Retry, Discard, Clear, Register, Beat, Deregister, Pause, Resume, Expire, Run}
use Rattle.job_states.specs.Judged.{◌>>=◌}
use Rattle.job_states.specs.Texts.{is_among}
use Rattle.journal_format.specs.Reading.{Read, both, made, given, tagged, number, ◌then◌, prepend, items}
use Rattle.journal_format.specs.Utf8.{text_of}

unfoldable pub id_at : List ℕ → Read ℕ
id_at = number 8 1 9_223_372_036_854_775_808

unfoldable pub moment_at : List ℕ → Read ℕ
moment_at = number 8 0 253_370_764_799_999_999

-- a number from least to most in so many bytes, and what has that size
unfoldable pub sized_at : {A : Type 0} → ℕ → ℕ → ℕ → (ℕ → List ℕ → Read A) → List ℕ → Read A
sized_at width least most read = made (λ p. p.1) (both (number width least most) read)

abbrev pub text_at : ℕ → ℕ → ℕ → List ℕ → Read (List ℕ)
text_at width least most = sized_at width least most text_of

abbrev pub name_at : List ℕ → Read (List ℕ)
name_at = text_at 1 1 128

unfoldable pub flag_at : List ℕ → Read Bool
flag_at = tagged (λ t. if t == 0 then Some (given false) else if t == 1 then Some (given true) else None)

unfoldable pub option_at : {A : Type 0} → (List ℕ → Read A) → List ℕ → Read (Option A)
option_at item = made (λ p. p.1) (both flag_at (λ some. if some then made Some item else given None))

abbrev pub list_at : {A : Type 0} → ℕ → ℕ → ℕ → (List ℕ → Read A) → List ℕ → Read (List A)
list_at width least most item = sized_at width least most (items item)

-- a text of so many bytes that is none of these; one that is is refused at its last byte
unfoldable pub other_text : List (List ℕ) → ℕ → List ℕ → Read (List ℕ)
other_text texts len bytes = do
  t ← text_of len bytes
  if is_among texts t.0 then Err (drop (len - 1) bytes) else Ok t

unfoldable pub counted_at : List (List ℕ) → List ℕ → Read Counted
counted_at before = made (λ p. record { list = p.0; count = p.1 }) (sized_at 2 1 1024 (other_text before) then number 2 0 65_535)

unfoldable pub counts_after : List (List ℕ) → ℕ → List ℕ → Read (List Counted)
counts_after before zero = given []
counts_after before (suc n) = made prepend (both (counted_at before) (λ c. counts_after (before ++ c.list ∷ []) n))

abbrev pub counts_at : List ℕ → Read (List Counted)
counts_at = sized_at 1 0 32 (counts_after [])

unfoldable pub limited_at : List ℕ → Read Limited
limited_at = made (λ p. record { key = p.0; to = p.1.0; duration = p.1.1.0; discard = p.1.1.1 }) (text_at 2 3 257 then number 2 1 65_535 then number 8 0 18_446_744_073_709_551_615 then flag_at)

unfoldable pub priority_at : List ℕ → Read ℤ
priority_at = made (λ n. cast_signed w32 n) (number 4 0 4_294_967_295)

unfoldable pub row_at : List ℕ → Read JobRow
row_at = made (λ p. record { id = p.0; class = p.1.0; queue = p.1.1.0; priority = p.1.1.1.0; active_id = p.1.1.1.1.0; envelope = p.1.1.1.1.1.0; executions = p.1.1.1.1.1.1.0; counts = p.1.1.1.1.1.1.1.0; limited = p.1.1.1.1.1.1.1.1 })
    (id_at then name_at then name_at then priority_at then name_at then text_at 2 0 8192 then number 2 0 65_535 then counts_at then option_at limited_at)

-- a place: may it be a scheduled one, and may the job go away?
unfoldable pub place_at : Bool → Bool → List ℕ → Read Put
place_at scheduled away = tagged (λ t.
    if t == 1 then Some (made Ready (option_at id_at))
    else if t == 2 then (if scheduled then Some (made Scheduled moment_at) else None)
    else if t == 3 then Some (made Blocked moment_at)
    else if t == 4 then (if away then Some (given Away) else None)
    else None)

unfoldable pub kind_at : List ℕ → Read Kind
kind_at = tagged (λ t.
    if t == 1 then Some (given Worker) else if t == 2 then Some (given Dispatcher)
    else if t == 3 then Some (given Scheduler) else if t == 4 then Some (given Supervisor) else None)

unfoldable pub counters_at : List ℕ → Read Counters
counters_at = made (λ p. record { executions = p.0; counts = p.1 }) (number 2 0 65_535 then counts_at)

unfoldable pub enqueue_at : List ℕ → Read Transition
enqueue_at = made (λ p. Enqueue p.0 p.1) (row_at then place_at true false)

unfoldable pub dispatch_at : List ℕ → Read Transition
dispatch_at = made (λ p. Dispatch p.0 p.1) (id_at then place_at false true)

unfoldable pub claim_at : List ℕ → Read Transition
claim_at = made (λ p. Claim p.0 p.1) (id_at then id_at)

unfoldable pub unblock_at : List ℕ → Read Transition
unblock_at = made (λ p. Unblock p.0 p.1) (id_at then id_at)

unfoldable pub retry_at : List ℕ → Read Transition
retry_at = made (λ p. Retry p.0 p.1) (id_at then place_at false false)

unfoldable pub fail_at : List ℕ → Read Transition
fail_at = made (λ p. Fail p.0 p.1.0 p.1.1.0 p.1.1.1) (id_at then name_at then text_at 2 0 1024 then option_at counters_at)

unfoldable pub register_at : List ℕ → Read Transition
register_at = made (λ p. Register p.0 p.1.0 p.1.1) (id_at then kind_at then name_at)

unfoldable pub run_at : List ℕ → Read Transition
run_at = made (λ p. Run p.0 p.1.0 p.1.1) (name_at then moment_at then option_at id_at)

-- how to read what stands after the tag
unfoldable pub fields_of : ℕ → Option (List ℕ → Read Transition)
fields_of t =
    if t == 1 then Some enqueue_at
    else if t == 2 then Some dispatch_at
    else if t == 3 then Some claim_at
    else if t == 4 then Some (made Done id_at)
    else if t == 5 then Some fail_at
    else if t == 6 then Some (made Release id_at)
    else if t == 7 then Some unblock_at
    else if t == 8 then Some retry_at
    else if t == 9 then Some (made Discard id_at)
    else if t == 10 then Some (made Clear id_at)
    else if t == 11 then Some register_at
    else if t == 12 then Some (made Beat id_at)
    else if t == 13 then Some (made Deregister id_at)
    else if t == 14 then Some (made Pause name_at)
    else if t == 15 then Some (made Resume name_at)
    else if t == 16 then Some (made Expire (text_at 2 0 65_535))
    else if t == 17 then Some run_at
    else None

unfoldable pub transition_at : List ℕ → Read Transition
transition_at = tagged fields_of

unfoldable pub transaction_at : List ℕ → Read Transaction
transaction_at = made (λ p. record { moment = p.0; steps = p.1 }) (moment_at then list_at 2 1 2000 transition_at)

unfoldable pub payload_at : List ℕ → Read (List Transaction)
payload_at = tagged (λ t. if t == 1 then Some (list_at 1 1 64 transaction_at) else None)
