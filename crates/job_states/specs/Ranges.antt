-- The ranges of what rows, states and transitions carry, as tests that compute.
use Rattle.std.specs.Prelude.{ℕ, ◌^◌, Bool, true, false, ◌&&◌, not, nat_le, nat_lt, List, [], ◌∷◌, ◌++◌, length, map, Option, None, Some, ℤ, pos, negsuc, int_le}
use Rattle.std.specs.List.{list_all}
use Rattle.std.specs.Str.{is_utf8}
use Rattle.job_states.specs.Length.{is_within, is_name}
use Rattle.job_states.specs.Moment.{is_moment}
use Rattle.job_states.specs.Texts.{are_apart}
use Rattle.job_states.specs.declared.job.Counted.{Counted}
use Rattle.job_states.specs.declared.job.JobRow.{JobRow}
use Rattle.job_states.specs.declared.job.Limited.{Limited}
use Rattle.job_states.specs.declared.job.State.{State}
use Rattle.job_states.specs.declared.job.State.TheVariants as state
use Rattle.job_states.specs.declared.transition.Counters.{Counters}
use Rattle.job_states.specs.declared.transition.Put.{Put}
use Rattle.job_states.specs.declared.transition.Put.TheVariants.{Ready, Scheduled, Blocked, Away}
use Rattle.job_states.specs.declared.transition.Transaction.{Transaction}
use Rattle.job_states.specs.declared.transition.Transition.{Transition}
use Rattle.job_states.specs.declared.transition.Transition.TheVariants.{Enqueue, Dispatch, Claim, Done, Fail, Release, Unblock, Retry, Discard, Clear, Register, Beat, Deregister, Pause, Resume, Expire, Run}

-- ---- parts

-- the number of a job, of a process or of a generation
abbrev pub is_number : ℕ → Bool
is_number n = is_within 1 (2 ^ 63) n

abbrev pub is_some_number : Option ℕ → Bool
is_some_number None = true
is_some_number (Some n) = is_number n

abbrev pub is_message : List ℕ → Bool
is_message bytes = nat_le (length bytes) 1024

-- how often a job was performed, or a rule's errors came
abbrev pub is_count : ℕ → Bool
is_count n = nat_le n 65_535

abbrev pub is_counted : Counted → Bool
is_counted c = is_within 1 1024 (length c.list) && is_count c.count

-- at most 32, each of another list
abbrev pub are_counts : List Counted → Bool
are_counts counts = nat_le (length counts) 32 && list_all is_counted counts && are_apart (map (λ c. c.list) counts)

abbrev pub is_limited : Option Limited → Bool
is_limited None = true
is_limited (Some limited) = is_within 3 257 (length limited.key) && is_within 1 65_535 limited.to && nat_lt limited.duration (2 ^ 64)

-- from -2^31 to 2^31 - 1
abbrev pub is_priority : ℤ → Bool
is_priority priority = int_le (negsuc 2_147_483_647) priority && int_le priority (pos 2_147_483_647)

abbrev pub is_envelope : List ℕ → Bool
is_envelope bytes = nat_le (length bytes) 8192 && is_utf8 bytes

-- ---- jobs

abbrev pub is_row : JobRow → Bool
is_row row =
    is_number row.id && is_name row.class && is_name row.queue && is_priority row.priority && is_name row.active_id && is_envelope row.envelope
    && is_count row.executions && are_counts row.counts && is_limited row.limited

abbrev pub is_state : State → Bool
is_state (state.Scheduled at) = is_moment at
is_state (state.Ready permit) = is_some_number permit
is_state (state.Blocked until) = is_moment until
is_state (state.Claimed pid permit) = is_number pid && is_some_number permit
is_state (state.Failed error message) = is_name error && is_message message
is_state (state.Finished at) = is_moment at

-- ---- transitions

abbrev pub is_put : Put → Bool
is_put (Ready permit) = is_some_number permit
is_put (Scheduled at) = is_moment at
is_put (Blocked until) = is_moment until
is_put Away = true

abbrev pub is_scheduled : Put → Bool
is_scheduled (Scheduled at) = true
is_scheduled put = false

abbrev pub is_away : Put → Bool
is_away Away = true
is_away put = false

abbrev pub are_counters : Option Counters → Bool
are_counters None = true
are_counters (Some counters) = is_count counters.executions && are_counts counters.counts

-- What a transition carries is within its ranges. A new job doesn't go away at once, one that is dispatched isn't scheduled
-- again, and one that is tried again neither. The key that expires may be any text with a length of two bytes.
abbrev pub is_in_range : Transition → Bool
is_in_range (Enqueue row put) = is_row row && is_put put && not (is_away put)
is_in_range (Dispatch id put) = is_number id && is_put put && not (is_scheduled put)
is_in_range (Claim id pid) = is_number id && is_number pid
is_in_range (Done id) = is_number id
is_in_range (Fail id error message counters) = is_number id && is_name error && is_message message && are_counters counters
is_in_range (Release id) = is_number id
is_in_range (Unblock id generation) = is_number id && is_number generation
is_in_range (Retry id put) = is_number id && is_put put && not (is_scheduled put) && not (is_away put)
is_in_range (Discard id) = is_number id
is_in_range (Clear id) = is_number id
is_in_range (Register pid kind name) = is_number pid && is_name name
is_in_range (Beat pid) = is_number pid
is_in_range (Deregister pid) = is_number pid
is_in_range (Pause queue) = is_name queue
is_in_range (Resume queue) = is_name queue
is_in_range (Expire key) = nat_le (length key) 65_535
is_in_range (Run task time id) = is_name task && is_moment time && is_some_number id

-- what the journal can hold of a transaction: 1 to 2000 transitions
abbrev pub is_transaction : Transaction → Bool
is_transaction tx = is_moment tx.moment && is_within 1 2000 (length tx.steps) && list_all is_in_range tx.steps

-- ---- texts, which are UTF-8 by their types

abbrev pub texts_of_counts : List Counted → List (List ℕ)
texts_of_counts counts = map (λ c. c.list) counts

abbrev pub texts_of_limited : Option Limited → List (List ℕ)
texts_of_limited None = []
texts_of_limited (Some limited) = limited.key ∷ []

abbrev pub texts_of_counters : Option Counters → List (List ℕ)
texts_of_counters None = []
texts_of_counters (Some counters) = texts_of_counts counters.counts

abbrev pub texts_of_row : JobRow → List (List ℕ)
texts_of_row row = row.class ∷ row.queue ∷ row.active_id ∷ texts_of_counts row.counts ++ texts_of_limited row.limited

-- the names and texts of a transition
abbrev pub texts_of : Transition → List (List ℕ)
texts_of (Enqueue row put) = texts_of_row row
texts_of (Fail id error message counters) = error ∷ message ∷ texts_of_counters counters
texts_of (Register pid kind name) = name ∷ []
texts_of (Pause queue) = queue ∷ []
texts_of (Resume queue) = queue ∷ []
texts_of (Expire key) = key ∷ []
texts_of (Run task time id) = task ∷ []
texts_of transition = []

-- they are UTF-8
abbrev pub has_texts : Transition → Bool
has_texts transition = list_all is_utf8 (texts_of transition)
