-- The text of a payload of transactions, as a function of the value.
use Rattle.std.specs.Prelude.{ℕ, Bool, true, false, List, [], ◌∷◌, ◌++◌, length, Option, Some, None}
use Rattle.std.specs.Int.{w32, bytes_high_first, cast_unsigned}
use Rattle.std.specs.List.{flat_map}
use Rattle.job_states.specs.declared.command.Kind.{Kind}
use Rattle.job_states.specs.declared.command.Kind.TheVariants.{Worker, Dispatcher, Scheduler, Supervisor}
use Rattle.job_states.specs.declared.job.Counted.{Counted}
use Rattle.job_states.specs.declared.job.JobRow.{JobRow}
use Rattle.job_states.specs.declared.job.Limited.{Limited}
use Rattle.job_states.specs.declared.transition.Counters.{Counters}
use Rattle.job_states.specs.declared.transition.Put.{Put}
use Rattle.job_states.specs.declared.transition.Put.TheVariants.{Ready, Scheduled, Blocked, Away}
use Rattle.job_states.specs.declared.transition.Transaction.{Transaction}
use Rattle.job_states.specs.declared.transition.Transition.{Transition}
use Rattle.job_states.specs.declared.transition.Transition.TheVariants.{Enqueue, Dispatch, Claim, Done, Fail, Release, Unblock, Retry, Discard, Clear, Register, Beat, Deregister, Pause, Resume, Expire, Run}

-- `++` that groups to the right, as parts are read
infixr 20 ◌⧺◌
abbrev pub ◌⧺◌ : List ℕ → List ℕ → List ℕ
xs ⧺ ys = xs ++ ys

-- the number in so many bytes, the highest first
abbrev pub big_endian : ℕ → ℕ → List ℕ
big_endian width n = bytes_high_first width n

abbrev pub name : List ℕ → List ℕ
name bytes = big_endian 1 (length bytes) ⧺ bytes

abbrev pub text : List ℕ → List ℕ
text bytes = big_endian 2 (length bytes) ⧺ bytes

abbrev pub flag : Bool → List ℕ
flag false = 0 ∷ []
flag true = 1 ∷ []

abbrev pub option : {A : Type 0} → (A → List ℕ) → Option A → List ℕ
option spell None = 0 ∷ []
option spell (Some a) = 1 ∷ spell a

abbrev pub counted : Counted → List ℕ
counted c = text c.list ⧺ big_endian 2 c.count

abbrev pub counts : List Counted → List ℕ
counts cs = big_endian 1 (length cs) ⧺ flat_map counted cs

abbrev pub limited : Limited → List ℕ
limited l = text l.key ⧺ big_endian 2 l.to ⧺ big_endian 8 l.duration ⧺ flag l.discard

-- what a row has besides its names
abbrev pub load : JobRow → List ℕ
load r = text r.envelope ⧺ big_endian 2 r.executions ⧺ counts r.counts ⧺ option limited r.limited

abbrev pub row : JobRow → List ℕ
row r = big_endian 8 r.id ⧺ name r.class ⧺ name r.queue ⧺ big_endian 4 (cast_unsigned w32 r.priority) ⧺ name r.active_id ⧺ load r

abbrev pub place : Put → List ℕ
place (Ready permit) = 1 ∷ option (big_endian 8) permit
place (Scheduled at) = 2 ∷ big_endian 8 at
place (Blocked until) = 3 ∷ big_endian 8 until
place Away = 4 ∷ []

abbrev pub kind : Kind → List ℕ
kind Worker = 1 ∷ []
kind Dispatcher = 2 ∷ []
kind Scheduler = 3 ∷ []
kind Supervisor = 4 ∷ []

abbrev pub counters : Counters → List ℕ
counters c = big_endian 2 c.executions ⧺ counts c.counts

abbrev pub tag : Transition → ℕ
tag (Enqueue row put) = 1
tag (Dispatch id put) = 2
tag (Claim id pid) = 3
tag (Done id) = 4
tag (Fail id error message counters) = 5
tag (Release id) = 6
tag (Unblock id generation) = 7
tag (Retry id put) = 8
tag (Discard id) = 9
tag (Clear id) = 10
tag (Register pid kind name) = 11
tag (Beat pid) = 12
tag (Deregister pid) = 13
tag (Pause queue) = 14
tag (Resume queue) = 15
tag (Expire key) = 16
tag (Run task time id) = 17

-- what stands after the tag
abbrev pub fields : Transition → List ℕ
fields (Enqueue r put) = row r ⧺ place put
fields (Dispatch id put) = big_endian 8 id ⧺ place put
fields (Claim id pid) = big_endian 8 id ⧺ big_endian 8 pid
fields (Done id) = big_endian 8 id
fields (Fail id error message c) = big_endian 8 id ⧺ name error ⧺ text message ⧺ option counters c
fields (Release id) = big_endian 8 id
fields (Unblock id generation) = big_endian 8 id ⧺ big_endian 8 generation
fields (Retry id put) = big_endian 8 id ⧺ place put
fields (Discard id) = big_endian 8 id
fields (Clear id) = big_endian 8 id
fields (Register pid k n) = big_endian 8 pid ⧺ kind k ⧺ name n
fields (Beat pid) = big_endian 8 pid
fields (Deregister pid) = big_endian 8 pid
fields (Pause queue) = name queue
fields (Resume queue) = name queue
fields (Expire key) = text key
fields (Run task time id) = name task ⧺ big_endian 8 time ⧺ option (big_endian 8) id

abbrev pub transition : Transition → List ℕ
transition t = tag t ∷ fields t

abbrev pub transaction : Transaction → List ℕ
transaction tx = big_endian 8 tx.moment ⧺ big_endian 2 (length tx.steps) ⧺ flat_map transition tx.steps

abbrev pub payload : List Transaction → List ℕ
payload txs = 1 ∷ big_endian 1 (length txs) ⧺ flat_map transaction txs
