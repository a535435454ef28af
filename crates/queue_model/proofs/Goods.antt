-- What a legal transition leaves at the rows that it holds, case by case: what a good world asks of them.
use Rattle.std.proofs.Common.{◌≡◌, ◌≢◌, ◌+◌, ◌≤◌, ℕ, Bool, true, false, ◌&&◌, ◌||◌, not, nat_le, List, Option, None, Some, is_some, is_none, refl, arith}
use Rattle.std.specs.Prelude.{◌==◌}
use Rattle.std.proofs.lemmas.Bool.{and_parts}
use Rattle.job_states.specs.Length.{is_name}
use Rattle.job_states.specs.Moment.{is_moment}
use Rattle.job_states.specs.Ranges.{is_in_range, is_number, is_put, is_row, is_state}
use Rattle.job_states.specs.States.{stage_of, permit_of, is_blocked}
use Rattle.job_states.specs.declared.job.JobRow.{JobRow}
use Rattle.job_states.specs.declared.job.Limited.{Limited}
use Rattle.job_states.specs.declared.job.State.{State}
use Rattle.job_states.specs.declared.job.State.TheVariants as state
use Rattle.job_states.specs.declared.transition.Put.{Put}
use Rattle.job_states.specs.declared.transition.Put.TheVariants.{Ready, Scheduled, Blocked, Away}
use Rattle.job_states.specs.declared.transition.Transition.{Transition}
use Rattle.job_states.specs.declared.transition.Transition.TheVariants.{Enqueue, Dispatch, Claim, Done, Fail, Release, Unblock, Retry}
use Rattle.semaphores.specs.Semaphore.{Semaphore}
use Rattle.queue_model.specs.Held.{held}
use Rattle.queue_model.specs.Named.{job_named, pid_named, put_named, generation_named}
use Rattle.queue_model.specs.Sights.{Rows, Sight, pid_of}
use Rattle.queue_model.specs.Transitions.{changes, anew, counted}
use Rattle.queue_model.specs.World.{is_claimed_by}
use Rattle.queue_model.specs.declared.Job.{Job}
use Rattle.queue_model.specs.declared.Process.{Process}
use Rattle.queue_model.proofs.Balances.{limit_of}
use Rattle.queue_model.proofs.Frames.{one}

-- ---- numbers

pub job_number : (t : Transition) (n : ℕ) → is_in_range t ≡ true → job_named t ≡ Some n → is_number n ≡ true
job_number t n r e = grind arith

pub pid_number : (t : Transition) (n : ℕ) → is_in_range t ≡ true → pid_named t ≡ Some n → is_number n ≡ true
pid_number t n r e = grind arith

middle : (a b c : Bool) → (a && b && c) ≡ true → b ≡ true
middle a b c h = grind arith

put_number : (put : Put) (n : ℕ) → is_put put ≡ true → put_named put ≡ Some n → is_number n ≡ true
put_number put n fits e = grind arith

pub generation_number : (t : Transition) (n : ℕ) → is_in_range t ≡ true → generation_named t ≡ Some n → is_number n ≡ true
generation_number (Enqueue r put) n range e = put_number put n (middle (is_row r) (is_put put) _ range) e
generation_number (Dispatch id put) n range e = put_number put n (middle (is_number id) (is_put put) _ range) e
generation_number (Retry id put) n range e = put_number put n (middle (is_number id) (is_put put) _ (and_parts _ _ range).0) e
generation_number t n range e = grind arith

-- ---- the job

pub own_number : (m : ℕ) (s : Sight) (t : Transition) (c : Rows) (j : Job) (id : ℕ) → changes m s t ≡ Some c → job_named t ≡ Some id → ((o : Job) → s.rows.job ≡ Some o → o.row.id ≡ id) → c.job ≡ Some j → j.row.id ≡ id
own_number m s t c j id h named before e = grind arith

-- the row that the transition gives the job
abbrev pub row_then : Transition → Option Job → Option JobRow
row_then (Enqueue r put) j = Some r
row_then t None = None
row_then (Fail id error message counters) (Some o) = Some (counted o.row counters)
row_then (Retry id put) (Some o) = Some (anew o.row)
row_then t (Some o) = Some o.row

pub row_is : (m : ℕ) (s : Sight) (t : Transition) (c : Rows) (j : Job) → changes m s t ≡ Some c → job_named t ≢ None → c.job ≡ Some j → row_then t s.rows.job ≡ Some j.row
row_is m s t c j h named e = grind arith

-- the state that the transition gives the job; what goes has none
abbrev state_put : Put → Option State
state_put (Ready permit) = Some (state.Ready permit)
state_put (Scheduled at) = Some (state.Scheduled at)
state_put (Blocked until) = Some (state.Blocked until)
state_put Away = None

abbrev state_then : (moment : ℕ) → Transition → Option Job → Option State
state_then m (Enqueue r put) before = state_put put
state_then m t None = None
state_then m (Dispatch id put) (Some o) = state_put put
state_then m (Claim id pid) (Some o) = Some (state.Claimed pid (permit_of o.state))
state_then m (Done id) (Some o) = Some (state.Finished m)
state_then m (Fail id error message counters) (Some o) = Some (state.Failed error message)
state_then m (Release id) (Some o) = Some (state.Ready (permit_of o.state))
state_then m (Unblock id generation) (Some o) = Some (state.Ready (Some generation))
state_then m (Retry id put) (Some o) = state_put put
state_then m t (Some o) = Some o.state

state_is : (m : ℕ) (s : Sight) (t : Transition) (c : Rows) (j : Job) → changes m s t ≡ Some c → job_named t ≢ None → c.job ≡ Some j → state_then m t s.rows.job ≡ Some j.state
state_is m s t c j h named e = grind arith

put_fits : (put : Put) (x : State) → is_put put ≡ true → state_put put ≡ Some x → is_state x ≡ true
put_fits put x fits e = grind arith

then_fits : (m : ℕ) (t : Transition) (before : Option Job) (x : State) → is_in_range t ≡ true → is_moment m ≡ true → ((o : Job) → before ≡ Some o → is_state o.state ≡ true) → state_then m t before ≡ Some x → is_state x ≡ true
then_fits m (Enqueue r put) before x range moment old e = put_fits put x (middle (is_row r) (is_put put) _ range) e
then_fits m (Claim id p) None x range moment old e = grind arith
then_fits m (Claim id p) (Some o) x range moment old e = let fits = old o refl in grind arith
then_fits m (Release id) None x range moment old e = grind arith
then_fits m (Release id) (Some o) x range moment old e = let fits = old o refl in grind arith
then_fits m t before x range moment old e = grind arith

pub state_fits : (m : ℕ) (s : Sight) (t : Transition) (c : Rows) (j : Job) → changes m s t ≡ Some c → is_in_range t ≡ true → is_moment m ≡ true → job_named t ≢ None → ((o : Job) → s.rows.job ≡ Some o → is_state o.state ≡ true) → c.job ≡ Some j → is_state j.state ≡ true
state_fits m s t c j h range moment named before e = then_fits m t s.rows.job j.state range moment before (state_is m s t c j h named e)

abbrev pub passes : (ℕ → Bool) → Option ℕ → Bool
passes p None = true
passes p (Some n) = p n

-- a permit is the one that the job held, or the one that is named
pub permit_fits : (p : ℕ → Bool) (m : ℕ) (s : Sight) (t : Transition) (c : Rows) (j : Job) → changes m s t ≡ Some c → job_named t ≢ None → ((o : Job) → s.rows.job ≡ Some o → passes p (permit_of o.state) ≡ true) → passes p (generation_named t) ≡ true → c.job ≡ Some j → passes p (permit_of j.state) ≡ true
permit_fits p m s t c j h named before new e = grind arith

-- a claim is one that was there, or one by the process that is held and is there
pub claim_stays : (m : ℕ) (s : Sight) (t : Transition) (c : Rows) (j : Job) (pid : ℕ) → changes m s t ≡ Some c → job_named t ≢ None → (held s.rows.job t).process ≡ None → c.job ≡ Some j → is_claimed_by pid j ≡ true → s.rows.job ≡ Some j
claim_stays m s t c j pid h named none e claimed = grind arith

pub claim_made : (m : ℕ) (s : Sight) (t : Transition) (c : Rows) (j : Job) (pid : ℕ) → changes m s t ≡ Some c → job_named t ≢ None → (held s.rows.job t).process ≢ None → c.job ≡ Some j → is_claimed_by pid j ≡ true → pid_of (held s.rows.job t).process ≡ Some pid
claim_made m s t c j pid h named some e claimed = grind arith

pub claimant_there : (m : ℕ) (s : Sight) (t : Transition) (c : Rows) (j : Job) (pid : ℕ) → changes m s t ≡ Some c → job_named t ≢ None → (held s.rows.job t).process ≢ None → c.job ≡ Some j → is_claimed_by pid j ≡ true → is_some c.process ≡ true
claimant_there m s t c j pid h named some e claimed = grind arith

-- a job that holds a permit or is blocked has a key
abbrev pub is_keyed : Job → Bool
is_keyed j = is_some j.row.limited || (is_none (permit_of j.state) && not (is_blocked (Some (stage_of j.state))))

pub keyed : (m : ℕ) (s : Sight) (t : Transition) (c : Rows) (j : Job) → changes m s t ≡ Some c → ((o : Job) → s.rows.job ≡ Some o → is_keyed o ≡ true) → job_named t ≢ None → c.job ≡ Some j → is_keyed j ≡ true
keyed m s t c j h before named e = grind arith

-- ---- the process

-- a process with claims stays registered
pub stays_registered : (m : ℕ) (s : Sight) (t : Transition) (c : Rows) → changes m s t ≡ Some c → 1 ≤ s.claims → is_some s.rows.process ≡ true → is_some c.process ≡ true
stays_registered m s t c h some there = grind arith

pub few : (m : ℕ) (s : Sight) (t : Transition) (c : Rows) (pid : ℕ) → changes m s t ≡ Some c → s.claims ≤ 500 → s.claims + one (is_claimed_by pid) c.job ≤ 500 + one (is_claimed_by pid) s.rows.job
few m s t c pid h before = grind arith

abbrev pub is_process : Process → Bool
is_process p = is_name p.name && is_moment p.since && is_moment p.beat

pub process_fits : (m : ℕ) (s : Sight) (t : Transition) (c : Rows) (p : Process) → changes m s t ≡ Some c → is_in_range t ≡ true → is_moment m ≡ true → ((o : Process) → s.rows.process ≡ Some o → is_process o ≡ true) → c.process ≡ Some p → is_process p ≡ true
process_fits m s t c p h range moment before e = grind arith

-- a process that is new is named
pub new_process : (m : ℕ) (s : Sight) (t : Transition) (c : Rows) (p : Process) → changes m s t ≡ Some c → s.rows.process ≡ None → c.process ≡ Some p → pid_of (held s.rows.job t).process ≡ pid_named t
new_process m s t c p h none e = grind arith

-- ---- the semaphore

-- of the standing one's generation and limit, or of those that are named
abbrev pub comes_from : Option Semaphore → Option Limited → (named : Option ℕ) → Semaphore → Bool
comes_from (Some old) limited named new = new.generation == old.generation && new.limit == old.limit && (is_moment new.expires || new.expires == old.expires)
comes_from None (Some limited) (Some generation) new = new.generation == generation && new.limit == limited.to && is_moment new.expires
comes_from None limited named new = false

pub semaphore_from : (m : ℕ) (s : Sight) (t : Transition) (c : Rows) (new : Semaphore) → changes m s t ≡ Some c → c.semaphore ≡ Some new → comes_from s.rows.semaphore (limit_of t s.rows.job) (generation_named t) new ≡ true
semaphore_from m s (Enqueue r put) c new h e = grind arith
semaphore_from m s t c new h e = grind arith

-- the key is that of the job's limit
pub own_key : (m : ℕ) (s : Sight) (t : Transition) (c : Rows) (new : Semaphore) (k : List ℕ) (limited : Limited) → changes m s t ≡ Some c → c.semaphore ≡ Some new → (held s.rows.job t).key ≡ Some k → limit_of t s.rows.job ≡ Some limited → k ≡ limited.key
own_key m s t c new k limited h is e l = grind arith

-- ---- queues and tasks

pub queue_name : (t : Transition) (j : Option Job) (queue : List ℕ) → is_in_range t ≡ true → (held j t).queue ≡ Some queue → is_name queue ≡ true
queue_name t j queue r e = grind arith

pub run_fits : (m : ℕ) (s : Sight) (t : Transition) (c : Rows) (task : List ℕ) (last : ℕ) → changes m s t ≡ Some c → is_in_range t ≡ true → (held s.rows.job t).task ≡ Some task → c.last_run ≡ Some last → (is_name task && is_moment last) ≡ true
run_fits m s t c task last h r e l = grind arith

-- a run that names a job finds it
pub run_job : (m : ℕ) (s : Sight) (t : Transition) (c : Rows) (task : List ℕ) (id : ℕ) → changes m s t ≡ Some c → (held s.rows.job t).task ≡ Some task → job_named t ≡ Some id → is_some c.job ≡ true
run_job m s t c task id h e named = grind arith

-- the last run is at this time or later
abbrev pub has_run : ℕ → Option ℕ → Bool
has_run time None = false
has_run time (Some last) = nat_le time last

pub still_run : (m : ℕ) (s : Sight) (t : Transition) (c : Rows) (time : ℕ) → changes m s t ≡ Some c → has_run time s.rows.last_run ≡ true → has_run time c.last_run ≡ true
still_run m s t c time h before = grind arith
