-- Where a job stands, and where it must stand before a transition.
use Rattle.std.specs.Prelude.{ℕ, Bool, true, false, ◌||◌, is_none, Option, None, Some, Result, Ok, Err}
use Rattle.job_states.specs.declared.job.Stage.{Stage}
use Rattle.job_states.specs.declared.job.Stage.TheVariants as stage
use Rattle.job_states.specs.declared.job.State.{State}
use Rattle.job_states.specs.declared.job.State.TheVariants.{Scheduled, Ready, Blocked, Claimed, Failed, Finished}
use Rattle.job_states.specs.declared.transition.Transition.{Transition}
use Rattle.job_states.specs.declared.transition.Transition.TheVariants.{Enqueue, Dispatch, Claim, Done, Fail, Release, Unblock, Retry, Discard, Clear}
use Rattle.job_states.specs.declared.transition.WrongState.{WrongState}

-- a state without its values
abbrev pub stage_of : State → Stage
stage_of (Scheduled at) = stage.Scheduled
stage_of (Ready permit) = stage.Ready
stage_of (Blocked until) = stage.Blocked
stage_of (Claimed pid permit) = stage.Claimed
stage_of (Failed error message) = stage.Failed
stage_of (Finished at) = stage.Finished

-- the generation of the permit that a job in this state holds
abbrev pub permit_of : State → Option ℕ
permit_of (Ready permit) = permit
permit_of (Claimed pid permit) = permit
permit_of state = None

-- ---- the stage before a transition; none where there is no such job

abbrev pub is_scheduled : Option Stage → Bool
is_scheduled (Some stage.Scheduled) = true
is_scheduled before = false

abbrev pub is_ready : Option Stage → Bool
is_ready (Some stage.Ready) = true
is_ready before = false

abbrev pub is_blocked : Option Stage → Bool
is_blocked (Some stage.Blocked) = true
is_blocked before = false

abbrev pub is_claimed : Option Stage → Bool
is_claimed (Some stage.Claimed) = true
is_claimed before = false

abbrev pub is_failed : Option Stage → Bool
is_failed (Some stage.Failed) = true
is_failed before = false

abbrev pub is_finished : Option Stage → Bool
is_finished (Some stage.Finished) = true
is_finished before = false

-- the job that a transition moves, and whether this is the stage that it takes it from; no other transition moves a job
abbrev pub taken_from : Option Stage → Transition → Option (ℕ × Bool)
taken_from before (Enqueue row put) = Some (row.id, is_none before)
taken_from before (Dispatch id put) = Some (id, is_scheduled before)
taken_from before (Claim id pid) = Some (id, is_ready before)
taken_from before (Done id) = Some (id, is_claimed before)
taken_from before (Fail id error message counters) = Some (id, is_claimed before)
taken_from before (Release id) = Some (id, is_claimed before)
taken_from before (Unblock id generation) = Some (id, is_blocked before)
taken_from before (Retry id put) = Some (id, is_failed before)
taken_from before (Discard id) = Some (id, is_scheduled before || is_ready before || is_blocked before || is_failed before)
taken_from before (Clear id) = Some (id, is_finished before)
taken_from before transition = None

-- the stage is the one that is needed, or it is told with the job's number
abbrev pub unless_wrong : Option Stage → Option (ℕ × Bool) → Result (Unit {0}) WrongState
unless_wrong before None = Ok tt
unless_wrong before (Some (id, true)) = Ok tt
unless_wrong before (Some (id, false)) = Err (record { id = id; state = before })

abbrev pub check_of : Transition → Option Stage → Result (Unit {0}) WrongState
check_of transition before = unless_wrong before (taken_from before transition)
