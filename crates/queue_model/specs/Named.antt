-- The numbers that a transition names, and what becomes of the next ones.
use Rattle.std.specs.Prelude.{ℕ, ◌+◌, max, Option, None, Some}
use Rattle.job_states.specs.declared.transition.Put.{Put}
use Rattle.job_states.specs.declared.transition.Put.TheVariants.{Ready}
use Rattle.job_states.specs.declared.transition.Transition.{Transition}
use Rattle.job_states.specs.declared.transition.Transition.TheVariants.{Enqueue, Dispatch, Claim, Done, Fail, Release, Unblock, Retry, Discard, Clear, Register, Beat, Deregister, Run}
use Rattle.queue_model.specs.declared.Numbers.{Numbers}

abbrev pub job_named : Transition → Option ℕ
job_named (Enqueue row put) = Some row.id
job_named (Dispatch id put) = Some id
job_named (Claim id pid) = Some id
job_named (Done id) = Some id
job_named (Fail id error message counters) = Some id
job_named (Release id) = Some id
job_named (Unblock id generation) = Some id
job_named (Retry id put) = Some id
job_named (Discard id) = Some id
job_named (Clear id) = Some id
job_named (Run task time id) = id
job_named t = None

abbrev pub pid_named : Transition → Option ℕ
pid_named (Claim id pid) = Some pid
pid_named (Register pid kind name) = Some pid
pid_named (Beat pid) = Some pid
pid_named (Deregister pid) = Some pid
pid_named t = None

abbrev pub put_named : Put → Option ℕ
put_named (Ready permit) = permit
put_named put = None

abbrev pub generation_named : Transition → Option ℕ
generation_named (Enqueue row put) = put_named put
generation_named (Dispatch id put) = put_named put
generation_named (Unblock id generation) = Some generation
generation_named (Retry id put) = put_named put
generation_named t = None

-- the next number, once this one is named
abbrev pub above : ℕ → Option ℕ → ℕ
above next None = next
above next (Some n) = max next (n + 1)

-- each next number is above the one that is named, and the last moment isn't before this one
abbrev pub noted : Numbers → ℕ → Transition → Numbers
noted n m t = record { job = above n.job (job_named t); pid = above n.pid (pid_named t); generation = above n.generation (generation_named t); moment = max n.moment m }
