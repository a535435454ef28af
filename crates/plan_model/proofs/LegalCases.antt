-- Transitions that are legal by what they see, case by case.
use Rattle.std.proofs.Common.{◌≡◌, ◌<◌, ℕ, Bool, true, ◌&&◌, not, nat_lt, List, Option, None, Some, is_some, arith}
use Rattle.std.specs.Prelude.{◌==◌}
use Rattle.job_states.specs.States.{stage_of, is_ready, is_blocked, is_claimed, is_finished}
use Rattle.job_states.specs.declared.command.Kind.{Kind}
use Rattle.job_states.specs.declared.job.JobRow.{JobRow}
use Rattle.job_states.specs.declared.job.Limited.{Limited}
use Rattle.job_states.specs.declared.transition.Counters.{Counters}
use Rattle.job_states.specs.declared.transition.Put.TheVariants.{Scheduled}
use Rattle.job_states.specs.declared.transition.Transition.TheVariants.{Enqueue, Claim, Done, Fail, Release, Unblock, Clear, Register, Beat, Deregister, Pause, Resume}
use Rattle.semaphores.specs.Semaphore.{Semaphore}
use Rattle.queue_model.specs.Sights.{Sight}
use Rattle.queue_model.specs.Transitions.{changes}
use Rattle.queue_model.specs.declared.Job.{Job}

-- a permit of this generation can be taken: of a semaphore that has one, or of a new one
abbrev pub can_take : Option Semaphore → (generation holders : ℕ) → Bool
can_take None generation holders = holders == 0
can_take (Some s) generation holders = s.generation == generation && not (s.free == 0)

-- ---- claims

pub claim : (m : ℕ) (s : Sight) (id pid : ℕ) (j : Job) → s.rows.job ≡ Some j → is_ready (Some (stage_of j.state)) ≡ true → is_some s.rows.process ≡ true → s.claims < 500 → is_some (changes m s (Claim id pid)) ≡ true
claim m s id pid j a b c d = grind arith

pub done : (m : ℕ) (s : Sight) (id : ℕ) (j : Job) → s.rows.job ≡ Some j → is_claimed (Some (stage_of j.state)) ≡ true → is_some (changes m s (Done id)) ≡ true
done m s id j a b = grind arith

pub fail : (m : ℕ) (s : Sight) (id : ℕ) (error message : List ℕ) (counters : Option Counters) (j : Job) → s.rows.job ≡ Some j → is_claimed (Some (stage_of j.state)) ≡ true → is_some (changes m s (Fail id error message counters)) ≡ true
fail m s id error message counters j a b = grind arith

pub release : (m : ℕ) (s : Sight) (id : ℕ) (j : Job) → s.rows.job ≡ Some j → is_claimed (Some (stage_of j.state)) ≡ true → is_some (changes m s (Release id)) ≡ true
release m s id j a b = grind arith

pub clear : (m : ℕ) (s : Sight) (id : ℕ) (j : Job) → s.rows.job ≡ Some j → is_finished (Some (stage_of j.state)) ≡ true → is_some (changes m s (Clear id)) ≡ true
clear m s id j a b = grind arith

-- ---- permits

pub unblock : (m : ℕ) (s : Sight) (id generation : ℕ) (j : Job) (limited : Limited) → s.rows.job ≡ Some j → is_blocked (Some (stage_of j.state)) ≡ true → j.row.limited ≡ Some limited → can_take s.rows.semaphore generation (s.holders generation) ≡ true → is_some (changes m s (Unblock id generation)) ≡ true
unblock m s id generation j limited a b c d = grind arith

pub enqueue_later : (m : ℕ) (s : Sight) (row : JobRow) (at : ℕ) → s.rows.job ≡ None → nat_lt m at ≡ true → is_some (changes m s (Enqueue row (Scheduled at))) ≡ true
enqueue_later m s row at a b = grind arith

-- ---- processes and queues

pub register : (m : ℕ) (s : Sight) (pid : ℕ) (kind : Kind) (name : List ℕ) → s.rows.process ≡ None → is_some (changes m s (Register pid kind name)) ≡ true
register m s pid kind name a = grind arith

pub beat : (m : ℕ) (s : Sight) (pid : ℕ) → is_some s.rows.process ≡ true → is_some (changes m s (Beat pid)) ≡ true
beat m s pid a = grind arith

pub deregister : (m : ℕ) (s : Sight) (pid : ℕ) → is_some s.rows.process ≡ true → s.claims ≡ 0 → is_some (changes m s (Deregister pid)) ≡ true
deregister m s pid a b = grind arith

pub pause : (m : ℕ) (s : Sight) (queue : List ℕ) → s.rows.pause ≡ None → is_some (changes m s (Pause queue)) ≡ true
pause m s queue a = grind arith

pub resume : (m : ℕ) (s : Sight) (queue : List ℕ) → is_some s.rows.pause ≡ true → is_some (changes m s (Resume queue)) ≡ true
resume m s queue a = grind arith
