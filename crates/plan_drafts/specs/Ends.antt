-- A draft that ends jobs, one after another.
use Rattle.std.specs.Prelude.{Bool, true, false, IsTrue, List, filter, Option, None, Some}
use Rattle.job_states.specs.States.{stage_of, is_blocked}
use Rattle.job_states.specs.declared.transition.Transition.{Transition}
use Rattle.job_states.specs.declared.transition.Transition.TheVariants.{Done, Fail, Discard, Unblock}
use Rattle.queue_model.specs.Map as map
use Rattle.queue_model.specs.World.{World}
use Rattle.queue_model.specs.declared.Job.{Job}
use Rattle.plan_model.specs.Orders.{first_of}

-- the transition ends a job, or lets one go for it
abbrev pub is_ending : Transition → Bool
is_ending (Done id) = true
is_ending (Fail id error message counters) = true
is_ending (Discard id) = true
is_ending (Unblock id generation) = true
is_ending t = false

abbrev pub IsEnding : Transition → Type 0
IsEnding t = IsTrue (is_ending t)

-- the job is there, and waits for its key
abbrev pub waits : Option Job → Bool
waits None = false
waits (Some j) = is_blocked (Some (stage_of j.state))

-- the first of these jobs that waits in the world
abbrev pub first_waiting : World → List Job → Option Job
first_waiting w jobs = first_of (filter (λ j. waits (map.get w.jobs j.row.id)) jobs)
