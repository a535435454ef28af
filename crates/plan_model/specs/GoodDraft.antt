-- What is true of a draft while it is made, also once numbers are spent.
use Rattle.std.specs.Prelude.{◌==◌, ◌≡◌, ◌≤◌, ◌<◌, ℕ, Bool, true, false, ◌&&◌, List, Option, None, Some, IsSome}
use Rattle.std.specs.List.{list_any}
use Rattle.job_states.specs.Length.{is_name}
use Rattle.job_states.specs.Ranges.{is_message, are_counters}
use Rattle.job_states.specs.States.{stage_of}
use Rattle.job_states.specs.declared.transition.Transition.{Transition}
use Rattle.job_states.specs.declared.transition.Transition.TheVariants.{Done, Fail, Release, Discard, Register, Beat, Deregister}
use Rattle.semaphores.specs.Semaphore.{Semaphore}
use Rattle.queue_model.specs.Held.{holds}
use Rattle.queue_model.specs.Map as map
use Rattle.queue_model.specs.Sights.{sees}
use Rattle.queue_model.specs.Transitions.{changes}
use Rattle.queue_model.specs.World.{World, holders}
use Rattle.queue_model.specs.declared.Job.{Job}
use Rattle.queue_model.specs.declared.Numbers.{Numbers}
use Rattle.plan_model.specs.Drafts.{Draft}
use Rattle.plan_model.specs.JobCommands.{may_discard}

-- the transition is legal where the draft stands, its ranges left open
pub record IsAllowed (m : ℕ) (d : Draft) (t : Transition) : Type 0 where
  pub legal : IsSome (changes m (sees d.world (holds d.world t)) t)

-- no number that is yet to be given is in the world
pub record IsFresh (w : World) (given : Numbers) : Type 0 where
  pub jobs : (id : ℕ) → given.job ≤ id → map.get w.jobs id ≡ None
  pub processes : (pid : ℕ) → given.pid ≤ pid → map.get w.processes pid ≡ None
  pub permits : (key : List ℕ) (generation : ℕ) → given.generation ≤ generation → holders w key generation ≡ 0
  pub semaphores : (key : List ℕ) (s : Semaphore) → map.get w.semaphores key ≡ Some s → s.generation < given.generation

-- the job is there, and may be discarded
abbrev pub may_go : Option Job → Bool
may_go None = false
may_go (Some j) = may_discard (Some (stage_of j.state))

-- the number is one of these
abbrev pub is_moved : (moved : List ℕ) → (id : ℕ) → Bool
is_moved moved id = list_any (λ other. other == id) moved

-- ---- kinds of transitions

-- the transition ends its job, and what it reports is within its ranges
abbrev pub is_end : Transition → Bool
is_end (Done id) = true
is_end (Fail id error message counters) = is_name error && is_message message && are_counters counters
is_end (Discard id) = true
is_end t = false

-- the transition takes its job out of a claim
abbrev pub ends_claim : Transition → Bool
ends_claim (Done id) = true
ends_claim (Fail id error message counters) = true
ends_claim (Release id) = true
ends_claim t = false

-- the transition makes a process, changes it or removes it
abbrev pub moves_process : Transition → Bool
moves_process (Register pid kind name) = true
moves_process (Beat pid) = true
moves_process (Deregister pid) = true
moves_process t = false
