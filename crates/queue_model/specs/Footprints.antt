-- Footprints: the rows, with modes, that a planned transaction holds. When one covers a transaction, and which worlds are the
-- same at one. Two footprints go together where they are `AreCompatible`, as row locks say it.
use Rattle.std.specs.Prelude.{◌≡◌, ◌⊎◌, ◌==◌, ◌+◌, ℕ, if◌then◌else◌, List, [], ◌∷◌, Some, Contains}
use Rattle.job_states.specs.declared.row.Mode.{Mode}
use Rattle.job_states.specs.declared.row.Mode.TheVariants.{Shared, Alone}
use Rattle.job_states.specs.declared.row.Row.{Row}
use Rattle.job_states.specs.declared.row.Row.TheVariants.{Job, Key, Process, Queue, Task}
use Rattle.job_states.specs.declared.transition.Transaction.{Transaction}
use Rattle.job_states.specs.declared.transition.Transition.{Transition}
use Rattle.job_states.specs.declared.transition.Transition.TheVariants.{Claim}
use Rattle.queue_model.specs.Held.{Held, holds, held_rows}
use Rattle.queue_model.specs.Map as map
use Rattle.queue_model.specs.Replay.{after}
use Rattle.queue_model.specs.Transitions.{step}
use Rattle.queue_model.specs.World.{World, holders, claims}

-- the footprint has the row, in this mode or alone
abbrev pub IsHeldIn : List (Row × Mode) → Row → Mode → Type 0
IsHeldIn footprint row mode = Contains footprint (row, mode) ⊎ Contains footprint (row, Alone)

-- it has each row that is held
abbrev pub Covers : List (Row × Mode) → Held → Type 0
Covers footprint h = (r : Row) (mode : Mode) → Contains (held_rows h) (r, mode) → IsHeldIn footprint r mode

-- it covers each transition in the world that those before it give
abbrev pub CoversAll : List (Row × Mode) → World → ℕ → List Transition → Type 0
CoversAll footprint w m [] = Unit {0}
CoversAll footprint w m (t ∷ ts) = Covers footprint (holds w t) × ((v : World) → step w m t ≡ Some v → CoversAll footprint v m ts)

-- the transaction is legal, leaves this world, and is covered
pub record IsPlanned (w : World) (tx : Transaction) (footprint : List (Row × Mode)) (end : World) : Type 0 where
  pub legal : after w tx ≡ Some end
  pub covered : CoversAll footprint w tx.moment tx.steps

-- the worlds have the same at this row: who shares a process knows that it is there, who has it alone knows its claims too
abbrev pub SameAt : World → World → Row → Mode → Type 0
SameAt w v (Job id) mode = map.get w.jobs id ≡ map.get v.jobs id
SameAt w v (Key key) mode = (map.get w.semaphores key ≡ map.get v.semaphores key) × ((generation : ℕ) → holders w key generation ≡ holders v key generation)
SameAt w v (Process pid) Shared = map.get w.processes pid ≡ map.get v.processes pid
SameAt w v (Process pid) Alone = (map.get w.processes pid ≡ map.get v.processes pid) × (claims w pid ≡ claims v pid)
SameAt w v (Queue queue) mode = map.get w.paused queue ≡ map.get v.paused queue
SameAt w v (Task task) mode = map.get w.last_runs task ≡ map.get v.last_runs task

abbrev pub Same : World → World → List (Row × Mode) → Type 0
Same w v footprint = (r : Row) (mode : Mode) → Contains footprint (r, mode) → SameAt w v r mode

-- 1 for a Claim by the process
abbrev pub claims_by : ℕ → Transition → ℕ
claims_by pid (Claim id p) = if p == pid then 1 else 0
claims_by pid t = 0

-- how many of the transitions are one
abbrev pub new_claims : ℕ → List Transition → ℕ
new_claims pid [] = 0
new_claims pid (t ∷ ts) = claims_by pid t + new_claims pid ts
