-- What comes of opening a plan, and of applying one; which jobs are on offer.
use Rattle.std.specs.Prelude.{◌≡◌, ℕ, Bool, false, ◌&&◌, Option, None, Some, is_none}
use Rattle.job_states.specs.States.{stage_of, is_ready}
use Rattle.job_states.specs.declared.answer.Answer.{Answer}
use Rattle.job_states.specs.declared.answer.Refused.{Refused}
use Rattle.job_states.specs.declared.answer.Refused.TheVariants.{Locked, NoMemory}
use Rattle.job_states.specs.declared.row.Mode.TheVariants.{Alone}
use Rattle.job_states.specs.declared.row.Row.TheVariants as row
use Rattle.queue_model.specs.Map as map
use Rattle.queue_model.specs.Replay.{after}
use Rattle.queue_model.specs.declared.Job.{Job}
use Rattle.plan_model.specs.Books.{Book, with_applied}
use Rattle.plan_model.specs.Plans.{Plan}
use Rattle.plan_model.specs.Scenes.{is_free}
use Rattle.row_locks.specs.declared.locks.TakeFault.{TakeFault}
use Rattle.row_locks.specs.declared.locks.TakeFault.TheVariants as fault

abbrev pub refusal : TakeFault → Refused
refusal (fault.Held row by) = Locked row by
refusal fault.NoMemory = NoMemory

-- a row is held by another seat, or, where none is, there was no memory
abbrev pub IsOpenFault : (locked : Option Refused) → Refused → Type 0
IsOpenFault locked NoMemory = locked ≡ None
IsOpenFault locked refused = locked ≡ Some refused

-- the plan of the seat is applied, and its answer given
pub record Applies (old : Book) (seat : ℕ) (new : Book) (answer : Answer) : Type 0 where
  pub plan : Plan
  pub opened : map.get old.open_plans seat ≡ Some plan
  pub world : after old.world plan.tx ≡ Some new.world
  pub book : new ≡ with_applied old seat new.world
  pub answered : answer ≡ plan.answer

-- the job is ready, its queue isn't paused, and no open plan holds its row
abbrev pub is_offered : Book → (id : ℕ) → Bool
is_offered b id = by (map.get b.world.jobs id)
  where
    by : Option Job → Bool
    by None = false
    by (Some j) = is_ready (Some (stage_of j.state)) && is_none (map.get b.world.paused j.row.queue) && is_free b (row.Job id) Alone
