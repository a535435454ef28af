-- What is true of every situation: whatever was planned is still legal.
use Rattle.std.specs.Prelude.{◌≡◌, ◌≢◌, ◌<◌, ℕ, Option, None, Some, IsSome, Contains}
use Rattle.std.specs.Option.{ForSome}
use Rattle.job_states.specs.declared.transition.Transition.{Transition}
use Rattle.job_states.specs.declared.transition.Transition.TheVariants.{Enqueue, Register}
use Rattle.queue_model.specs.Map as map
use Rattle.queue_model.specs.Replay.{replay}
use Rattle.queue_model.specs.World.{World}
use Rattle.plan_model.specs.GoodBook.{IsGoodBook}
use Rattle.plan_model.specs.Plans.{Plan}
use Rattle.situation_model.specs.Situations.{Situation, open_at}

-- ---- what a plan makes

abbrev pub job_made : Transition → Option ℕ
job_made (Enqueue row put) = Some row.id
job_made t = None

abbrev pub pid_made : Transition → Option ℕ
pid_made (Register pid kind name) = Some pid
pid_made t = None

-- a transition of the plan makes what has this number
abbrev pub Makes : (made : Transition → Option ℕ) → (number : ℕ) → Plan → Type 0
Makes made number plan = (t : Transition) × Contains plan.tx.steps t × (made t ≡ Some number)

-- no job or process that the plan makes is in the world
pub record IsNewTo (w : World) (plan : Plan) : Type 0 where
  pub jobs : (id : ℕ) → Makes job_made id plan → map.get w.jobs id ≡ None
  pub processes : (pid : ℕ) → Makes pid_made pid plan → map.get w.processes pid ≡ None

-- ---- situations

pub record IsGoodSituation (s : Situation) : Type 0 where
  pub book : IsGoodBook s.book
  -- the record in doubt is legal in the world
  pub doubt : ForSome s.doubt (λ txs. IsSome (replay s.book.world txs))
  pub seats : (seat : ℕ) (plan : Plan) → open_at s seat ≡ Some plan → seat < 64
  pub new : (seat : ℕ) (plan : Plan) → open_at s seat ≡ Some plan → IsNewTo s.book.world plan

-- the second differs from the first in what is open at the seat, and in nothing else
pub record DiffersAt (seat : ℕ) (s t : Situation) : Type 0 where
  pub world : t.book.world ≡ s.book.world
  pub given : t.book.given ≡ s.book.given
  pub doubt : t.doubt ≡ s.doubt
  pub others : (other : ℕ) → other ≢ seat → open_at t other ≡ open_at s other
