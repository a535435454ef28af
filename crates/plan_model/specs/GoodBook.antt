-- What is true of every book: what was planned is still legal, whatever was applied since.
use Rattle.std.specs.Prelude.{◌≡◌, ◌≢◌, ◌+◌, ◌≤◌, ℕ, None, Some}
use Rattle.job_states.specs.Moment.{IsMoment}
use Rattle.queue_model.specs.Footprints.{IsPlanned, new_claims}
use Rattle.queue_model.specs.GoodWorld.{IsGood, IsNext}
use Rattle.queue_model.specs.Map as map
use Rattle.queue_model.specs.World.{World}
use Rattle.queue_model.specs.declared.Numbers.{Numbers}
use Rattle.row_locks.specs.Footprints.{AreCompatible}
use Rattle.plan_model.specs.Books.{Book, claims_kept, given_by}
use Rattle.plan_model.specs.Plans.{Plan, IsTold}

-- the plan is legal in this world, and its rows cover it
abbrev pub IsLegalIn : World → Plan → Type 0
IsLegalIn w plan = (end : World) × IsPlanned w plan.tx plan.rows end

-- the numbers that are given next, and the greatest moment, aren't below these
pub record AreAbove (least given : Numbers) : Type 0 where
  pub job : least.job ≤ given.job
  pub pid : least.pid ≤ given.pid
  pub generation : least.generation ≤ given.generation
  pub moment : least.moment ≤ given.moment

pub record IsOpenPlan (b : Book) (plan : Plan) : Type 0 where
  pub legal : IsLegalIn b.world plan
  pub told : IsTold plan
  -- the numbers that it names are given
  pub given : given_by plan.tx b.given ≡ b.given

pub record IsGoodBook (b : Book) : Type 0 where
  pub world : IsGood b.world
  pub plans : (seat : ℕ) (plan : Plan) → map.get b.open_plans seat ≡ Some plan → IsOpenPlan b plan
  -- what one holds goes together with what any other holds
  pub compatible : (seat other : ℕ) (plan theirs : Plan) → seat ≢ other → map.get b.open_plans seat ≡ Some plan → map.get b.open_plans other ≡ Some theirs → AreCompatible plan.rows theirs.rows
  -- of each process, those of open plans counted in
  pub few_claims : (pid : ℕ) → claims_kept b pid ≤ 500
  pub given : AreAbove b.world.numbers b.given
  pub next_job : IsNext b.given.job
  pub next_pid : IsNext b.given.pid
  pub next_generation : IsNext b.given.generation
  pub moment : IsMoment b.given.moment

-- the plan may be opened at the seat, unless another seat holds one of its rows
pub record MayOpen (b : Book) (seat : ℕ) (plan : Plan) : Type 0 where
  pub vacant : map.get b.open_plans seat ≡ None
  pub legal : IsLegalIn b.world plan
  pub told : IsTold plan
  pub few_claims : (pid : ℕ) → claims_kept b pid + new_claims pid plan.tx.steps ≤ 500
