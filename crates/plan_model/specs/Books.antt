-- The store with the plans that are open on it.
use Rattle.std.specs.Prelude.{◌+◌, ℕ, length, max, fold}
use Rattle.std.specs.List.{sum_by}
use Rattle.std.specs.Ordering.{nat_cmp}
use Rattle.job_states.specs.declared.transition.Transaction.{Transaction}
use Rattle.queue_model.specs.Footprints.{new_claims}
use Rattle.queue_model.specs.Map as map
use Rattle.queue_model.specs.Named.{noted}
use Rattle.queue_model.specs.World.{World, claims}
use Rattle.queue_model.specs.declared.Numbers.{Numbers}
use Rattle.plan_model.specs.Plans.{Plan, how_many, is_enqueue, is_register}

pub record Book : Type 0 where
  pub world : World
  -- by seat
  pub open_plans : map.Map nat_cmp Plan
  -- the numbers that are given next, those of plans that went included, and the greatest moment given
  pub given : Numbers

-- nothing is open
abbrev pub opened_over : World → Book
opened_over w = record { world = w; open_plans = map.empty; given = w.numbers }

-- ---- a plan is opened, and ends

-- the numbers that it names are given, and its moment is the greatest one given, if it isn't below that
abbrev pub given_by : Transaction → Numbers → Numbers
given_by tx given = fold (λ n t. noted n tx.moment t) (record given { moment = max given.moment tx.moment }) tx.steps

abbrev pub with_plan : Book → (seat : ℕ) → Plan → Book
with_plan b seat plan = record b { open_plans = map.insert b.open_plans seat plan; given = given_by plan.tx b.given }

-- the numbers that it names stay given
abbrev pub without_plan : Book → (seat : ℕ) → Book
without_plan b seat = record b { open_plans = map.remove b.open_plans seat }

-- this is the world once the seat's plan is applied
abbrev pub with_applied : Book → (seat : ℕ) → (end : World) → Book
with_applied b seat end = record (without_plan b seat) { world = end }

-- ---- what is counted, open plans counted in

abbrev pub in_plans : Book → (Plan → ℕ) → ℕ
in_plans b count = sum_by count (map.values b.open_plans)

abbrev pub jobs_kept : Book → ℕ
jobs_kept b = length b.world.jobs.entries + in_plans b (how_many is_enqueue)

abbrev pub processes_kept : Book → ℕ
processes_kept b = length b.world.processes.entries + in_plans b (how_many is_register)

abbrev pub claims_kept : Book → (pid : ℕ) → ℕ
claims_kept b pid = claims b.world pid + in_plans b (λ plan. new_claims pid plan.tx.steps)
