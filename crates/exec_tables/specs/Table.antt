-- Tables as a contract sees them: their rows, and for how many more there is room.
use Rattle.std.specs.Prelude.{ℕ}
use Rattle.std.specs.Ordering.{nat_cmp}
use Rattle.queue_model.specs.Map.{Map}
use Rattle.queue_model.specs.World.{text_cmp, run_cmp}
use Rattle.queue_model.specs.declared.Job.{Job}

-- the jobs, by number
pub record JobTable : Type 0 where
  pub rows : Map nat_cmp Job
  pub room : ℕ

-- the runs of tasks
pub record RunTable : Type 0 where
  -- by task
  pub last : Map text_cmp ℕ
  -- the recurring executions
  pub recurring : Map run_cmp ℕ
  pub room : ℕ
