-- The store as a contract sees it.
use Rattle.std.specs.Prelude.{ℕ}
use Rattle.queue_model.specs.World.{World}

pub record Store : Type 0 where
  pub world : World
  -- for how many more transitions there is room
  pub spare : ℕ
