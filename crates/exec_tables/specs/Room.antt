-- For so many more transitions there is room in each table: a transition adds a row at most to each, and writes one text at most.
use Rattle.std.specs.Prelude.{ℕ, ◌≤◌}

pub record HasRoom (spare jobs semaphores processes pauses runs blanks : ℕ) : Type 0 where
  pub for_jobs : spare ≤ jobs
  pub for_semaphores : spare ≤ semaphores
  pub for_processes : spare ≤ processes
  pub for_pauses : spare ≤ pauses
  pub for_runs : spare ≤ runs
  pub for_texts : spare ≤ blanks
