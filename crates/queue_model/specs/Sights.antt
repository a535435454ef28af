-- What a transition reads and writes: what stands in the world at the rows that it holds.
use Rattle.std.specs.Prelude.{ℕ, not, List, Option, None, Some}
use Rattle.std.specs.declared.cmp.Ordering.{Ordering}
use Rattle.job_states.specs.declared.row.Mode.{Mode}
use Rattle.semaphores.specs.Semaphore.{Semaphore}
use Rattle.queue_model.specs.Chain.{◌>>=◌}
use Rattle.queue_model.specs.Held.{Held}
use Rattle.queue_model.specs.Map as map
use Rattle.queue_model.specs.Map.{Map}
use Rattle.queue_model.specs.World.{World, run_cmp, is_exactly, holders, claims}
use Rattle.queue_model.specs.declared.Job.{Job}
use Rattle.queue_model.specs.declared.Process.{Process}

-- what stands at each row that is held; nothing where no row of the kind is held
pub record Rows : Type 0 where
  pub job : Option Job
  -- at the key
  pub semaphore : Option Semaphore
  pub process : Option Process
  -- at the queue
  pub pause : Option (Unit {0})
  -- of the task
  pub last_run : Option ℕ

-- what a transition sees: these rows, and what is counted of them
pub record Sight : Type 0 where
  pub rows : Rows
  -- how many jobs hold a permit of the key and this generation
  pub holders : ℕ → ℕ
  -- how many jobs the process has claimed
  pub claims : ℕ

-- the number of the process that is held
abbrev pub pid_of : Option (ℕ × Mode) → Option ℕ
pid_of None = None
pid_of (Some process) = Some process.0

abbrev pub rows_at : World → Held → Rows
rows_at w h = record {
  job = h.job >>= map.get w.jobs;
  semaphore = h.key >>= map.get w.semaphores;
  process = pid_of h.process >>= map.get w.processes;
  pause = h.queue >>= map.get w.paused;
  last_run = h.task >>= map.get w.last_runs;
}

abbrev pub counted_at : {K : Type 0} → (K → ℕ) → Option K → ℕ
counted_at count None = 0
counted_at count (Some k) = count k

abbrev pub sees : World → Held → Sight
sees w h = record {
  rows = rows_at w h;
  holders = λ generation. counted_at (λ key. holders w key generation) h.key;
  claims = counted_at (claims w) (pid_of h.process);
}

-- ---- the world with other rows

-- the map with this at the key, where there is one
abbrev pub set : {K X : Type 0} {R : K → K → Ordering} → Map R X → Option K → Option X → Map R X
set m None x = m
set m (Some k) None = map.remove m k
set m (Some k) (Some x) = map.insert m k x

-- a job that goes takes its recurring executions with it
abbrev pub without_job : Map run_cmp ℕ → (id : Option ℕ) → Option Job → Map run_cmp ℕ
without_job recurring (Some id) None = map.retain_keys recurring (λ run. not (is_exactly id (map.get recurring run)))
without_job recurring id j = recurring

-- a task is held by its run alone, which gives the job that it names a recurring execution
abbrev pub with_run : Map run_cmp ℕ → (task : Option (List ℕ)) → (last_run : Option ℕ) → (id : Option ℕ) → Map run_cmp ℕ
with_run recurring (Some task) (Some time) (Some id) = map.insert recurring (task, time) id
with_run recurring task last_run id = recurring

-- the world with these rows in the place of those held
abbrev pub with_rows : World → Held → Rows → World
with_rows w h rows = record w {
  jobs = set w.jobs h.job rows.job;
  semaphores = set w.semaphores h.key rows.semaphore;
  processes = set w.processes (pid_of h.process) rows.process;
  paused = set w.paused h.queue rows.pause;
  last_runs = set w.last_runs h.task rows.last_run;
  recurring = with_run (without_job w.recurring h.job rows.job) h.task rows.last_run h.job;
}
