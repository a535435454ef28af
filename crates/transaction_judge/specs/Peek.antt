-- What stands at rows that a later transition holds.
use Rattle.std.specs.Prelude.{◌≡◌, ℕ, Bool, false, Option, None, Some, is_some}
use Rattle.std.specs.Ordering.{eq_by_cmp}
use Rattle.std.specs.declared.cmp.Ordering.{Ordering}
use Rattle.queue_model.specs.Held.{Held}
use Rattle.queue_model.specs.Sights.{counted_at, pid_of}
use Rattle.queue_model.specs.World.{World, holders, claims}
use Rattle.exec_tables.specs.Apply.{row_at}
use Rattle.transaction_judge.specs.declared.after.Peek.{Peek}

pub record Peeks (w : World) (h : Held) (generation : ℕ) (p : Peek) : Type 0 where
  pub semaphore : p.semaphore ≡ row_at h.key w.semaphores
  pub holders_are : p.holders ≡ counted_at (λ k. holders w k generation) h.key
  pub registered : p.is_registered ≡ is_some (row_at (pid_of h.process) w.processes)
  pub claims_are : p.claims ≡ counted_at (claims w) (pid_of h.process)
  pub paused : p.is_paused ≡ is_some (row_at h.queue w.paused)
  pub last_run : p.last_run ≡ row_at h.task w.last_runs

-- is the row that is asked the one that is held?
abbrev pub is_at : {K : Type 0} → (K → K → Ordering) → (asked held : Option K) → Bool
is_at R (Some a) (Some k) = eq_by_cmp R a k
is_at R a k = false
