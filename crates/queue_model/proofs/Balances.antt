-- At the key that it holds, each legal transition keeps the sum of free permits and holders, case by case.
use Rattle.std.proofs.Common.{◌≡◌, ◌+◌, ◌≤◌, ℕ, List, Option, None, Some, arith}
use Rattle.job_states.specs.declared.job.Limited.{Limited}
use Rattle.job_states.specs.declared.transition.Put.TheVariants.{Ready}
use Rattle.job_states.specs.declared.transition.Transition.{Transition}
use Rattle.job_states.specs.declared.transition.Transition.TheVariants.{Enqueue, Dispatch, Retry}
use Rattle.semaphores.specs.Semaphore.{Semaphore}
use Rattle.queue_model.specs.Held.{held}
use Rattle.queue_model.specs.Sights.{Rows, Sight}
use Rattle.queue_model.specs.Transitions.{changes}
use Rattle.queue_model.specs.World.{is_holder}
use Rattle.queue_model.specs.declared.Job.{Job}
use Rattle.queue_model.proofs.Cases.{bytes_same}
use Rattle.queue_model.proofs.Frames.{one}

-- the free permits of a semaphore and so many holders are its limit
abbrev pub AddsUp : (holders : ℕ → ℕ) → Semaphore → Type 0
AddsUp holders s = s.free + holders s.generation ≡ s.limit

abbrev pub some_permit : Option Limited → Type 0
some_permit None = Unit {0}
some_permit (Some limited) = 1 ≤ limited.to

-- the limit that the transition's job is under
abbrev pub limit_of : Transition → Option Job → Option Limited
limit_of (Enqueue r put) j = r.limited
limit_of t None = None
limit_of t (Some j) = j.row.limited

-- the holder that comes is in the place of the one that goes, or of a permit that was free
pub balanced : (m : ℕ) (s : Sight) (t : Transition) (c : Rows) (k : List ℕ) (new : Semaphore) → changes m s t ≡ Some c → ((x : Semaphore) → s.rows.semaphore ≡ Some x → AddsUp s.holders x) → one (is_holder k new.generation) s.rows.job ≤ s.holders new.generation → some_permit (limit_of t s.rows.job) → (held s.rows.job t).key ≡ Some k → c.semaphore ≡ Some new → new.free + s.holders new.generation + one (is_holder k new.generation) c.job ≡ new.limit + one (is_holder k new.generation) s.rows.job
balanced m s (Enqueue r (Ready permit)) c k new h up counted some e is = grind (arith, bytes_same)
balanced m s (Enqueue r put) c k new h up counted some e is = grind (arith, bytes_same)
balanced m s (Dispatch id (Ready permit)) c k new h up counted some e is = grind (arith, bytes_same)
balanced m s (Dispatch id put) c k new h up counted some e is = grind (arith, bytes_same)
balanced m s (Retry id (Ready permit)) c k new h up counted some e is = grind (arith, bytes_same)
balanced m s (Retry id put) c k new h up counted some e is = grind (arith, bytes_same)
balanced m s t c k new h up counted some e is = grind (arith, bytes_same)
