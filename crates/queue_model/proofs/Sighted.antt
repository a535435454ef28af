-- A transition reads only the rows that it holds.
use Rattle.std.proofs.Common.{◌≡◌, ℕ, List, Option, None, Some, ap, sym, ◌∙◌, refl, ⊎_elim}
use mathlib.Core.Path.{fun_ext}
use Rattle.job_states.specs.declared.row.Mode.{Mode}
use Rattle.job_states.specs.declared.row.Mode.TheVariants.{Shared, Alone}
use Rattle.job_states.specs.declared.row.Row.{Row}
use Rattle.job_states.specs.declared.row.Row.TheVariants as row
use Rattle.job_states.specs.declared.transition.Transition.{Transition}
use Rattle.queue_model.specs.Chain.{◌>>=◌}
use Rattle.queue_model.specs.Footprints.{Same, IsHeldIn, Covers}
use Rattle.queue_model.specs.Held.{Held, held, holds}
use Rattle.queue_model.specs.Map as map
use Rattle.queue_model.specs.Sights.{Rows, rows_at, sees, counted_at, pid_of}
use Rattle.queue_model.specs.Transitions.{changes}
use Rattle.queue_model.specs.World.{World, holders}
use Rattle.queue_model.proofs.Cases.{Allows, allowed}
use Rattle.queue_model.proofs.Covered.{parts}

-- the worlds are the same at what is held, the claims of its process aside
pub record SameHeld (w v : World) (h : Held) : Type 0 where
  pub rows : rows_at v h ≡ rows_at w h
  pub holders : (key : List ℕ) → h.key ≡ Some key → (generation : ℕ) → holders v key generation ≡ holders w key generation

-- a look-up at a row that is held, where all such look-ups are the same
same_at : {K X : Type 0} (f g : K → Option X) (o : Option K) → ((k : K) → o ≡ Some k → f k ≡ g k) → (o >>= g) ≡ (o >>= f)
same_at f g None same = refl
same_at f g (Some k) same = sym (same k refl)

same_count : {K : Type 0} (f g : K → ℕ) (o : Option K) → ((k : K) → o ≡ Some k → f k ≡ g k) → counted_at f o ≡ counted_at g o
same_count f g None same = refl
same_count f g (Some k) same = same k refl

-- the process that stands in a footprint, in its mode or alone
same_process : (w v : World) (footprint : List (Row × Mode)) → Same w v footprint → (pid : ℕ) (mode : Mode) → IsHeldIn footprint (row.Process pid) mode → map.get w.processes pid ≡ map.get v.processes pid
same_process w v footprint same pid Shared h = ⊎_elim (λ c. same (row.Process pid) Shared c) (λ c. (same (row.Process pid) Alone c).0) h
same_process w v footprint same pid Alone h = ⊎_elim (λ c. (same (row.Process pid) Alone c).0) (λ c. (same (row.Process pid) Alone c).0) h

pub same_held : (w v : World) (footprint : List (Row × Mode)) (h : Held) → Same w v footprint → Covers footprint h → SameHeld w v h
same_held w v footprint h same whole = let covers = parts h footprint whole in record {
  rows = λ i. record {
    job = same_at (map.get w.jobs) (map.get v.jobs) h.job (λ id e. same (row.Job id) Alone (covers.job id e)) i;
    semaphore = same_at (map.get w.semaphores) (map.get v.semaphores) h.key (λ k e. (same (row.Key k) Alone (covers.key k e)).0) i;
    process = by h.process covers.process i;
    pause = same_at (map.get w.paused) (map.get v.paused) h.queue (λ q e. same (row.Queue q) Alone (covers.queue q e)) i;
    last_run = same_at (map.get w.last_runs) (map.get v.last_runs) h.task (λ t e. same (row.Task t) Alone (covers.task t e)) i;
  };
  holders = λ key e generation. sym ((same (row.Key key) Alone (covers.key key e)).1 generation);
}
  where
    by : (o : Option (ℕ × Mode)) → ((pid : ℕ) (mode : Mode) → o ≡ Some (pid, mode) → IsHeldIn footprint (row.Process pid) mode) → (pid_of o >>= map.get v.processes) ≡ (pid_of o >>= map.get w.processes)
    by None held = refl
    by (Some process) held = sym (same_process w v footprint same process.0 process.1 (held process.0 process.1 refl))

-- they see the same but for the claims
same_sight : (w v : World) (h : Held) → SameHeld w v h → sees v h ≡ record (sees w h) { claims = (sees v h).claims }
same_sight w v h same = λ i. record (sees v h) {
  rows = same.rows i;
  holders = fun_ext (λ g. same_count (λ k. holders v k g) (λ k. holders w k g) h.key (λ k e. same.holders k e g)) i;
}

-- at two worlds that are the same at the rows held, a transition holds the same rows and changes them in the same way
pub same_changes : (w v : World) (m : ℕ) (t : Transition) (rows : Rows) → SameHeld w v (holds w t) → Allows t (sees w (holds w t)).claims (sees v (holds w t)).claims → changes m (sees w (holds w t)) t ≡ Some rows → (holds v t ≡ holds w t) × (changes m (sees v (holds v t)) t ≡ Some rows)
same_changes w v m t rows same allows h =
    let holds_same : holds v t ≡ holds w t = ap (λ r. held r.job t) same.rows in
    (holds_same, ap (λ k. changes m (sees v k) t) holds_same ∙ ap (λ s. changes m s t) (same_sight w v (holds w t) same) ∙ allowed m (sees w (holds w t)) t (sees v (holds w t)).claims rows h allows)
