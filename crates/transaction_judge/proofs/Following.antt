-- What stands at a row after a legal transition, of what stood there.
use Rattle.std.proofs.Common.{◌≡◌, ◌+◌, ℕ, List, Bool, cond, Option, None, Some, is_some, ap, sym, ◌∙◌, refl, count_by}
use Rattle.std.specs.Cmp.{IsTotalOrder, nat_cmp_total}
use Rattle.std.specs.FinMap.{IsAntisymmetric, nat_cmp-IsAntisymmetric}
use Rattle.std.specs.Ordering.{is_eq, nat_cmp}
use Rattle.std.specs.declared.cmp.Ordering.{Ordering}
use Rattle.std.specs.declared.cmp.Ordering.TheVariants.{Less, Equal, Greater}
use Rattle.job_states.specs.declared.transition.Transition.{Transition}
use Rattle.semaphores.specs.Semaphore.{Semaphore}
use Rattle.queue_model.specs.Held.{holds}
use Rattle.queue_model.specs.Map as map
use Rattle.queue_model.specs.Map.{Map, get}
use Rattle.queue_model.specs.Named.{job_named}
use Rattle.queue_model.specs.Sights.{Rows, counted_at, pid_of, set}
use Rattle.queue_model.specs.World.{World, text_cmp}
use Rattle.queue_model.specs.declared.Job.{Job}
use Rattle.queue_model.proofs.Frames.{one}
use Rattle.queue_model.proofs.Maps.{get-set, texts_total, exact_texts}
use Rattle.queue_model.proofs.Steps.{Step, count_after}
use Rattle.transition_table.specs.Seen.{Found, job_seen}
use Rattle.exec_tables.specs.Apply.{row_at}
use Rattle.transaction_judge.specs.Peek.{is_at}

-- `f` is what is read of the row
followed : {K X T : Type 0} {R : K → K → Ordering} → IsTotalOrder R → IsAntisymmetric R → (m : Map R X) (a k : Option K) (x : Option X) (f : Option X → T) (before after : T) → before ≡ f (row_at a m) → (a ≡ k → after ≡ f x) → cond (is_at R a k) after before ≡ f (row_at a (set m k x))
followed o exact m None k x f before after was is = was
followed o exact m (Some q) None x f before after was is = was
followed {R} o exact m (Some q) (Some k) x f before after was is = by (R q k) refl ∙ ap f (sym (get-set o m k x q))
  where
    by : (r : Ordering) → R q k ≡ r → cond (is_eq r) after before ≡ f (cond (is_eq r) x (get m q))
    by Less e = was
    by Equal e = is (ap Some (exact q k e))
    by Greater e = was

module _ (u v : World) (m : ℕ) (t : Transition) (rows : Rows) (s : Step u m t v rows) where
  pub semaphore_followed : (a k : Option (List ℕ)) (before after : Option Semaphore) → k ≡ (holds u t).key → before ≡ row_at a u.semaphores → (a ≡ (holds u t).key → after ≡ rows.semaphore) → cond (is_at text_cmp a k) after before ≡ row_at a v.semaphores
  semaphore_followed a k before after there was is =
      ap (λ k. cond (is_at text_cmp a k) after before) there
      ∙ followed texts_total exact_texts u.semaphores a (holds u t).key rows.semaphore (λ x. x) before after was is ∙ ap (λ w. row_at a w.semaphores) s.after

  pub process_followed : (a k : Option ℕ) (before after : Bool) → k ≡ pid_of (holds u t).process → before ≡ is_some (row_at a u.processes) → (a ≡ pid_of (holds u t).process → after ≡ is_some rows.process) → cond (is_at nat_cmp a k) after before ≡ is_some (row_at a v.processes)
  process_followed a k before after there was is =
      ap (λ k. cond (is_at nat_cmp a k) after before) there
      ∙ followed nat_cmp_total nat_cmp-IsAntisymmetric u.processes a (pid_of (holds u t).process) rows.process is_some before after was is ∙ ap (λ w. is_some (row_at a w.processes)) s.after

  pub pause_followed : (a k : Option (List ℕ)) (before after : Bool) → k ≡ (holds u t).queue → before ≡ is_some (row_at a u.paused) → (a ≡ (holds u t).queue → after ≡ is_some rows.pause) → cond (is_at text_cmp a k) after before ≡ is_some (row_at a v.paused)
  pause_followed a k before after there was is =
      ap (λ k. cond (is_at text_cmp a k) after before) there
      ∙ followed texts_total exact_texts u.paused a (holds u t).queue rows.pause is_some before after was is ∙ ap (λ w. is_some (row_at a w.paused)) s.after

  pub last_run_followed : (a k : Option (List ℕ)) (before after : Option ℕ) → k ≡ (holds u t).task → before ≡ row_at a u.last_runs → (a ≡ (holds u t).task → after ≡ rows.last_run) → cond (is_at text_cmp a k) after before ≡ row_at a v.last_runs
  last_run_followed a k before after there was is =
      ap (λ k. cond (is_at text_cmp a k) after before) there
      ∙ followed texts_total exact_texts u.last_runs a (holds u t).task rows.last_run (λ x. x) before after was is ∙ ap (λ w. row_at a w.last_runs) s.after

  pub job_followed : (id : ℕ) (k : Option ℕ) (before after : Option Found) → k ≡ job_named t → before ≡ job_seen (get u.jobs id) → (Some id ≡ job_named t → after ≡ job_seen rows.job) → cond (is_at nat_cmp (Some id) k) after before ≡ job_seen (get v.jobs id)
  job_followed id k before after there was is =
      ap (λ k. cond (is_at nat_cmp (Some id) k) after before) there
      ∙ followed nat_cmp_total nat_cmp-IsAntisymmetric u.jobs (Some id) (job_named t) rows.job job_seen before after was is ∙ ap (λ w. job_seen (get w.jobs id)) s.after

  -- those that pass are one fewer or one more
  pub recounted : {K : Type 0} (p : K → Job → Bool) (k : Option K) → counted_at (λ k. count_by (p k) (map.values v.jobs)) k + counted_at (λ k. one (p k) (row_at (job_named t) u.jobs)) k ≡ counted_at (λ k. count_by (p k) (map.values u.jobs)) k + counted_at (λ k. one (p k) rows.job) k
  recounted p None = refl
  recounted p (Some k) = ap (λ w. count_by (p k) (map.values w.jobs) + one (p k) (row_at (job_named t) u.jobs)) (sym s.after) ∙ count_after (p k) u m t rows s.legal
