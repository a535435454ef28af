-- What holds of a draft after the end of a job: it holds after the end alone, and after the job that it lets go.
use Rattle.std.proofs.Common.{◌≡◌, ℕ, List, Option, None, Some, refl}
use Rattle.job_states.specs.declared.transition.Transition.{Transition}
use Rattle.job_states.specs.declared.transition.Transition.TheVariants.{Unblock}
use Rattle.queue_model.specs.declared.Job.{Job}
use Rattle.plan_model.specs.Drafts.{Draft, push, end, unblock, unblock_first, key_given, generation_at}
use Rattle.plan_model.specs.Orders.{first_blocked}

abbrev pub let_go : (moment : ℕ) → (key : List ℕ) → Draft → Job → Draft
let_go m key d j = push m (Unblock j.row.id (generation_at d key)) d

pub after_end : (P : Draft → Type 0) (m id : ℕ) (t : Transition) (d : Draft) → P (push m t d) → ((key : List ℕ) (j : Job) → key_given d.world id ≡ Some key → first_blocked (push m t d).world key ≡ Some j → P (let_go m key (push m t d) j)) → P (end m id t d).0
after_end P m id t d first second = by_key (key_given d.world id) refl
  where
    by_job : (key : List ℕ) → key_given d.world id ≡ Some key → (o : Option Job) → first_blocked (push m t d).world key ≡ o → P (unblock_first m key (push m t d) o).0
    by_job key given None e = first
    by_job key given (Some j) e = second key j given e

    by_key : (o : Option (List ℕ)) → key_given d.world id ≡ o → P (unblock m o (push m t d)).0
    by_key None e = first
    by_key (Some key) e = by_job key e (first_blocked (push m t d).world key) refl
