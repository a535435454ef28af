-- The end of a job, with the job that its permit lets go.
use Rattle.std.proofs.Common.{◌≡◌, ℕ, true, false, Some, refl, arith}
use Rattle.std.proofs.lemmas.Bool.{and_from}
use Rattle.job_states.specs.Moment.{IsMoment, is_moment}
use Rattle.job_states.specs.Ranges.{is_number, is_in_range}
use Rattle.job_states.specs.declared.transition.Transition.{Transition}
use Rattle.job_states.specs.declared.transition.Transition.TheVariants.{Unblock}
use Rattle.queue_model.specs.Named.{job_named}
use Rattle.queue_model.specs.World.{World}
use Rattle.plan_model.specs.Drafts.{Draft, push, end, generation_at}
use Rattle.plan_model.specs.GoodDraft.{IsAllowed, is_end}
use Rattle.plan_model.specs.Plans.{is_enqueue, is_claim}
use Rattle.plan_model.proofs.AllowedAfter.{after_end}
use Rattle.plan_model.proofs.AllowedEnds.{unblocks}
use Rattle.plan_model.proofs.DraftLemmas.{Brings, brings_none}
use Rattle.plan_model.proofs.GoodDrafts.{IsGoodDraft, stepped}
use Rattle.plan_model.proofs.OrderLemmas.{first_is_blocked}
use Rattle.plan_model.proofs.PlanLemmas.{moment_is}
use Rattle.plan_model.proofs.Ranged.{generation_at_fits}
use Rattle.plan_model.proofs.Spending.{IsNotSpent, Rises, then_rises, noted_rises, spent_between}

no_job : (t : Transition) → is_end t ≡ true → is_enqueue t ≡ false
no_job t e = grind (arith, e)

no_claim : (t : Transition) → is_end t ≡ true → is_claim t ≡ false
no_claim t e = grind (arith, e)

pub end_brings : (made claimed m id : ℕ) (t : Transition) (d : Draft) → is_end t ≡ true → Brings made claimed d → Brings made claimed (end m id t d).0
end_brings made claimed m id t d ends h =
    let first = brings_none made claimed m t d (no_job t ends) (no_claim t ends) h in
    after_end (Brings made claimed) m id t d first (λ key j given e. brings_none made claimed m (Unblock j.row.id (generation_at (push m t d) key)) (push m t d) refl refl first)

pub end_rises : (m id : ℕ) (t : Transition) (d : Draft) → Rises d.given (end m id t d).0.given
end_rises m id t d = after_end (λ e. Rises d.given e.given) m id t d (noted_rises d.given m t) (λ key j given e.
    let u : Transition = Unblock j.row.id (generation_at (push m t d) key) in
    then_rises d.given (push m t d).given (push m u (push m t d)).given (noted_rises d.given m t) (noted_rises (push m t d).given m u))

pub ended : (w0 : World) (m id : ℕ) (t : Transition) (d : Draft) → IsMoment m → is_end t ≡ true → job_named t ≡ Some id → is_in_range t ≡ true → IsAllowed m d t → IsGoodDraft w0 m d → IsNotSpent d.given (end m id t d).0.given → IsGoodDraft w0 m (end m id t d).0
ended w0 m id t d moment ends named range allowed h = after_end (λ e. IsNotSpent d.given e.given → IsGoodDraft w0 m e) m id t d (λ unspent. after) (λ key j given first unspent.
    let u : Transition = Unblock j.row.id (generation_at (push m t d) key) in
    let parts = spent_between d.given (push m t d).given (push m u (push m t d)).given (noted_rises d.given m t) (noted_rises (push m t d).given m u) unspent in
    let found = (first_is_blocked (push m t d).world key j after.good first).found in
    let generation = generation_at_fits w0 m (push m t d) after u parts.1 key refl in
    stepped w0 m u (push m t d) fits (and_from (is_number j.row.id) (is_number (generation_at (push m t d) key)) (after.good.jobs j.row.id j found).number.0 generation)
    (unblocks m t d id h.good moment ends named allowed key j (generation_at (push m t d) key) given first refl) after)
  where
    fits : is_moment m ≡ true
    fits = moment_is m moment

    after : IsGoodDraft w0 m (push m t d)
    after = stepped w0 m t d fits range allowed h
