-- A new job takes its place, unless it is discarded.
use Rattle.std.proofs.Common.{◌≡◌, ◌≢◌, ◌+◌, ℕ, true, false, ◌&&◌, not, Option, ap, sym, refl, subst, arith}
use Rattle.std.proofs.lemmas.Bool.{and_from}
use Rattle.std.specs.Option.{ForSome}
use Rattle.job_states.specs.Moment.{IsMoment, is_moment}
use Rattle.job_states.specs.Ranges.{is_in_range, is_number, is_put, is_row, is_away}
use Rattle.job_states.specs.declared.job.JobRow.{JobRow}
use Rattle.job_states.specs.declared.transition.Put.{Put}
use Rattle.job_states.specs.declared.transition.Put.TheVariants.{Ready, Scheduled, Blocked, Away}
use Rattle.job_states.specs.declared.transition.Transition.{Transition}
use Rattle.job_states.specs.declared.transition.Transition.TheVariants.{Enqueue}
use Rattle.queue_model.specs.Named.{noted, put_named}
use Rattle.queue_model.specs.World.{World}
use Rattle.plan_model.specs.Drafts.{Draft, push, enqueue, enqueue_at, place_for}
use Rattle.plan_model.specs.Plans.{one}
use Rattle.plan_model.proofs.AllowedMoves as allowed
use Rattle.plan_model.proofs.DraftLemmas.{Brings, brings_job}
use Rattle.plan_model.proofs.GoodDrafts.{IsGoodDraft, stepped, fresh}
use Rattle.plan_model.proofs.Ranged.{job_fits, place_fits}
use Rattle.plan_model.proofs.Spending.{IsNotSpent, Rises, stays, noted_rises}

abbrev pub numbered : JobRow → ℕ → JobRow
numbered row id = record row { id = id }

row_numbered : (row : JobRow) (id : ℕ) → is_row (numbered row 1) ≡ true → is_number id ≡ true → is_row (numbered row id) ≡ true
row_numbered row id h n = grind (arith, h, n)

pub enqueued : (w0 : World) (m : ℕ) (row : JobRow) (at : Option ℕ) (d : Draft) → is_moment m ≡ true → is_row (numbered row 1) ≡ true → ForSome at IsMoment → IsGoodDraft w0 m d → IsNotSpent d.given (enqueue m row at d).0.given → IsGoodDraft w0 m (enqueue m row at d).0
enqueued w0 m row at d moment fits at_fits h unspent = by (place_for d m at row.limited) refl unspent
  where
    placed : (put : Put) → place_for d m at row.limited ≡ put → put ≢ Away → is_away put ≡ false → IsNotSpent d.given (noted d.given m (Enqueue (numbered row d.given.job) put)) → IsGoodDraft w0 m (push m (Enqueue (numbered row d.given.job) put) d)
    placed put is stays here unspent =
        let t : Transition = Enqueue (numbered row d.given.job) put in
        let number : is_number d.given.job ≡ true = job_fits w0 m d h t unspent refl in
        let place : is_put put ≡ true = subst (λ p. is_put p ≡ true) is (place_fits w0 m d h t unspent at at_fits row.limited (ap put_named (sym is))) in
        let range : is_in_range t ≡ true = and_from (is_row (numbered row d.given.job) && is_put put) (not (is_away put)) (and_from (is_row (numbered row d.given.job)) (is_put put) (row_numbered row d.given.job fits number) place) (ap not here) in
        stepped w0 m t d moment range (allowed.enqueue m d (numbered row d.given.job) at put (fresh w0 m d h) refl (sym is) stays) h

    by : (put : Put) → place_for d m at row.limited ≡ put → IsNotSpent d.given (enqueue_at m row put d).0.given → IsGoodDraft w0 m (enqueue_at m row put d).0
    by Away is unspent = h
    by (Ready permit) is unspent = placed (Ready permit) is (λ e. cc) refl unspent
    by (Scheduled t) is unspent = placed (Scheduled t) is (λ e. cc) refl unspent
    by (Blocked until) is unspent = placed (Blocked until) is (λ e. cc) refl unspent

-- ---- numbers rise, and the job is named

at_rises : (m : ℕ) (row : JobRow) (put : Put) (d : Draft) → Rises d.given (enqueue_at m row put d).0.given
at_rises m row Away d = stays d.given
at_rises m row (Ready permit) d = noted_rises d.given m (Enqueue (numbered row d.given.job) (Ready permit))
at_rises m row (Scheduled at) d = noted_rises d.given m (Enqueue (numbered row d.given.job) (Scheduled at))
at_rises m row (Blocked until) d = noted_rises d.given m (Enqueue (numbered row d.given.job) (Blocked until))

pub enqueue_rises : (m : ℕ) (row : JobRow) (at : Option ℕ) (d : Draft) → Rises d.given (enqueue m row at d).0.given
enqueue_rises m row at d = at_rises m row (place_for d m at row.limited) d

at_brings : (made claimed m : ℕ) (row : JobRow) (put : Put) (d : Draft) → Brings made claimed d → Brings (made + one (enqueue_at m row put d).1.id) claimed (enqueue_at m row put d).0
at_brings made claimed m row Away d h = subst (λ n. Brings n claimed d) (still made) h
  where
    still : (n : ℕ) → n ≡ n + 0
    still n = omega arith
at_brings made claimed m row (Ready permit) d h = brings_job made claimed m (Enqueue (numbered row d.given.job) (Ready permit)) d refl refl h
at_brings made claimed m row (Scheduled at) d h = brings_job made claimed m (Enqueue (numbered row d.given.job) (Scheduled at)) d refl refl h
at_brings made claimed m row (Blocked until) d h = brings_job made claimed m (Enqueue (numbered row d.given.job) (Blocked until)) d refl refl h

pub enqueue_brings : (made claimed m : ℕ) (row : JobRow) (at : Option ℕ) (d : Draft) → Brings made claimed d → Brings (made + one (enqueue m row at d).1.id) claimed (enqueue m row at d).0
enqueue_brings made claimed m row at d h = at_brings made claimed m row (place_for d m at row.limited) d h
