-- What a plan makes it holds, so no other plan makes it.
use Rattle.std.proofs.Common.{◌≡◌, ◌≢◌, ℕ, List, [], ◌∷◌, Option, Some, Contains, is_some, ap, sym, ◌∙◌, subst, ⊎_elim}
use Rattle.std.proofs.lemmas.Bool.{true≢false}
use Rattle.job_states.specs.Moment.{is_moment}
use Rattle.job_states.specs.declared.row.Mode.{Mode}
use Rattle.job_states.specs.declared.row.Mode.TheVariants.{Alone}
use Rattle.job_states.specs.declared.row.Row.{Row}
use Rattle.job_states.specs.declared.row.Row.TheVariants.{Job, Process}
use Rattle.job_states.specs.declared.transition.Transaction.{Transaction}
use Rattle.job_states.specs.declared.transition.Transition.{Transition}
use Rattle.job_states.specs.declared.transition.Transition.TheVariants.{Enqueue, Register}
use Rattle.row_locks.proofs.Membership.{Contains-cons_cases, Contains-head, none}
use Rattle.row_locks.specs.Footprints.{AreCompatible}
use Rattle.queue_model.specs.Footprints.{CoversAll, IsHeldIn, IsPlanned, Same}
use Rattle.queue_model.specs.Held.{held_rows, holds}
use Rattle.queue_model.specs.Replay.{steps}
use Rattle.queue_model.specs.Transitions.{step}
use Rattle.queue_model.specs.World.{World}
use Rattle.queue_model.proofs.Steps.{passed, same_Some, then}
use Rattle.plan_model.specs.GoodBook.{IsLegalIn}
use Rattle.plan_model.specs.Plans.{Plan}
use Rattle.situation_model.specs.GoodSituation.{IsGoodSituation, IsNewTo, Makes, job_made, pid_made}
use Rattle.situation_model.specs.Situations.{Situation, open_at}

-- the transition holds the row alone in any world
abbrev pub HoldsAlone : Row → Transition → Type 0
HoldsAlone r t = (w : World) → Contains (held_rows (holds w t)) (r, Alone)

pub new_job : (id : ℕ) (t : Transition) → job_made t ≡ Some id → HoldsAlone (Job id) t
new_job id (Enqueue row put) e w = subst (λ n. Contains (held_rows (holds w (Enqueue row put))) (Job n, Alone)) (same_Some row.id id e) (Contains-head _ _)
new_job id t e w = absurd (true≢false (ap is_some (sym e)))

pub new_process : (pid : ℕ) (t : Transition) → pid_made t ≡ Some pid → HoldsAlone (Process pid) t
new_process pid (Register other kind name) e w = subst (λ n. Contains (held_rows (holds w (Register other kind name))) (Process n, Alone)) (same_Some other pid e) (Contains-head (Process other, Alone) [])
new_process pid t e w = absurd (true≢false (ap is_some (sym e)))

in_footprint : (rows : List (Row × Mode)) (w end : World) (m : ℕ) (ts : List Transition) (r : Row) (t : Transition) → steps w m ts ≡ Some end → CoversAll rows w m ts → Contains ts t → HoldsAlone r t → Contains rows (r, Alone)
in_footprint rows w end m [] r t legal covered here holds_it = absurd (none t here)
in_footprint rows w end m (u ∷ us) r t legal covered here holds_it =
    let first = then (step w m u) (λ v. steps v m us) end legal in
    ⊎_elim
    (λ (is : u ≡ t). let held : IsHeldIn rows r Alone = covered.0 r Alone (subst (λ x. Contains (held_rows (holds w x)) (r, Alone)) (sym is) (holds_it w)) in ⊎_elim (λ x. x) (λ x. x) held)
    (λ later. in_footprint rows first.0 end m us r t first.2 (covered.1 first.0 first.1) later holds_it)
    (Contains-cons_cases u us t here)

module _ (made : Transition → Option ℕ) (row : ℕ → Row) (holds_it : (n : ℕ) (t : Transition) → made t ≡ Some n → HoldsAlone (row n) t) where
  pub planned_row : (w : World) (plan : Plan) (n : ℕ) → IsLegalIn w plan → Makes made n plan → Contains plan.rows (row n, Alone)
  planned_row w plan n legal makes = in_footprint plan.rows w legal.0 plan.tx.moment plan.tx.steps (row n) makes.0
      (passed (is_moment plan.tx.moment) (steps w plan.tx.moment plan.tx.steps) legal.0 legal.1.legal).1 legal.1.covered makes.1 (holds_it n makes.0 makes.2)

  pub made_once : (s : Situation) (seat other : ℕ) (plan theirs : Plan) (n : ℕ) → IsGoodSituation s → seat ≢ other → open_at s seat ≡ Some plan → open_at s other ≡ Some theirs → Makes made n plan → ¬ Makes made n theirs
  made_once s seat other plan theirs n good ne mine there a b = good.book.compatible seat other plan theirs ne mine there (row n) Alone Alone
      (planned_row s.book.world plan n (good.book.plans seat plan mine).legal a)
      (planned_row s.book.world theirs n (good.book.plans other theirs there).legal b)

-- ---- another plan is applied

abbrev pub Untouched : Type 0
Untouched = (w end : World) (tx : Transaction) (rows others : List (Row × Mode)) → IsPlanned w tx rows end → AreCompatible rows others → Same w end others

-- what a plan makes stays new
pub still_new : Untouched → (w end : World) (plan theirs : Plan) → IsPlanned w plan.tx plan.rows end → IsLegalIn w theirs → AreCompatible plan.rows theirs.rows → IsNewTo w theirs → IsNewTo end theirs
still_new untouched w end plan theirs mine legal fit new =
    let same = untouched w end plan.tx plan.rows theirs.rows mine fit in
    record {
      jobs = λ id made. sym (same (Job id) Alone (planned_row job_made Job new_job w theirs id legal made)) ∙ new.jobs id made;
      processes = λ pid made. sym (same (Process pid) Alone (planned_row pid_made Process new_process w theirs pid legal made)).0 ∙ new.processes pid made;
    }
