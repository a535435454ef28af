-- What is open at a seat stands there until it ends.
use Rattle.std.proofs.Common.{◌≡◌, ◌≢◌, ℕ, true, false, None, Option, Some, List, [], ◌∷◌, All, Result, Ok, Err, is_none, ap, sym, ◌∙◌, refl, subst}
use Rattle.std.proofs.lemmas.Bool.{true≢false}
use Rattle.std.proofs.lemmas.List.Elements.{All-head, All-tail}
use Rattle.std.specs.Cmp.{nat_cmp_total}
use Rattle.std.specs.FinMap.{nat_cmp-IsAntisymmetric}
use Rattle.job_states.specs.declared.answer.Refused.{Refused}
use Rattle.queue_config.specs.declared.config.Config.{Config}
use Rattle.queue_model.specs.Map as map
use Rattle.queue_model.specs.Replay.{after}
use Rattle.queue_model.specs.World.{World}
use Rattle.queue_model.proofs.Maps.{get-set_other, get-set_same}
use Rattle.queue_model.proofs.Steps.{passed, same_Some, then}
use Rattle.plan_model.specs.Books.{with_applied, with_plan, without_plan}
use Rattle.plan_model.specs.Plans.{Plan}
use Rattle.situation_model.specs.GoodSituation.{DiffersAt}
use Rattle.situation_model.specs.Situations.{Situation, begins, begun, committed, doubt_after, is_written, open_at, rolled_back}
use Rattle.situation_model.specs.Steps.{Begin, Checkpoint, CheckpointFault, Commit, CommitFault, IsElsewhere, Reopen, Rollback, Step, after_step, after_steps}

-- a plan that is opened or goes changes nothing at other seats
with_another : (s : Situation) (k q : ℕ) (plan : Plan) → k ≢ q → open_at (record s { book = with_plan s.book k plan }) q ≡ open_at s q
with_another s k q plan ne = get-set_other nat_cmp_total nat_cmp-IsAntisymmetric s.book.open_plans (Some k) (Some plan) q (λ e. ne (same_Some k q e))

without_another : (s : Situation) (k q : ℕ) → k ≢ q → open_at (record s { book = without_plan s.book k }) q ≡ open_at s q
without_another s k q ne = get-set_other nat_cmp_total nat_cmp-IsAntisymmetric s.book.open_plans (Some k) None q (λ e. ne (same_Some k q e))

-- ---- a rollback

pub differs : (s t : Situation) (seat : ℕ) → rolled_back s seat ≡ Some t → DiffersAt seat s t
differs s t seat e = subst (DiffersAt seat s) (same_Some _ t (then (open_at s seat) _ t e).2) (record { world = refl; given = refl; doubt = refl; others = λ other ne. without_another s seat other (λ is. ne (sym is)) })

pub nothing_left : (s t : Situation) (seat : ℕ) → rolled_back s seat ≡ Some t → open_at t seat ≡ None
nothing_left s t seat e = ap (λ u. open_at u seat) (sym (same_Some _ t (then (open_at s seat) _ t e).2)) ∙ get-set_same nat_cmp_total s.book.open_plans seat None

-- ---- what was opened

pub stands_there : (s : Situation) (seat : ℕ) (plan : Plan) → open_at (begun s seat (Ok plan)) seat ≡ Some plan
stands_there s seat plan = get-set_same nat_cmp_total s.book.open_plans seat (Some plan)

pub commits : (s : Situation) (seat : ℕ) (plan : Plan) (end : World) → open_at s seat ≡ Some plan → after s.book.world plan.tx ≡ Some end → committed s seat ≡ Some (record { book = with_applied s.book seat end; doubt = doubt_after plan.tx s.doubt })
commits s seat plan end found legal = rw (found, legal)

module _ (seat : ℕ) (plan : Plan) where
  begun_elsewhere : (s t : Situation) (other : ℕ) (r : Result Plan Refused) → is_none (open_at s other) ≡ true → open_at s seat ≡ Some plan → ◌≡◌ {A = Option Situation} (Some (begun s other r)) (Some t) → open_at t seat ≡ Some plan
  begun_elsewhere s t other (Err refused) vacant found e = ap (λ u. open_at u seat) (sym (same_Some s t e)) ∙ found
  begun_elsewhere s t other (Ok made) vacant found e =
      ap (λ u. open_at u seat) (sym (same_Some (begun s other (Ok made)) t e))
      ∙ with_another s other seat made (λ is. true≢false (sym vacant ∙ ap (λ k. is_none (open_at s k)) is ∙ ap is_none found))
      ∙ found

  -- where another plan went
  still : (s t : Situation) (other : ℕ) (left : Situation) → other ≢ seat → open_at s seat ≡ Some plan → left ≡ t → left.book.open_plans ≡ (without_plan s.book other).open_plans → open_at t seat ≡ Some plan
  still s t other left ne found is plans =
      ap (λ u. open_at u seat) (sym is) ∙ ap (λ m. map.get m seat) plans ∙ without_another s other seat ne ∙ found

  elsewhere : (settings : Config) (s t : Situation) (step : Step) → IsElsewhere seat step → open_at s seat ≡ Some plan → after_step settings s step ≡ Some t → open_at t seat ≡ Some plan
  elsewhere settings s t (Begin other c now) away found e =
      let begins_there = passed (is_none (open_at s other)) _ t e in
      begun_elsewhere s t other (begins settings s c now) begins_there.0 found begins_there.1
  elsewhere settings s t (Commit other) away found e =
      let theirs = then (open_at s other) _ t e in
      let legal = then (after s.book.world theirs.0.tx) _ t theirs.2 in
      still s t other _ away found (same_Some _ t legal.2) refl
  elsewhere settings s t (CommitFault other left) away found e =
      let theirs = then (open_at s other) _ t e in
      still s t other _ away found (same_Some _ t (passed (is_written theirs.0.tx) _ t theirs.2).1) refl
  elsewhere settings s t (Rollback other) away found e = still s t other _ away found (same_Some _ t (then (open_at s other) _ t e).2) refl
  elsewhere settings s t Checkpoint away found e = ap (λ u. open_at u seat) (sym (same_Some _ t e)) ∙ found
  elsewhere settings s t (CheckpointFault true) away found e = ap (λ u. open_at u seat) (sym (same_Some _ t e)) ∙ found
  elsewhere settings s t (CheckpointFault false) away found e = ap (λ u. open_at u seat) (sym (same_Some _ t e)) ∙ found
  elsewhere settings s t (Reopen takes_in) away found e = absurd away

  pub stands : (settings : Config) (s end : Situation) (steps : List Step) → All (IsElsewhere seat) steps → open_at s seat ≡ Some plan → after_steps settings s steps ≡ Some end → open_at end seat ≡ Some plan
  stands settings s end [] away found e = ap (λ u. open_at u seat) (sym (same_Some s end e)) ∙ found
  stands settings s end (step ∷ steps) away found e =
      let first = then (after_step settings s step) (λ t. after_steps settings t steps) end e in
      stands settings first.0 end steps (All-tail (IsElsewhere seat) step steps away)
      (elsewhere settings s first.0 step (All-head (IsElsewhere seat) step steps away) found first.1) first.2
