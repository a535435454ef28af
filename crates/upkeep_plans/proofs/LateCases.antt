-- The cases of an unblock: key by key, and of each key one job after another until it is closed.
use Rattle.std.proofs.Common.{◌≡◌, ◌≤◌, ◌||◌, ◌++◌, ℕ, Bool, true, false, cond, nat_lt, List, [], ◌∷◌, map, filter, fold, Option, None, Some, is_some, ap, sym, ◌∙◌, refl, subst}
use Rattle.std.proofs.lemmas.Bool.{true≢false, and_parts}
use Rattle.job_states.specs.declared.transition.Transition.TheVariants.{Unblock}
use Rattle.semaphores.specs.Semaphore.{is_closed}
use Rattle.queue_model.specs.GoodWorld.{IsGood}
use Rattle.queue_model.specs.Map.{get}
use Rattle.queue_model.specs.World.{is_key}
use Rattle.queue_model.specs.declared.Job.{Job}
use Rattle.row_locks.proofs.Membership.{Contains-head}
use Rattle.plan_model.specs.Drafts.{Draft, and_case, begin, generation_at, push}
use Rattle.plan_model.specs.GoodDraft.{IsFresh}
use Rattle.plan_model.specs.Scenes.{Scene}
use Rattle.plan_model.specs.UpkeepCommands.{is_overdue, overdue, unblock_case}
use Rattle.plan_model.proofs.AllowedMoves as allowed
use Rattle.plan_model.proofs.LateJobs.{late_apart, late_is, one_key, overdue_blocked}
use Rattle.plan_model.proofs.OrderLemmas.{own_place}
use Rattle.upkeep_plans.specs.Left.{late_of}
use Rattle.upkeep_plans.specs.SoFar.{IsSoFar}
use Rattle.upkeep_plans.specs.Standing.{StandJobs, StandLate, is_late}
use Rattle.upkeep_plans.specs.Taking.{IsTaking, MayTake, Taking, is_full, so_far, with_cases, with_so_far}
use Rattle.upkeep_plans.proofs.StandingJobs.{apart_too, for_this, jobs_pass, names_none}
use Rattle.upkeep_plans.proofs.TakenCases.{full_stays}

pub or_first : (a b : Bool) → (a || b) ≡ false → b ≡ false
or_first true b e = absurd (true≢false e)
or_first false b e = e

-- ---- the jobs of a key

pub late_cons : (m : ℕ) (key : List ℕ) (j : Job) (js : List Job) → is_overdue m j ≡ true → late_of m key (j ∷ js) ≡ (key, j) ∷ late_of m key js
late_cons m key j js over = ap (λ b. map (λ (k : Job). (key, k)) (cond b (j ∷ filter (is_overdue m) js) (filter (is_overdue m) js))) over

pub late_skip : (m : ℕ) (key : List ℕ) (j : Job) (js : List Job) → is_overdue m j ≡ false → late_of m key (j ∷ js) ≡ late_of m key js
late_skip m key j js over = ap (λ b. map (λ (k : Job). (key, k)) (cond b (j ∷ filter (is_overdue m) js) (filter (is_overdue m) js))) over

pass_all : {A : Type 0} (job_of : A → Job) (passes : A → Bool) (s : Scene) (xs ys : List A) (d : Draft) → StandJobs job_of passes s (xs ++ ys) d → StandJobs job_of passes s ys d
pass_all job_of passes s [] ys d h = h
pass_all job_of passes s (x ∷ xs) ys d h = pass_all job_of passes s xs ys d (jobs_pass job_of passes s x (xs ++ ys) d h)

module _ (t : Taking) (key : List ℕ) (closed : is_closed (get t.drafting.draft.world.semaphores key) ≡ true) where
  -- at a closed key no case is taken
  one_left_out : (j : Job) → and_case t.scene t.most (so_far t) (unblock_case t.scene.moment (key, j)) ≡ so_far t
  one_left_out j = ap (λ (o : Option Draft). and_case t.scene t.most (so_far t) (λ d. o)) (ap (λ b. cond b None (Some (push t.scene.moment (Unblock j.row.id (generation_at t.drafting.draft key)) t.drafting.draft))) closed) ∙ same (nat_lt t.taken t.most)
    where
      same : (b : Bool) → cond b (so_far t) (so_far t) ≡ so_far t
      same true = refl
      same false = refl

  all_left_out : (js : List Job) (more : List (List ℕ × Job)) → fold (and_case t.scene t.most) (so_far t) (map (unblock_case t.scene.moment) (map (λ j. (key, j)) js ++ more)) ≡ fold (and_case t.scene t.most) (so_far t) (map (unblock_case t.scene.moment) more)
  all_left_out [] more = refl
  all_left_out (j ∷ js) more =
      ap (λ (done : Draft × ℕ). fold (and_case t.scene t.most) done (map (unblock_case t.scene.moment) (map (λ k. (key, k)) js ++ more))) (one_left_out j) ∙ all_left_out js more

module _ (first : Taking) (all : List (List ℕ × Job)) (t : Taking) (m : ℕ) (key : List ℕ) (jobs : List Job) (more : List (List ℕ × Job)) (h : IsSoFar unblock_case StandLate first all t (late_of m key jobs ++ more)) where
  pub shut : true ≡ (is_full t || is_closed (get t.drafting.draft.world.semaphores key)) → IsSoFar unblock_case StandLate first all t more
  shut e = record {
    scene = h.scene;
    same = by (is_full t) (is_closed (get t.drafting.draft.world.semaphores key)) refl refl e ∙ h.same;
    taking = h.taking;
    standing = pass_all (λ (x : List ℕ × Job). x.1) (is_late t.scene.moment) t.scene (late_of m key jobs) more t.drafting.draft h.standing;
  }
    where
      by : (a b : Bool) → is_full t ≡ a → is_closed (get t.drafting.draft.world.semaphores key) ≡ b → true ≡ (is_full t || is_closed (get t.drafting.draft.world.semaphores key))
          → with_cases t (map (unblock_case t.scene.moment) more) ≡ with_cases t (map (unblock_case t.scene.moment) (late_of m key jobs ++ more))
      by true b full closed e = full_stays t (map (unblock_case t.scene.moment) more) (sym full) ∙ sym (full_stays t (map (unblock_case t.scene.moment) (late_of m key jobs ++ more)) (sym full))
      by false true full closed e = ap (with_so_far t) (sym (all_left_out t key closed (filter (is_overdue m) jobs) more))
      by false false full closed e = absurd (true≢false (e ∙ ap (λ a. a || is_closed (get t.drafting.draft.world.semaphores key)) full ∙ closed))

-- one loop goes on where another one was
pub joined : (first : Taking) (all : List (List ℕ × Job)) (t u : Taking) (left these more : List (List ℕ × Job)) → IsSoFar unblock_case StandLate first all t left → left ≡ these → IsSoFar unblock_case StandLate t these u more → IsSoFar unblock_case StandLate first all u more
joined first all t u left these more h e k = record {
  scene = k.scene ∙ h.scene;
  same = k.same ∙ ap (λ xs. with_cases t (map (unblock_case t.scene.moment) xs)) (sym e) ∙ h.same;
  taking = k.taking;
  standing = k.standing;
}

-- ---- one job

pub may_unblock : (t : Taking) (key : List ℕ) (j : Job) (rest : List (List ℕ × Job)) (generation : ℕ) → IsTaking t → StandLate t.scene ((key, j) ∷ rest) t.drafting.draft → IsFresh t.drafting.draft.world t.drafting.draft.given
    → is_closed (get t.drafting.draft.world.semaphores key) ≡ false → generation ≡ generation_at t.drafting.draft key → generation ≤ t.drafting.draft.given.generation → MayTake t (Unblock j.row.id generation)
may_unblock t key j rest generation taking h fresh opened at given =
    let x : List ℕ × Job = (key, j) in
    let late = and_parts (is_overdue t.scene.moment j) (is_key key j.row.limited) (h.pass x (Contains-head x rest)) in
    record {
      taking = taking;
      allowed = allowed.unblock t.scene.moment j.row.id key t.drafting.draft j generation fresh (h.there x (Contains-head x rest)) (overdue_blocked t.scene.moment j.row j.state late.0) late.1 opened at;
      known = for_this (λ id. is_some (get t.scene.book.world.jobs id) ≡ true) j.row.id (h.was x (Contains-head x rest));
      next = names_none t.drafting.draft.given (Unblock j.row.id generation) refl refl (for_this (λ n. n ≤ t.drafting.draft.given.generation) generation given);
      fit = tt;
    }

pub late_begin : (s : Scene) → IsGood s.book.world → StandLate s (overdue s.book.world s.moment) (begin s)
late_begin s good = record {
  was = λ x h. ap is_some (own_place s.book.world x.1 good (late_is s.book.world s.moment x h).there);
  there = λ x h. own_place s.book.world x.1 good (late_is s.book.world s.moment x h).there;
  pass = λ x h. (late_is s.book.world s.moment x h).late;
  one = λ x y p q e.
      let key : x.0 ≡ y.0 = one_key x.0 y.0 y.1.row.limited (subst (λ (j : Job). is_key x.0 j.row.limited ≡ true) e (and_parts (is_overdue s.moment x.1) (is_key x.0 x.1.row.limited) (late_is s.book.world s.moment x p).late).1)
      (and_parts (is_overdue s.moment y.1) (is_key y.0 y.1.row.limited) (late_is s.book.world s.moment y q).late).1 in
      λ i. (key i, e i);
  apart = apart_too (overdue s.book.world s.moment) (late_apart s.book.world s.moment);
}
