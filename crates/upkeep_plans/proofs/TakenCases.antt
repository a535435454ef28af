-- What a command has taken of its cases, case by case.
use Rattle.std.proofs.Common.{◌≡◌, ℕ, Bool, true, false, cond, ◌+◌, ◌++◌, ◌&&◌, nat_lt, nat_le, List, [], ◌∷◌, map, fold, drop, Option, None, Some, is_some, arith, ap, sym, ◌∙◌, refl, subst}
use Rattle.std.proofs.lemmas.Bool.{true≢false}
use Rattle.std.proofs.lemmas.List.Folds.{list_all-append}
use Rattle.job_states.specs.declared.transition.Transition.{Transition}
use Rattle.queue_model.specs.Held.{held_rows, holds}
use Rattle.queue_model.proofs.Steps.{same_Some}
use Rattle.plan_model.specs.Drafts.{Draft, and_case, push}
use Rattle.plan_model.specs.Orders.{first_of}
use Rattle.plan_model.specs.Scenes.{Scene, are_free, is_free}
use Rattle.plan_model.proofs.EachFree.{picked}
use Rattle.upkeep_plans.specs.SoFar.{IsSoFar}
use Rattle.upkeep_plans.specs.Taking.{IsTaking, Taking, so_far, with_cases, with_so_far, with_step}

-- ---- lists by their first item

pub first_rest : {A : Type 0} (x : A) (xs ys : List A) → Some x ≡ first_of xs → ys ≡ drop 1 xs → xs ≡ x ∷ ys
first_rest x [] ys e f = absurd (true≢false (ap is_some e))
first_rest x (z ∷ zs) ys e f = λ i. (sym (same_Some x z e) i ∷ sym f i)

pub no_first : {A : Type 0} (xs : List A) → None ≡ first_of xs → xs ≡ []
no_first [] e = refl
no_first (x ∷ xs) e = absurd (true≢false (sym (ap is_some e)))

-- ---- one transition

all_free : (t : Taking) (step : Transition) → IsTaking t → are_free t.scene.book (t.drafting.draft.rows ++ held_rows (holds t.drafting.draft.world step)) ≡ are_free t.scene.book (held_rows (holds t.drafting.draft.world step))
all_free t step h =
    let held = held_rows (holds t.drafting.draft.world step) in
    list_all-append (λ r. is_free t.scene.book r.0 r.1) t.drafting.draft.rows held ∙ ap (λ b. b && are_free t.scene.book held) h.free

module _ (t : Taking) (step : Transition) (h : IsTaking t) where
  abbrev pushed : Draft
  pushed = push t.scene.moment step t.drafting.draft

  abbrev free_then : Bool → Draft × ℕ
  free_then b = cond b (pushed, t.taken + 1) (so_far t)

  pub taken : (b : Bool) → b ≡ are_free t.scene.book (held_rows (holds t.drafting.draft.world step)) → nat_lt t.taken t.most ≡ true → with_step t step ≡ with_so_far t (free_then b)
  taken b e room =
      ap (λ (r : Bool). with_so_far t (cond r (free_then (are_free t.scene.book pushed.rows)) (so_far t))) room
      ∙ ap (λ (r : Bool). with_so_far t (free_then r)) (all_free t step h ∙ sym e)

  pub no_room : nat_lt t.taken t.most ≡ false → with_step t step ≡ t
  no_room full = ap (λ (r : Bool). with_so_far t (cond r (free_then (are_free t.scene.book pushed.rows)) (so_far t))) full

  -- the case of a transition leaves the draft, or pushes the transition
  pub either : (P : Draft → Type 0) → P t.drafting.draft → P pushed → P (with_step t step).drafting.draft
  either P stays goes = picked (λ (r : Draft × ℕ). P r.0) (nat_lt t.taken t.most) (free_then (are_free t.scene.book pushed.rows)) (so_far t)
      (picked (λ (r : Draft × ℕ). P r.0) (are_free t.scene.book pushed.rows) (pushed, t.taken + 1) (so_far t) goes stays) stays

  pub still_taking : IsTaking (with_step t step)
  still_taking = record { begun = h.begun; moment = h.moment; free = by (nat_lt t.taken t.most) (are_free t.scene.book pushed.rows) refl }
    where
      by : (a b : Bool) → are_free t.scene.book pushed.rows ≡ b → are_free t.scene.book (cond a (free_then b) (so_far t)).0.rows ≡ true
      by true true e = e
      by true false e = h.free
      by false b e = h.free

-- ---- the cases in turn

module _ (t : Taking) where
  pub none_left : {A : Type 0} (case : A → Draft → Option Draft) (xs : List A) → xs ≡ [] → with_cases t (map case xs) ≡ t
  none_left case xs e = ap (λ ys. with_cases t (map case ys)) e

  -- once as many are taken as may be, no more are
  full : (n : ℕ) → nat_le t.most n ≡ true → nat_lt n t.most ≡ false
  full n e = grind (arith, e)

  full_fold : (cases : List (Draft → Option Draft)) → nat_le t.most t.taken ≡ true → fold (and_case t.scene t.most) (so_far t) cases ≡ so_far t
  full_fold [] e = refl
  full_fold (c ∷ cs) e = ap (λ (done : Draft × ℕ). fold (and_case t.scene t.most) done cs) (one (c t.drafting.draft) (full t.taken e)) ∙ full_fold cs e
    where
      one : (o : Option Draft) → nat_lt t.taken t.most ≡ false → and_case t.scene t.most (so_far t) (λ d. o) ≡ so_far t
      one None f = ap (λ (b : Bool). cond b (so_far t) (so_far t)) f
      one (Some d) f = ap (λ (b : Bool). cond b (cond (are_free t.scene.book d.rows) (d, t.taken + 1) (so_far t)) (so_far t)) f

  pub full_stays : (cases : List (Draft → Option Draft)) → true ≡ nat_le t.most t.taken → with_cases t cases ≡ t
  full_stays cases e = ap (with_so_far t) (full_fold cases (sym e))

  module _ {A : Type 0} (case : A → Draft → Option Draft) (x : A) (xs ys : List A) (are : xs ≡ x ∷ ys) where
    same_step : (o : Option Draft) (d : Draft) → o ≡ Some d → and_case t.scene t.most (so_far t) (λ e. o) ≡ and_case t.scene t.most (so_far t) (λ e. Some d)
    same_step o d e = ap (λ (p : Option Draft). and_case t.scene t.most (so_far t) (λ e. p)) e

    -- the first case is of this transition
    pub next_case : (u : Taking) (step : Transition) → u ≡ with_step t step → case x t.drafting.draft ≡ Some (push t.scene.moment step t.drafting.draft) → with_cases u (map case ys) ≡ with_cases t (map case xs)
    next_case u step e is =
        ap (λ (v : Taking). with_cases v (map case ys)) e
        ∙ ap (λ (done : Draft × ℕ). with_so_far t (fold (and_case t.scene t.most) done (map case ys))) (sym (same_step (case x t.drafting.draft) (push t.scene.moment step t.drafting.draft) is))
        ∙ ap (λ zs. with_cases t (map case zs)) (sym are)

-- ---- a loop over the cases

module _ {A : Type 0} (case : (moment : ℕ) → A → Draft → Option Draft) (Stands : Scene → List A → Draft → Type 0) (first : Taking) (all : List A) (t : Taking) (xs : List A) (h : IsSoFar case Stands first all t xs) where
  pub ends : xs ≡ [] → t ≡ with_cases first (map (case first.scene.moment) all)
  ends e = sym (none_left t (case t.scene.moment) xs e) ∙ h.same

  pub stays_full : true ≡ nat_le t.most t.taken → t ≡ with_cases first (map (case first.scene.moment) all)
  stays_full e = sym (full_stays t (map (case t.scene.moment) xs) e) ∙ h.same

  module _ (x : A) (ys : List A) (are : xs ≡ x ∷ ys) where
    pub stand : Stands t.scene (x ∷ ys) t.drafting.draft
    stand = subst (λ zs. Stands t.scene zs t.drafting.draft) are h.standing

    pub takes_next : (u : Taking) (step : Transition) → u ≡ with_step t step → case t.scene.moment x t.drafting.draft ≡ Some (push t.scene.moment step t.drafting.draft)
        → ((d : Draft) → Stands t.scene (x ∷ ys) d → Stands t.scene ys d) → ((d : Draft) → Stands t.scene (x ∷ ys) d → Stands t.scene ys (push t.scene.moment step d)) → IsSoFar case Stands first all u ys
    takes_next u step e is pass move = subst (λ (v : Taking). IsSoFar case Stands first all v ys) (sym e) (record {
      scene = h.scene;
      same = next_case t (case t.scene.moment) x xs ys are (with_step t step) step refl is ∙ h.same;
      taking = still_taking t step h.taking;
      standing = either t step h.taking (Stands t.scene ys) (pass t.drafting.draft stand) (move t.drafting.draft stand);
    })
