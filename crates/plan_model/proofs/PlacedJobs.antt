-- The jobs that pass, each at its place in the order of priority and number.
use Rattle.std.proofs.Common.{◌≡◌, ℕ, ℤ, Bool, true, false, cond, List, [], ◌∷◌, map, filter, Option, None, Some, IsSome, is_some, Ordering, Contains, ap, sym, ◌∙◌, refl, subst, inl, inr}
use Rattle.std.proofs.lemmas.Bool.{true≢false}
use Rattle.std.proofs.lemmas.Map.Lookups.{exact_pairs, exact_signed, exact_unsigned}
use Rattle.std.specs.Cmp.{IsTotalOrder, tied_itself}
use Rattle.std.specs.FinMap.{IsAntisymmetric}
use Rattle.std.specs.FinMap.Entries.{find}
use Rattle.std.specs.Ordering.{is_eq, eq_by_cmp, nat_cmp, int_cmp}
use Rattle.queue_model.specs.GoodWorld.{IsGood}
use Rattle.queue_model.specs.Map as finite
use Rattle.queue_model.specs.Map.{get, from_entries}
use Rattle.queue_model.specs.World.{World}
use Rattle.queue_model.specs.declared.Job.{Job}
use Rattle.queue_model.proofs.Maps.{get-insert}
use Rattle.queue_model.proofs.Steps.{same_Some}
use Rattle.row_locks.proofs.Membership.{none, Contains-head, Contains-tail, Contains-cons_cases, Contains-map, Contains-from_map, Contains-filter, Contains-from_filter}
use Rattle.plan_model.specs.Orders.{priority_cmp, place_of, placed}
use Rattle.plan_model.proofs.MapLemmas.{made_at, filter_passes}
use Rattle.plan_model.proofs.OrderLemmas.{priority_total, own_place}

pub exact_priority : IsAntisymmetric priority_cmp
exact_priority = exact_pairs int_cmp nat_cmp exact_signed exact_unsigned

-- ---- maps

-- what a map has at a key is a value
pub found_value : {K X : Type 0} (R : K → K → Ordering) (es : List (K × X)) (k : K) (v : X) → find R k es ≡ Some v → Contains (map (λ e. e.1) es) v
found_value R [] k v h = absurd (true≢false (sym (ap is_some h)))
found_value R (e ∷ es) k v h = by (eq_by_cmp R k e.0) h (found_value R es k v)
  where
    by : (b : Bool) → cond b (Some e.1) (find R k es) ≡ Some v → (find R k es ≡ Some v → Contains (map (λ e. e.1) es) v) → Contains (e.1 ∷ map (λ e. e.1) es) v
    by true f rest = subst (Contains (e.1 ∷ map (λ e. e.1) es)) (same_Some e.1 v f) (Contains-head e.1 (map (λ e. e.1) es))
    by false f rest = Contains-tail e.1 (map (λ e. e.1) es) v (rest f)

-- a map that is made of entries has something at the key of each
pub entry_there : {K X : Type 0} {R : K → K → Ordering} → IsTotalOrder R → (es : List (K × X)) (e : K × X) → Contains es e → IsSome (get (from_entries {R = R} es) e.0)
entry_there o [] e h = absurd (none e h)
entry_there {R = R} o (x ∷ es) e h = subst IsSome (sym (get-insert o (from_entries es) x.0 x.1 e.0)) (elim (Contains-cons_cases x es e h) [
  | inl is ↦ subst (λ k. IsSome (cond (eq_by_cmp R k x.0) (Some x.1) (get (from_entries {R = R} es) k))) (ap (λ z. z.0) is) (ap (λ r. is_some (cond (is_eq r) (Some x.1) (get (from_entries {R = R} es) x.0))) (tied_itself o x.0))
  | inr later ↦ by (eq_by_cmp R e.0 x.0) (entry_there o es e later)
])
  where
    by : (b : Bool) → IsSome (get (from_entries {R = R} es) e.0) → IsSome (cond b (Some x.1) (get (from_entries {R = R} es) e.0))
    by true s = refl
    by false s = s

-- ---- the jobs that pass, by their places

pub record IsPlaced (w : World) (p : Job → Bool) (x : ℤ × ℕ) (j : Job) : Type 0 where
  pub found : get w.jobs x.1 ≡ Some j
  pub place : place_of j ≡ x
  pub passes : p j ≡ true

module _ (w : World) (p : Job → Bool) (good : IsGood w) where
  pub placed_job : (x : ℤ × ℕ) (j : Job) → get (placed (filter p (finite.values w.jobs))) x ≡ Some j → IsPlaced w p x j
  placed_job x j h =
      let m = made_at priority_total (map (λ (k : Job). (place_of k, k)) (filter p (finite.values w.jobs))) x j h in
      let e = Contains-from_map (λ (k : Job). (place_of k, k)) (filter p (finite.values w.jobs)) m.0 m.1 in
      let same : e.0 ≡ j = ap (λ z. z.1) e.2 ∙ m.2 in
      let place : place_of j ≡ x = ap place_of (sym same) ∙ ap (λ z. z.0) e.2 ∙ sym (exact_priority x m.0.0 m.3) in
      let there : Contains (filter p (finite.values w.jobs)) j = subst (Contains (filter p (finite.values w.jobs))) same e.1 in
      record {
        found = subst (λ id. get w.jobs id ≡ Some j) (ap (λ z. z.1) place) (own_place w j good (Contains-from_filter p (finite.values w.jobs) j there));
        place = place;
        passes = filter_passes p (finite.values w.jobs) j there;
      }

  pub job_placed : (x : ℤ × ℕ) (j : Job) → IsPlaced w p x j → get (placed (filter p (finite.values w.jobs))) x ≡ Some j
  job_placed x j h =
      let there : Contains (filter p (finite.values w.jobs)) j = Contains-filter p (finite.values w.jobs) j (found_value nat_cmp w.jobs.entries x.1 j h.found) h.passes in
      let entry = entry_there priority_total (map (λ (k : Job). (place_of k, k)) (filter p (finite.values w.jobs))) (place_of j, j) (Contains-map (λ (k : Job). (place_of k, k)) (filter p (finite.values w.jobs)) j there) in
      by (get (placed (filter p (finite.values w.jobs))) x) refl (subst (λ q. IsSome (get (placed (filter p (finite.values w.jobs))) q)) h.place entry)
    where
      by : (o : Option Job) → get (placed (filter p (finite.values w.jobs))) x ≡ o → IsSome o → o ≡ Some j
      by None is s = absurd (true≢false (sym s))
      by (Some k) is s = sym (placed_job x k is).found ∙ h.found
