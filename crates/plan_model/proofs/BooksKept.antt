-- Which plans are open after one more is opened or one ends, and what is counted of them.
use Rattle.std.proofs.Common.{◌≡◌, ◌≢◌, ◌+◌, ◌≤◌, ◌⊎◌, ℕ, cond, None, Some, Ordering, ap, sym, ◌∙◌, refl, subst, arith, inl, inr}
use Rattle.std.specs.declared.cmp.Ordering.TheVariants.{Less, Equal, Greater}
use Rattle.std.specs.Ordering.{is_eq, nat_cmp}
use Rattle.std.specs.Cmp.{nat_cmp_total}
use Rattle.std.specs.FinMap.{nat_cmp-IsAntisymmetric}
use Rattle.queue_model.specs.Map.{Map, get, insert, remove}
use Rattle.queue_model.proofs.Counts.{weight, sum_by-set}
use Rattle.queue_model.proofs.Maps.{get-insert, get-set_other, get-set_same}
use Rattle.queue_model.proofs.Steps.{same_Some}
use Rattle.plan_model.specs.Books.{Book, in_plans, with_plan, without_plan}
use Rattle.plan_model.specs.Plans.{Plan}

module _ {X : Type 0} (m : Map nat_cmp X) (k : ℕ) where
  -- one more is at its own key
  pub found_after_insert : (x : X) (q : ℕ) (v : X) → get (insert m k x) q ≡ Some v → ((k ≡ q) × (x ≡ v)) ⊎ (get m q ≡ Some v)
  found_after_insert x q v h = by (nat_cmp q k) refl (sym (get-insert nat_cmp_total m k x q) ∙ h)
    where
      by : (r : Ordering) → nat_cmp q k ≡ r → cond (is_eq r) (Some x) (get m q) ≡ Some v → ((k ≡ q) × (x ≡ v)) ⊎ (get m q ≡ Some v)
      by Less is h = inr h
      by Greater is h = inr h
      by Equal is h = inl (sym (nat_cmp-IsAntisymmetric q k is), same_Some x v h)

  -- what is found after one went isn't at its key, and was there
  pub found_after_remove : (q : ℕ) (v : X) → get (remove m k) q ≡ Some v → (k ≢ q) × (get m q ≡ Some v)
  found_after_remove q v h = (other, sym (get-set_other nat_cmp_total nat_cmp-IsAntisymmetric m (Some k) None q (λ e. other (same_Some k q e))) ∙ h)
    where
      other : k ≢ q
      other e = let gone : get (remove m k) q ≡ None = subst (λ x. get (remove m k) x ≡ None) e (get-set_same nat_cmp_total m k None) in cc

  pub still_found : (q : ℕ) (v : X) → k ≢ q → get m q ≡ Some v → get (remove m k) q ≡ Some v
  still_found q v ne h = get-set_other nat_cmp_total nat_cmp-IsAntisymmetric m (Some k) None q (λ e. ne (same_Some k q e)) ∙ h

-- ---- what is counted

module _ (b : Book) (f : Plan → ℕ) where
  pub in_plans_with : (seat : ℕ) (plan : Plan) → get b.open_plans seat ≡ None → in_plans (with_plan b seat plan) f ≡ in_plans b f + f plan
  in_plans_with seat plan vacant =
      let sum = sum_by-set nat_cmp_total f nat_cmp-IsAntisymmetric b.open_plans seat (Some plan) in
      let none : weight f (get b.open_plans seat) ≡ 0 = ap (weight f) vacant in
      omega (arith, sum, none)

  pub in_plans_without : (seat : ℕ) → in_plans (without_plan b seat) f + weight f (get b.open_plans seat) ≡ in_plans b f
  in_plans_without seat = let sum = sum_by-set nat_cmp_total f nat_cmp-IsAntisymmetric b.open_plans seat None in omega (arith, sum)

  pub in_plans_found : (seat : ℕ) (plan : Plan) → get b.open_plans seat ≡ Some plan → in_plans (without_plan b seat) f + f plan ≡ in_plans b f
  in_plans_found seat plan found = let e : weight f (get b.open_plans seat) ≡ f plan = ap (weight f) found in let sum = in_plans_without seat in omega (arith, e, sum)

-- two plans that are open make up no more than all
pub two_in_plans : (b : Book) (f : Plan → ℕ) (seat other : ℕ) (plan theirs : Plan) → seat ≢ other → get b.open_plans seat ≡ Some plan → get b.open_plans other ≡ Some theirs → f plan + f theirs ≤ in_plans b f
two_in_plans b f seat other plan theirs ne mine there =
    let first = in_plans_found b f seat plan mine in
    let second = in_plans_found (without_plan b seat) f other theirs (still_found b.open_plans seat other theirs ne there) in
    omega (arith, first, second)
