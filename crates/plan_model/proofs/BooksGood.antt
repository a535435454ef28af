-- A book stays good: where nothing is open, where a plan is opened, and where one ends.
use Rattle.std.proofs.Common.{◌≡◌, ◌≢◌, ◌+◌, ◌≤◌, ℕ, List, Some, ap, sym, ◌∙◌, subst, arith, ⊎_elim, is_some}
use Rattle.std.proofs.lemmas.Bool.{true≢false}
use Rattle.job_states.specs.declared.row.Mode.{Mode}
use Rattle.job_states.specs.declared.row.Mode.TheVariants.{Shared, Alone}
use Rattle.job_states.specs.declared.row.Row.{Row}
use Rattle.queue_model.specs.Footprints.{new_claims}
use Rattle.queue_model.specs.GoodWorld.{IsGood}
use Rattle.queue_model.specs.Map as map
use Rattle.queue_model.specs.Replay.{after}
use Rattle.queue_model.specs.World.{World, claims}
use Rattle.queue_model.specs.declared.Numbers.{Numbers}
use Rattle.row_locks.specs.Footprints.{AreCompatible, FitTogether}
use Rattle.plan_model.specs.Books.{Book, given_by, opened_over, with_applied, with_plan, without_plan}
use Rattle.plan_model.specs.GoodBook.{AreAbove, IsGoodBook, IsLegalIn, IsOpenPlan, MayOpen}
use Rattle.plan_model.specs.Plans.{Plan}
use Rattle.plan_model.proofs.BooksGiven.{AreNext, above_itself, given_above, given_next, given_stay, given_up}
use Rattle.plan_model.proofs.BooksKept.{found_after_insert, found_after_remove, in_plans_found, in_plans_with, in_plans_without, two_in_plans}

-- how many Claims by the process
abbrev claims_in : (pid : ℕ) → Plan → ℕ
claims_in pid plan = new_claims pid plan.tx.steps

swapped : (xs ys : List (Row × Mode)) → AreCompatible xs ys → AreCompatible ys xs
swapped xs ys fit = λ r m n in_ys in_xs. turned n m (fit r n m in_xs in_ys)
  where
    turned : (m n : Mode) → FitTogether m n → FitTogether n m
    turned Shared Shared h = tt
    turned Shared Alone h = absurd h
    turned Alone n h = absurd h

-- ---- nothing is open

pub nothing_open : (w : World) → IsGood w → IsGoodBook (opened_over w)
nothing_open w good = record {
  world = good;
  plans = λ seat plan h. absurd (true≢false (ap is_some (sym h)));
  compatible = λ seat other plan theirs ne h there. absurd (true≢false (ap is_some (sym h)));
  few_claims = λ pid. let few = good.few_claims pid in omega (arith, few);
  given = above_itself w.numbers;
  next_job = good.next_job;
  next_pid = good.next_pid;
  next_generation = good.next_generation;
  moment = good.moment;
}

-- ---- a plan is opened

module _ (b : Book) (seat : ℕ) (plan : Plan) (good : IsGoodBook b) (may : MayOpen b seat plan) where
  given : Numbers
  given = given_by plan.tx b.given

  opened_plan : IsOpenPlan (with_plan b seat plan) plan
  opened_plan = record { legal = may.legal; told = may.told; given = given_stay plan.tx b.given (given_by plan.tx b.given) (above_itself (given_by plan.tx b.given)) }

  older_plan : (other : ℕ) (theirs : Plan) → map.get b.open_plans other ≡ Some theirs → IsOpenPlan (with_plan b seat plan) theirs
  older_plan other theirs there =
      let old = good.plans other theirs there in
      record {
        legal = old.legal;
        told = old.told;
        given = given_stay theirs.tx b.given (given_by plan.tx b.given) (subst (λ n. AreAbove n (given_by plan.tx b.given)) (sym old.given) (given_up plan.tx b.given));
      }

  above_world : AreAbove b.world.numbers (given_by plan.tx b.given)
  above_world =
      let old = good.given in
      let new = given_up plan.tx b.given in
      record { job = omega arith; pid = omega arith; generation = omega arith; moment = omega arith }

  next_numbers : AreNext (given_by plan.tx b.given)
  next_numbers = given_next b.world may.legal.0 plan.tx b.given may.legal.1.legal (record { job = good.next_job; pid = good.next_pid; generation = good.next_generation; moment = good.moment })

  -- its rows go together with those of each plan that is open
  module _ (fit : (other : ℕ) (theirs : Plan) → map.get b.open_plans other ≡ Some theirs → AreCompatible plan.rows theirs.rows) where
    pairs : (one other : ℕ) (mine theirs : Plan) → one ≢ other → map.get (with_plan b seat plan).open_plans one ≡ Some mine → map.get (with_plan b seat plan).open_plans other ≡ Some theirs → AreCompatible mine.rows theirs.rows
    pairs one other mine theirs ne here there = ⊎_elim
        (λ (new : (seat ≡ one) × (plan ≡ mine)). ⊎_elim
        (λ (too : (seat ≡ other) × (plan ≡ theirs)). absurd (ne (sym new.0 ∙ too.0)))
        (λ old. subst (λ (p : Plan). AreCompatible p.rows theirs.rows) new.1 (fit other theirs old))
        (found_after_insert b.open_plans seat plan other theirs there))
        (λ old. ⊎_elim
        (λ (new : (seat ≡ other) × (plan ≡ theirs)). subst (λ (p : Plan). AreCompatible mine.rows p.rows) new.1 (swapped plan.rows mine.rows (fit one mine old)))
        (λ too. good.compatible one other mine theirs ne old too)
        (found_after_insert b.open_plans seat plan other theirs there))
        (found_after_insert b.open_plans seat plan one mine here)

    pub plan_opened : IsGoodBook (with_plan b seat plan)
    plan_opened = record {
      world = good.world;
      plans = λ other theirs there. ⊎_elim
          (λ (new : (seat ≡ other) × (plan ≡ theirs)). subst (IsOpenPlan (with_plan b seat plan)) new.1 opened_plan)
          (λ old. older_plan other theirs old)
          (found_after_insert b.open_plans seat plan other theirs there);
      compatible = pairs;
      few_claims = λ pid. let sum = in_plans_with b (claims_in pid) seat plan may.vacant in let few = may.few_claims pid in omega (arith, sum, few);
      given = above_world;
      next_job = next_numbers.job;
      next_pid = next_numbers.pid;
      next_generation = next_numbers.generation;
      moment = next_numbers.moment;
    }

-- ---- a plan ends

module _ (b : Book) (seat : ℕ) (good : IsGoodBook b) where
  pairs_left : (one other : ℕ) (mine theirs : Plan) → one ≢ other → map.get (without_plan b seat).open_plans one ≡ Some mine → map.get (without_plan b seat).open_plans other ≡ Some theirs → AreCompatible mine.rows theirs.rows
  pairs_left one other mine theirs ne here there = good.compatible one other mine theirs ne (found_after_remove b.open_plans seat one mine here).1 (found_after_remove b.open_plans seat other theirs there).1

  pub plan_gone : IsGoodBook (without_plan b seat)
  plan_gone = record {
    world = good.world;
    plans = λ other theirs there. let old = good.plans other theirs (found_after_remove b.open_plans seat other theirs there).1 in record { legal = old.legal; told = old.told; given = old.given };
    compatible = pairs_left;
    few_claims = λ pid. let sum = in_plans_without b (claims_in pid) seat in let few = good.few_claims pid in omega (arith, sum, few);
    given = good.given;
    next_job = good.next_job;
    next_pid = good.next_pid;
    next_generation = good.next_generation;
    moment = good.moment;
  }

  module _ (plan : Plan) (found : map.get b.open_plans seat ≡ Some plan) where
    -- it has room beside any other
    pub room : (other : ℕ) (theirs : Plan) → seat ≢ other → map.get b.open_plans other ≡ Some theirs → (pid : ℕ) → claims b.world pid + new_claims pid plan.tx.steps + new_claims pid theirs.tx.steps ≤ 500
    room other theirs ne there = λ pid.
        let two = two_in_plans b (claims_in pid) seat other plan theirs ne found there in
        let few = good.few_claims pid in
        omega (arith, two, few)

    -- the world that it leaves is good, and each other plan is legal there
    pub plan_applied : (end : World) → after b.world plan.tx ≡ Some end → IsGood end → ((pid : ℕ) → claims end pid ≤ claims b.world pid + new_claims pid plan.tx.steps) → ((other : ℕ) (theirs : Plan) → seat ≢ other → map.get b.open_plans other ≡ Some theirs → IsLegalIn end theirs) → IsGoodBook (with_applied b seat end)
    plan_applied end is good_end grown legal = record {
      world = good_end;
      plans = λ other theirs there.
          let left = found_after_remove b.open_plans seat other theirs there in
          let old = good.plans other theirs left.1 in
          record { legal = legal other theirs left.0 left.1; told = old.told; given = old.given };
      compatible = pairs_left;
      few_claims = λ pid.
          let sum = in_plans_found b (claims_in pid) seat plan found in
          let few = good.few_claims pid in
          let more = grown pid in
          omega (arith, sum, few, more);
      given = subst (λ n. AreAbove end.numbers n) (good.plans seat plan found).given (given_above b.world end plan.tx b.given is good.given);
      next_job = good.next_job;
      next_pid = good.next_pid;
      next_generation = good.next_generation;
      moment = good.moment;
    }
