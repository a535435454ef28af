-- The first blocked job of a key is one.
use Rattle.std.proofs.Common.{◌≡◌, ℕ, ℤ, true, List, [], ◌∷◌, map, filter, Option, Some, ap, sym, ◌∙◌, subst}
use Rattle.std.proofs.lemmas.Bool.{true≢false, and_parts}
use Rattle.std.proofs.lemmas.Cmp.{int_cmp_total, on_total, then_total}
use Rattle.std.specs.Prelude.{Contains, is_some}
use Rattle.std.specs.Cmp.{IsTotalOrder, nat_cmp_total, tied_itself}
use Rattle.std.specs.Ordering.{nat_cmp}
use Rattle.std.specs.declared.cmp.Ordering.TheVariants.{Equal}
use Rattle.job_states.specs.States.{stage_of, is_blocked}
use Rattle.queue_model.specs.GoodWorld.{IsGood}
use Rattle.queue_model.specs.Map as finite
use Rattle.queue_model.specs.World.{World, is_key}
use Rattle.queue_model.specs.declared.Job.{Job}
use Rattle.queue_model.proofs.Steps.{same_Some}
use Rattle.row_locks.proofs.Membership.{Contains-head, Contains-from_map, Contains-from_filter}
use Rattle.plan_model.specs.Orders.{priority_cmp, place_of, in_order, first_of, first_blocked, is_blocked_at}
use Rattle.plan_model.proofs.Apart.{AreApart, values_apart}
use Rattle.plan_model.proofs.MapLemmas.{entry_found, value_found, values_of_entries, filter_passes}

pub priority_total : IsTotalOrder priority_cmp
priority_total = then_total (on_total (λ (p : ℤ × ℕ). p.0) int_cmp_total) (on_total (λ (p : ℤ × ℕ). p.1) nat_cmp_total)

pub first_is : {A : Type 0} (xs : List A) (x : A) → first_of xs ≡ Some x → Contains xs x
first_is [] x e = absurd (true≢false (sym (ap is_some e)))
first_is (y ∷ ys) x e = subst (λ z. Contains (y ∷ ys) z) (same_Some y x e) (Contains-head y ys)

-- what is put in order was there
pub ordered : (jobs : List Job) (j : Job) → Contains (in_order jobs) j → Contains jobs j
ordered jobs j h =
    let entry = Contains-from_map (λ (e : (ℤ × ℕ) × Job). e.1) (map (λ (x : Job). (place_of x, x)) jobs) j (values_of_entries priority_total (map (λ (x : Job). (place_of x, x)) jobs) j h) in
    let job = Contains-from_map (λ (x : Job). (place_of x, x)) jobs entry.0 entry.1 in
    subst (λ x. Contains jobs x) (ap (λ (e : (ℤ × ℕ) × Job). e.1) job.2 ∙ entry.2) job.1

pub record IsBlockedAt (w : World) (key : List ℕ) (j : Job) : Type 0 where
  pub found : finite.get w.jobs j.row.id ≡ Some j
  pub blocked : is_blocked (Some (stage_of j.state)) ≡ true
  pub keyed : is_key key j.row.limited ≡ true

-- a job of a good world stands under its own number
pub own_place : (w : World) (j : Job) → IsGood w → Contains (finite.values w.jobs) j → finite.get w.jobs j.row.id ≡ Some j
own_place w j good h = let f = value_found nat_cmp_total w.jobs j h in subst (λ id. finite.get w.jobs id ≡ Some j) (sym (good.jobs f.0 j f.1).own_number) f.1

-- and so two at one number are the same
pub same_job : (f : ℕ → Option Job) (x j : Job) → f x.row.id ≡ Some x → f j.row.id ≡ Some j → x.row.id ≡ j.row.id → x ≡ j
same_job f x j found here same = same_Some x j (sym found ∙ ap f same ∙ here)

-- none stands there twice
pub jobs_apart : (w : World) → IsGood w → AreApart (finite.values w.jobs)
jobs_apart w good = values_apart nat_cmp_total (λ (j : Job). j.row.id) w.jobs.entries w.jobs.sorted (λ e h.
    subst (λ id. nat_cmp e.0 id ≡ Equal) (sym (good.jobs e.0 e.1 (entry_found nat_cmp_total w.jobs.entries e w.jobs.sorted h)).own_number) (tied_itself nat_cmp_total e.0))

pub first_is_blocked : (w : World) (key : List ℕ) (j : Job) → IsGood w → first_blocked w key ≡ Some j → IsBlockedAt w key j
first_is_blocked w key j good e =
    let jobs = filter (is_blocked_at key) (finite.values w.jobs) in
    let here : Contains jobs j = ordered jobs j (first_is (in_order jobs) j e) in
    let tests = and_parts (is_blocked (Some (stage_of j.state))) (is_key key j.row.limited) (filter_passes (is_blocked_at key) (finite.values w.jobs) j here) in
    record { found = own_place w j good (Contains-from_filter (is_blocked_at key) (finite.values w.jobs) j here); blocked = tests.0; keyed = tests.1 }
