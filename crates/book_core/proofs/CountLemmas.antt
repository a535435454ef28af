-- What is counted of open plans.
use Rattle.std.proofs.Common.{◌≡◌, ◌+◌, ◌^◌, ◌<◌, ◌≤◌, ℕ, Bool, List, [], ◌∷◌, map, length, Option, None, Some, ap, ◌∙◌, refl, arith}
use Rattle.std.specs.List.{count_by, sum_by}
use Rattle.std.specs.List.Sorted.{IsStrictlySortedBy}
use Rattle.std.specs.BTreeMap.{insert_entry, is_at}
use Rattle.std.specs.Cmp.{nat_cmp_total}
use Rattle.std.specs.Map.{keys_of, lookup, remove_entry, values_of}
use Rattle.std.specs.Option.{option_map, unwrap_or}
use Rattle.std.specs.Ordering.{nat_cmp}
use Rattle.std.proofs.lemmas.Bool.Decides.{nat_tests}
use Rattle.std.proofs.lemmas.List.Sums.{count_by-le-length, sum_by-cons}
use Rattle.std.proofs.lemmas.Map.Entries.{sum_by-insert_entry, sum_by-remove_entry}
use Rattle.job_states.specs.declared.transition.Transition.{Transition}
use Rattle.job_states.specs.declared.transition.Transition.TheVariants.{Claim}
use Rattle.queue_model.specs.Footprints.{claims_by, new_claims}
use Rattle.queue_model.specs.GoodWorld.{IsGiven, IsGood}
use Rattle.queue_model.specs.Map.{values}
use Rattle.queue_model.specs.World.{World}
use Rattle.row_locks.specs.Locks.{Lock}
use Rattle.plan_model.specs.Plans.{Plan}
use Rattle.book_core.specs.Counts.{count_in, is_claim_by, is_counted, planned_at, planned_in}
use Rattle.book_core.specs.Seen.{plan_at, plans_of}
use Rattle.book_core.specs.declared.counts.Counted.{Counted}
use Rattle.book_core.specs.declared.counts.Counted.TheVariants.{Any}
use Rattle.book_core.specs.declared.opened.Opened.{Opened}
use Rattle.book_core.proofs.EntryMaps.{entries-made, few_values}
use Rattle.book_core.proofs.Ordered.{count_first, one}

-- a sum over open plans as the book has them
pub sum_plans : (locks : List Lock) (es : List (ℕ × Opened)) (f : Plan → ℕ) (g : Opened → ℕ) → ((seat : ℕ) (plan : Opened) → f (plan_at locks seat plan) ≡ g plan) → IsStrictlySortedBy nat_cmp (keys_of es) → sum_by f (values (plans_of locks es)) ≡ sum_by g (values_of es)
sum_plans locks es f g same up = ap (λ (xs : List (ℕ × Plan)). sum_by f (values_of xs)) (entries-made (plan_at locks) es up) ∙ each es
  where
    each : (es : List (ℕ × Opened)) → sum_by f (values_of (map (λ (e : ℕ × Opened). (e.0, plan_at locks e.0 e.1)) es)) ≡ sum_by g (values_of es)
    each [] = refl
    each (e ∷ es) =
        let rest = each es in
        let here = same e.0 e.1 in
        omega (arith, here, rest, sum_by-cons f (plan_at locks e.0 e.1) (values_of (map (λ (e : ℕ × Opened). (e.0, plan_at locks e.0 e.1)) es)), sum_by-cons g e.1 (values_of es))

pub no_more_than_planned : (counted : Counted) (es : List (ℕ × Opened)) → count_in counted es ≤ planned_in es
no_more_than_planned counted [] = omega arith
no_more_than_planned counted (e ∷ es) =
    let rest = no_more_than_planned counted es in
    let here = count_by-le-length (is_counted counted) e.1.tx.steps in
    omega (arith, here, rest, sum_by-cons (λ (plan : Opened). count_by (is_counted counted) plan.tx.steps) e.1 (values_of es), sum_by-cons (λ (plan : Opened). length plan.tx.steps) e.1 (values_of es))

claim_is : (pid : ℕ) (t : Transition) → claims_by pid t ≡ one (is_claim_by pid t)
claim_is pid (Claim id by) = refl
claim_is pid t = refl

pub claims_are : (pid : ℕ) (ts : List Transition) → new_claims pid ts ≡ count_by (is_claim_by pid) ts
claims_are pid [] = refl
claims_are pid (t ∷ ts) =
    let rest = claims_are pid ts in
    let here = claim_is pid t in
    omega (arith, here, rest, count_first (is_claim_by pid) t ts)

-- numbers of jobs, and of processes, are up to 2^63
given_range : (next n : ℕ) → IsGiven next n → (1 ≤ n) × (n < 2 ^ 63 + 1)
given_range next n given = grind (arith, nat_tests)

pub few_jobs : (w : World) → IsGood w → length w.jobs.entries ≤ 2 ^ 63
few_jobs w good = few_values w.jobs 1 (2 ^ 63 + 1) (λ id j found. given_range w.numbers.job id (good.jobs id j found).number)

pub few_processes : (w : World) → IsGood w → length w.processes.entries ≤ 2 ^ 63
few_processes w good = few_values w.processes 1 (2 ^ 63 + 1) (λ pid p found. given_range w.numbers.pid pid (good.processes pid p found).number)

-- ---- a plan less, and one more

planned_is : (o : Option Opened) → planned_at o ≡ unwrap_or (option_map (λ (plan : Opened). length plan.tx.steps) o) 0
planned_is None = refl
planned_is (Some plan) = refl

pub planned_left : (test : ℕ → Bool) (es fs : List (ℕ × Opened)) (o : Option Opened) → fs ≡ remove_entry test es → o ≡ lookup test es → planned_in fs + planned_at o ≡ planned_in es
planned_left test es fs o left found =
    ap (λ (es : List (ℕ × Opened)). planned_in es + planned_at o) left
    ∙ ap (λ n. planned_in (remove_entry test es) + n) (planned_is o ∙ ap (λ o. unwrap_or (option_map (λ (plan : Opened). length plan.tx.steps) o) 0) found)
    ∙ sum_by-remove_entry (λ (plan : Opened). length plan.tx.steps) test es

pub planned_more : (es fs : List (ℕ × Opened)) (seat : ℕ) (plan : Opened) → fs ≡ insert_entry nat_cmp es seat plan → lookup (is_at (nat_cmp seat)) es ≡ None → IsStrictlySortedBy nat_cmp (keys_of es) → planned_in fs ≡ planned_in es + length plan.tx.steps
planned_more es fs seat plan more vacant up =
    let none : unwrap_or (option_map (λ (plan : Opened). length plan.tx.steps) (lookup (is_at (nat_cmp seat)) es)) 0 ≡ 0 = ap (λ o. unwrap_or (option_map (λ (plan : Opened). length plan.tx.steps) o) 0) vacant in
    let same : planned_in fs ≡ planned_in (insert_entry nat_cmp es seat plan) = ap (λ (es : List (ℕ × Opened)). planned_in es) more in
    omega (arith, none, same, sum_by-insert_entry (λ (plan : Opened). length plan.tx.steps) nat_cmp_total es seat plan up)

pub all_counted : (es : List (ℕ × Opened)) → count_in Any es ≡ planned_in es
all_counted [] = refl
all_counted (e ∷ es) =
    let rest = all_counted es in
    let here = all e.1.tx.steps in
    omega (arith, here, rest, sum_by-cons (λ (plan : Opened). count_by (is_counted Any) plan.tx.steps) e.1 (values_of es), sum_by-cons (λ (plan : Opened). length plan.tx.steps) e.1 (values_of es))
  where
    all : (ts : List Transition) → count_by (is_counted Any) ts ≡ length ts
    all [] = refl
    all (t ∷ ts) = let rest = all ts in omega (arith, rest, count_first (is_counted Any) t ts)
