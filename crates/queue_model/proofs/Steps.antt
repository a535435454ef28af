-- What a legal step is made of, and how it leaves the world.
use Rattle.std.proofs.Common.{◌≡◌, ◌+◌, ◌≤◌, ℕ, Bool, true, false, List, [], ◌∷◌, Option, None, Some, is_some, ap, sym, ◌∙◌, refl, subst, arith}
use Rattle.std.proofs.lemmas.Bool.{true≢false}
use Rattle.std.specs.Option.{unwrap_or}
use Rattle.job_states.specs.Ranges.{is_in_range}
use Rattle.job_states.specs.declared.row.Mode.TheVariants.{Shared}
use Rattle.job_states.specs.declared.transition.Transition.{Transition}
use Rattle.queue_model.specs.Chain.{◌>>=◌, ◌>>◌, when}
use Rattle.queue_model.specs.Footprints.{claims_by, new_claims}
use Rattle.queue_model.specs.Held.{holds}
use Rattle.queue_model.specs.Map as map
use Rattle.queue_model.specs.Named.{job_named, noted}
use Rattle.queue_model.specs.Replay.{steps}
use Rattle.queue_model.specs.Sights.{Rows, sees, set}
use Rattle.queue_model.specs.Transitions.{changes, step}
use Rattle.queue_model.specs.World.{World, is_holder, is_claimed_by, claims}
use Rattle.queue_model.specs.declared.Job.{Job}
use Rattle.queue_model.proofs.Cases.{no_job, shared_stays, claims_stay, permits_stay, claims_grow}
use Rattle.queue_model.proofs.Frames.{made, one, count-set, Keeps}
use Rattle.std.proofs.Common.{count_by}

-- ---- steps one after another

pub same_Some : {A : Type 0} (x y : A) → Some x ≡ Some y → x ≡ y
same_Some x y e = ap (λ o. unwrap_or o x) e

pub then : {A B : Type 0} (o : Option A) (f : A → Option B) (y : B) → (o >>= f) ≡ Some y → (x : A) × (o ≡ Some x) × (f x ≡ Some y)
then None f y h = absurd (true≢false (ap is_some (sym h)))
then (Some x) f y h = (x, refl, h)

pub passed : {B : Type 0} (b : Bool) (o : Option B) (y : B) → (when b >> o) ≡ Some y → (b ≡ true) × (o ≡ Some y)
passed true o y h = (refl, h)
passed false o y h = absurd (true≢false (ap is_some (sym h)))

-- ---- one step

-- the world after a transition that leaves these rows
abbrev pub world_after : World → ℕ → Transition → Rows → World
world_after w m t rows = made w (holds w t) rows (noted w.numbers m t)

pub record Step (w : World) (m : ℕ) (t : Transition) (v : World) (rows : Rows) : Type 0 where
  pub in_range : is_in_range t ≡ true
  pub legal : changes m (sees w (holds w t)) t ≡ Some rows
  pub after : world_after w m t rows ≡ v

pub step_is : (w v : World) (m : ℕ) (t : Transition) → step w m t ≡ Some v → (rows : Rows) × Step w m t v rows
step_is w v m t h =
    let a = passed (is_in_range t) _ v h in
    let b = then (changes m (sees w (holds w t)) t) _ v a.1 in
    (b.0, record { in_range = a.0; legal = b.1; after = same_Some (world_after w m t b.0) v b.2 })

-- in range, and with these changes, it is a step
pub steps_to : (w : World) (m : ℕ) (t : Transition) (rows : Rows) → is_in_range t ≡ true → changes m (sees w (holds w t)) t ≡ Some rows → step w m t ≡ Some (world_after w m t rows)
steps_to w m t rows in_range legal = ap (λ b. when b >> (changes m (sees w (holds w t)) t >>= (λ c. Some (world_after w m t c)))) in_range ∙ ap (λ (o : Option Rows). o >>= (λ c. Some (world_after w m t c))) legal

-- ---- what it writes

written : {K X : Type 0} (k : Option K) (x : Option X) → (k ≡ None → x ≡ None) → (k >>= λ _. x) ≡ x
written None x none = sym (none refl)
written (Some k) x none = refl

-- the job that it writes is the job after it
pub job_written : (w : World) (m : ℕ) (t : Transition) (c : Rows) → changes m (sees w (holds w t)) t ≡ Some c → (job_named t >>= λ _. c.job) ≡ c.job
job_written w m t c h = written (job_named t) c.job (λ e. no_job m (sees w (holds w t)) t c h e ∙ ap (λ k. k >>= map.get w.jobs) e)

-- what its job counted before goes, and what it counts now comes
pub count_after : (p : Job → Bool) (w : World) (m : ℕ) (t : Transition) (c : Rows) → changes m (sees w (holds w t)) t ≡ Some c → count_by p (map.values (set w.jobs (job_named t) c.job)) + one p (job_named t >>= map.get w.jobs) ≡ count_by p (map.values w.jobs) + one p c.job
count_after p w m t c h = count-set p w.jobs (job_named t) c.job ∙ ap (λ j. count_by p (map.values w.jobs) + one p j) (job_written w m t c h)

-- it keeps what it doesn't hold
pub keeps : (w : World) (m : ℕ) (t : Transition) (c : Rows) → changes m (sees w (holds w t)) t ≡ Some c → Keeps w (holds w t) c
keeps w m t c h =
    let is = sym (job_written w m t c h) in
    record {
      permits = λ k g a. permits_stay m (sees w (holds w t)) t c k g h a ∙ ap (one (is_holder k g)) is;
      claims = λ pid a. claims_stay m (sees w (holds w t)) t c pid h (a Shared) ∙ ap (one (is_claimed_by pid)) is;
      shared = λ pid e. shared_stays m (sees w (holds w t)) t c pid h e;
    }

-- ---- claims

-- they grow by no more than the Claim transitions
pub claims_after : (w v : World) (m : ℕ) (t : Transition) (pid : ℕ) → step w m t ≡ Some v → claims v pid ≤ claims w pid + claims_by pid t
claims_after w v m t pid h =
    let s = step_is w v m t h in
    let total = count_after (is_claimed_by pid) w m t s.0 s.1.legal in
    let few = claims_grow m (sees w (holds w t)) t s.0 pid s.1.legal in
    subst (λ u. claims u pid ≤ claims w pid + claims_by pid t) s.1.after (omega (arith, total, few))

pub first_claims : (pid : ℕ) (t : Transition) (ts : List Transition) → new_claims pid (t ∷ ts) ≡ claims_by pid t + new_claims pid ts
first_claims pid t ts = refl

pub claims_after_all : (w v : World) (m : ℕ) (ts : List Transition) (pid : ℕ) → steps w m ts ≡ Some v → claims v pid ≤ claims w pid + new_claims pid ts
claims_after_all w v m [] pid end = let e : claims w pid ≡ claims v pid = ap (λ u. claims u pid) (same_Some w v end) in omega (arith, e)
claims_after_all w v m (t ∷ ts) pid end =
    let first = then (step w m t) (λ u. steps u m ts) v end in
    let a = claims_after w first.0 m t pid first.1 in
    let b = claims_after_all first.0 v m ts pid first.2 in
    let c = first_claims pid t ts in
    omega (arith, a, b, c)
