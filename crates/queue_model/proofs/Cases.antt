-- What each legal transition does to the rows that it sees, case by case.
use Rattle.std.proofs.Common.{◌≡◌, ◌≢◌, ◌+◌, ◌≤◌, ◌<◌, ℕ, Bool, true, false, ◌&&◌, eqb, List, [], ◌∷◌, Option, None, Some, ap, sym, ◌∙◌, refl, arith}
use Rattle.std.proofs.lemmas.Bool.{true≢false, and_parts, eqb-true, eq-eqb}
use Rattle.std.specs.Str.{bytes_eq}
use Rattle.std.specs.Prelude.{option_map, Ok}
use Rattle.job_states.specs.States.{stage_of, check_of}
use Rattle.job_states.specs.declared.job.Limited.{Limited}
use Rattle.job_states.specs.declared.row.Mode.TheVariants.{Shared}
use Rattle.job_states.specs.declared.transition.Transition.{Transition}
use Rattle.job_states.specs.declared.transition.Transition.TheVariants.{Enqueue, Claim, Deregister}
use Rattle.queue_model.specs.Footprints.{claims_by}
use Rattle.queue_model.specs.Held.{held, key_of}
use Rattle.queue_model.specs.Named.{job_named}
use Rattle.queue_model.specs.Sights.{Rows, Sight}
use Rattle.queue_model.specs.Transitions.{changes}
use Rattle.queue_model.specs.World.{is_holder, is_key, is_claimed_by}
use Rattle.queue_model.proofs.Frames.{one}

-- ---- keys

pub same_bytes : (a b : List ℕ) → bytes_eq a b ≡ true → a ≡ b
same_bytes [] [] e = refl
same_bytes [] (y ∷ ys) e = absurd (true≢false (sym e))
same_bytes (x ∷ xs) [] e = absurd (true≢false (sym e))
same_bytes (x ∷ xs) (y ∷ ys) e = let p = and_parts (eqb x y) (bytes_eq xs ys) e in λ i. eqb-true x y p.0 i ∷ same_bytes xs ys p.1 i

pub bytes_same : (a : List ℕ) → bytes_eq a a ≡ true
bytes_same [] = refl
bytes_same (x ∷ xs) = ap (λ b. b && bytes_eq xs xs) (eq-eqb x x refl) ∙ bytes_same xs

other_key : (limited : Option Limited) (k : List ℕ) (b : Bool) → ¬ (key_of limited ≡ Some k) → (is_key k limited && b) ≡ false
other_key None k b ne = refl
other_key (Some limited) k b ne = by (bytes_eq limited.key k) refl
  where
    by : (t : Bool) → bytes_eq limited.key k ≡ t → (t && b) ≡ false
    by true e = absurd (ne (ap Some (same_bytes limited.key k e)))
    by false e = refl

no_permit : (limited : Option Limited) (k : List ℕ) → (is_key k limited && false) ≡ false
no_permit limited k = by (is_key k limited)
  where
    by : (b : Bool) → (b && false) ≡ false
    by true = refl
    by false = refl

-- ---- what it leaves

-- a transition that names no job leaves it
pub no_job : (m : ℕ) (s : Sight) (t : Transition) (c : Rows) → changes m s t ≡ Some c → job_named t ≡ None → c.job ≡ s.rows.job
no_job m s t c h e = grind arith

-- a process that is shared stays
pub shared_stays : (m : ℕ) (s : Sight) (t : Transition) (c : Rows) (pid : ℕ) → changes m s t ≡ Some c → (held s.rows.job t).process ≡ Some (pid, Shared) → c.process ≡ s.rows.process
shared_stays m s t c pid h e = grind arith

-- claims come and go under their process alone
pub claims_stay : (m : ℕ) (s : Sight) (t : Transition) (c : Rows) (pid : ℕ) → changes m s t ≡ Some c → (held s.rows.job t).process ≢ Some (pid, Shared) → one (is_claimed_by pid) s.rows.job ≡ one (is_claimed_by pid) c.job
claims_stay m s (Enqueue r put) c pid h a = grind arith
claims_stay m s t c pid h a = grind arith

-- permits come and go under their key alone
pub permits_stay : (m : ℕ) (s : Sight) (t : Transition) (c : Rows) (k : List ℕ) (g : ℕ) → changes m s t ≡ Some c → (held s.rows.job t).key ≢ Some k → one (is_holder k g) s.rows.job ≡ one (is_holder k g) c.job
permits_stay m s (Enqueue r put) c k g h a = grind (arith, other_key, no_permit)
permits_stay m s t c k g h a = grind (arith, other_key, no_permit)

-- a process gains a claim by a Claim for it alone
pub claims_grow : (m : ℕ) (s : Sight) (t : Transition) (c : Rows) (pid : ℕ) → changes m s t ≡ Some c → one (is_claimed_by pid) c.job ≤ one (is_claimed_by pid) s.rows.job + claims_by pid t
claims_grow m s t c pid h = grind arith

-- ---- what it reads of claims

-- so many claims leave a transition as legal
abbrev pub Allows : Transition → (before now : ℕ) → Type 0
Allows (Claim id pid) before now = now < 500
Allows (Deregister pid) before now = now ≡ before
Allows t before now = Unit {0}

pub allowed : (m : ℕ) (s : Sight) (t : Transition) (n : ℕ) (c : Rows) → changes m s t ≡ Some c → Allows t s.claims n → changes m (record s { claims = n }) t ≡ Some c
allowed m s t n c h a = grind arith

-- ---- where its job stands

-- its job is at the stage from which the transition takes it
pub checked : (m : ℕ) (s : Sight) (t : Transition) (c : Rows) → changes m s t ≡ Some c → check_of t (option_map (λ j. stage_of j.state) s.rows.job) ≡ Ok tt
checked m s t c h = grind arith
