-- A draft of legal transitions is a plan: what holds of it while it grows.
use Rattle.std.proofs.Common.{◌≡◌, ◌+◌, ◌≤◌, ℕ, Bool, true, false, cond, List, [], ◌∷◌, ◌++◌, Option, Some, ap, sym, refl, subst, ◌∙◌, ⊎_elim, inl, inr, arith}
use Rattle.std.proofs.lemmas.List.Elements.{Contains-append_left, Contains-append_right}
use Rattle.std.proofs.lemmas.List.Sums.{sum_by-append, sum_by-cons}
use Rattle.std.specs.List.{count_by}
use Rattle.std.specs.Prelude.{◌==◌}
use Rattle.job_states.specs.declared.row.Mode.{Mode}
use Rattle.job_states.specs.declared.row.Mode.TheVariants.{Alone}
use Rattle.job_states.specs.declared.row.Row.{Row}
use Rattle.job_states.specs.declared.transition.Transition.{Transition}
use Rattle.job_states.specs.declared.transition.Transition.TheVariants.{Claim}
use Rattle.queue_model.specs.Chain.{◌>>=◌}
use Rattle.queue_model.specs.Footprints.{Covers, CoversAll, IsHeldIn, claims_by, new_claims}
use Rattle.queue_model.specs.Held.{holds, held_rows}
use Rattle.queue_model.specs.Replay.{steps}
use Rattle.queue_model.specs.Transitions.{step}
use Rattle.queue_model.specs.World.{World}
use Rattle.queue_model.proofs.Steps.{then, same_Some, step_is}
use Rattle.plan_model.specs.Drafts.{Draft, moved, with_changes, push, holding}
use Rattle.plan_model.specs.Plans.{is_enqueue, is_claim}

-- where the transition is legal, the draft's world is the one that it gives
pub moved_is : (w v : World) (m : ℕ) (t : Transition) → step w m t ≡ Some v → moved w m t ≡ v
moved_is w v m t e = let s = step_is w v m t e in ap (with_changes w m t) s.1.legal ∙ s.1.after

-- ---- steps, one more

rest : (w u v : World) (m : ℕ) (x : Transition) (xs : List Transition) → steps w m (x ∷ xs) ≡ Some v → step w m x ≡ Some u → steps u m xs ≡ Some v
rest w u v m x xs e f =
    let t = then (step w m x) (λ n. steps n m xs) v e in
    subst (λ n. steps n m xs ≡ Some v) (same_Some t.0 u (sym t.1 ∙ f)) t.2

joined : (o : Option World) (f : World → Option World) (u v : World) → o ≡ Some u → f u ≡ Some v → (o >>= f) ≡ Some v
joined o f u v e g = subst (λ x. (x >>= f) ≡ Some v) (sym e) g

pub one_more : (w v u : World) (m : ℕ) (ts : List Transition) (t : Transition) → steps w m ts ≡ Some v → step v m t ≡ Some u → steps w m (ts ++ t ∷ []) ≡ Some u
one_more w v u m [] t e f = joined (step w m t) (λ n. Some n) u u (subst (λ n. step n m t ≡ Some u) (sym (same_Some w v e)) f) refl
one_more w v u m (x ∷ xs) t e f =
    let first = then (step w m x) (λ n. steps n m xs) v e in
    joined (step w m x) (λ n. steps n m (xs ++ t ∷ [])) first.0 u first.1 (one_more first.0 v u m xs t first.2 f)

-- ---- rows, some more

held_more : (rows more : List (Row × Mode)) (r : Row) (mode : Mode) → IsHeldIn rows r mode → IsHeldIn (rows ++ more) r mode
held_more rows more r mode h = ⊎_elim (λ c. inl (Contains-append_left rows more (r, mode) c)) (λ c. inr (Contains-append_left rows more (r, Alone) c)) h

pub covers_more : (rows more : List (Row × Mode)) (w : World) (m : ℕ) (ts : List Transition) → CoversAll rows w m ts → CoversAll (rows ++ more) w m ts
covers_more rows more w m [] c = tt
covers_more rows more w m (t ∷ ts) c = (λ r mode e. held_more rows more r mode (c.0 r mode e), λ v e. covers_more rows more v m ts (c.1 v e))

covers_last : (rows : List (Row × Mode)) (w v : World) (m : ℕ) (ts : List Transition) (t : Transition) → CoversAll rows w m ts → steps w m ts ≡ Some v → Covers rows (holds v t) → CoversAll rows w m (ts ++ t ∷ [])
covers_last rows w v m [] t c e last = (subst (λ n. Covers rows (holds n t)) (sym (same_Some w v e)) last, λ u f. tt)
covers_last rows w v m (x ∷ xs) t c e last = (c.0, λ u f. covers_last rows u v m xs t (c.1 u f) (rest w u v m x xs e f) last)

-- ---- drafts

-- its transitions lead from the world to its own, and its rows cover them
pub record IsDraftOf (w : World) (m : ℕ) (d : Draft) : Type 0 where
  pub legal : steps w m d.steps ≡ Some d.world
  pub covered : CoversAll d.rows w m d.steps

pub pushed : (w v : World) (m : ℕ) (t : Transition) (d : Draft) → IsDraftOf w m d → step d.world m t ≡ Some v → IsDraftOf w m (push m t d)
pushed w v m t d h e = record {
  legal = subst (λ n. steps w m (d.steps ++ t ∷ []) ≡ Some n) (sym (moved_is d.world v m t e)) (one_more w d.world v m d.steps t h.legal e);
  covered = covers_last (d.rows ++ held_rows (holds d.world t)) w d.world m d.steps t
      (covers_more d.rows (held_rows (holds d.world t)) w m d.steps h.covered) h.legal
      (λ r mode c. inl (Contains-append_right d.rows (held_rows (holds d.world t)) (r, mode) c));
}

pub held_besides : (w : World) (m : ℕ) (r : Row) (mode : Mode) (d : Draft) → IsDraftOf w m d → IsDraftOf w m (holding r mode d)
held_besides w m r mode d h = record { legal = h.legal; covered = covers_more d.rows ((r, mode) ∷ []) w m d.steps h.covered }

-- ---- new jobs and claims

count_more : (p : Transition → Bool) (ts : List Transition) (t : Transition) → count_by p (ts ++ t ∷ []) ≡ count_by p ts + cond (p t) 1 0
count_more p ts t =
    let all = sum_by-append (λ x. cond (p x) 1 0) ts (t ∷ []) in
    let last = sum_by-cons (λ x. cond (p x) 1 0) t [] in
    omega (arith, all, last)

-- a draft with so many new jobs and claims
pub record Brings (made claimed : ℕ) (d : Draft) : Type 0 where
  pub made_is : count_by is_enqueue d.steps ≡ made
  pub claimed_is : count_by is_claim d.steps ≡ claimed

pub brings_none : (made claimed m : ℕ) (t : Transition) (d : Draft) → is_enqueue t ≡ false → is_claim t ≡ false → Brings made claimed d → Brings made claimed (push m t d)
brings_none made claimed m t d no_job no_claim h = record {
  made_is = same (count_more is_enqueue d.steps t ∙ ap (λ b. count_by is_enqueue d.steps + cond b 1 0) no_job) ∙ h.made_is;
  claimed_is = same (count_more is_claim d.steps t ∙ ap (λ b. count_by is_claim d.steps + cond b 1 0) no_claim) ∙ h.claimed_is;
}
  where
    same : {a b : ℕ} → a ≡ b + 0 → a ≡ b
    same e = omega arith

pub brings_held : (made claimed : ℕ) (r : Row) (mode : Mode) (d : Draft) → Brings made claimed d → Brings made claimed (holding r mode d)
brings_held made claimed r mode d h = record { made_is = h.made_is; claimed_is = h.claimed_is }

pub brings_job : (made claimed m : ℕ) (t : Transition) (d : Draft) → is_enqueue t ≡ true → is_claim t ≡ false → Brings made claimed d → Brings (made + 1) claimed (push m t d)
brings_job made claimed m t d job no_claim h =
    let more = count_more is_enqueue d.steps t ∙ ap (λ b. count_by is_enqueue d.steps + cond b 1 0) job in
    let none = count_more is_claim d.steps t ∙ ap (λ b. count_by is_claim d.steps + cond b 1 0) no_claim in
    record { made_is = let was = h.made_is in omega (arith, more, was); claimed_is = let was = h.claimed_is in omega (arith, none, was) }

pub brings_claim : (made claimed m id pid : ℕ) (d : Draft) → Brings made claimed d → Brings made (claimed + 1) (push m (Claim id pid) d)
brings_claim made claimed m id pid d h =
    let none = count_more is_enqueue d.steps (Claim id pid) in
    let more = count_more is_claim d.steps (Claim id pid) in
    record { made_is = let was = h.made_is in omega (arith, none, was); claimed_is = let was = h.claimed_is in omega (arith, more, was) }

bit_le : (b : Bool) → cond b 1 0 ≤ 1
bit_le true = omega arith
bit_le false = omega arith

claims_le : (pid : ℕ) (t : Transition) → claims_by pid t ≤ cond (is_claim t) 1 0
claims_le pid (Claim id p) = bit_le (p == pid)
claims_le pid t = omega arith

-- a process has no more claims than there are
pub claims_counted : (pid : ℕ) (ts : List Transition) → new_claims pid ts ≤ count_by is_claim ts
claims_counted pid [] = omega arith
claims_counted pid (t ∷ ts) =
    let first = claims_le pid t in
    let rest = claims_counted pid ts in
    let all = sum_by-cons (λ x. cond (is_claim x) 1 0) t ts in
    omega (arith, first, rest, all)

pub claims_more : (pid : ℕ) (ts : List Transition) (t : Transition) → new_claims pid (ts ++ t ∷ []) ≡ new_claims pid ts + claims_by pid t
claims_more pid [] t = omega arith
claims_more pid (x ∷ ts) t = let rest = claims_more pid ts t in omega (arith, rest)
