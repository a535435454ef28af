-- What was planned stays legal: two transactions that are legal in one world and hold rows that go together.
use Rattle.std.proofs.Common.{◌≡◌, ◌+◌, ◌≤◌, ℕ, Bool, cond, List, [], ◌∷◌, Some, Contains, ap, sym, ◌∙◌, refl, subst, ⊎_elim, arith}
use Rattle.std.proofs.lemmas.Bool.{eq-eqb}
use Rattle.job_states.specs.declared.row.Mode.{Mode}
use Rattle.job_states.specs.declared.row.Mode.TheVariants.{Shared, Alone}
use Rattle.job_states.specs.declared.row.Row.{Row}
use Rattle.job_states.specs.declared.row.Row.TheVariants as row
use Rattle.job_states.specs.declared.transition.Transition.{Transition}
use Rattle.job_states.specs.declared.transition.Transition.TheVariants.{Claim, Deregister}
use Rattle.row_locks.specs.Footprints.{AreCompatible}
use Rattle.queue_model.specs.Chain.{◌>>=◌}
use Rattle.queue_model.specs.Footprints.{SameAt, Same, Covers, CoversAll, claims_by, new_claims}
use Rattle.queue_model.specs.Held.{Held, holds}
use Rattle.queue_model.specs.Named.{noted}
use Rattle.queue_model.specs.Replay.{steps}
use Rattle.queue_model.specs.Sights.{sees}
use Rattle.queue_model.specs.Transitions.{step}
use Rattle.queue_model.specs.World.{World, claims}
use Rattle.queue_model.proofs.Cases.{Allows}
use Rattle.queue_model.proofs.Covered.{Parts, parts}
use Rattle.queue_model.proofs.Frames.{Apart, made, made_same, kept}
use Rattle.queue_model.proofs.Sighted.{same_held, same_changes}
use Rattle.queue_model.proofs.Steps.{step_is, steps_to, world_after, same_Some, then, keeps, claims_after, claims_after_all, first_claims}

-- ---- one transition, in two worlds

-- each Claim of the list has room
abbrev HasRoom : World → List Transition → Type 0
HasRoom w ts = (pid : ℕ) → claims w pid + new_claims pid ts ≤ 500

abbrev bit : Bool → ℕ
bit b = cond b 1 0

-- a claim has room, and who deregisters knows the claims
allows : (w v : World) (footprint : List (Row × Mode)) (t : Transition) (ts : List Transition) → Same w v footprint → Covers footprint (holds w t) → HasRoom v (t ∷ ts) → Allows t (sees w (holds w t)).claims (sees v (holds w t)).claims
allows w v f (Claim id pid) ts s c b =
    let room = b pid in
    let one : claims_by pid (Claim id pid) ≡ 1 = ap bit (eq-eqb pid pid refl) in
    let first = first_claims pid (Claim id pid) ts in
    omega (arith, room, one, first)
allows w v f (Deregister pid) ts s c b = sym (⊎_elim (λ x. (s (row.Process pid) Alone x).1) (λ x. (s (row.Process pid) Alone x).1) ((parts (holds w (Deregister pid)) f c).process pid Alone refl))
allows w v f t ts s c b = tt

-- what it makes of the other world
record Beside (w v w' : World) (m : ℕ) (t : Transition) (footprint : List (Row × Mode)) (v' : World) : Type 0 where
  held : holds v t ≡ holds w t
  legal : step v m t ≡ Some v'
  same : Same w' v' footprint

-- a step that is legal in the one is legal in the other, and they stay the same
step_beside : (w v w' : World) (m : ℕ) (t : Transition) (ts : List Transition) (footprint : List (Row × Mode)) → Covers footprint (holds w t) → Same w v footprint → HasRoom v (t ∷ ts) → step w m t ≡ Some w' → (v' : World) × Beside w v w' m t footprint v'
step_beside w v w' m t ts footprint covers same room h =
    let s = step_is w w' m t h in
    let held = same_held w v footprint (holds w t) same covers in
    let r = same_changes w v m t s.0 held (allows w v footprint t ts same covers room) s.1.legal in (
      world_after v m t s.0,
      record {
        held = r.0;
        legal = steps_to v m t s.0 s.1.in_range r.1;
        same = λ x mode c.
            subst (λ u. SameAt u (world_after v m t s.0) x mode) s.1.after
            (subst (λ k. SameAt (world_after w m t s.0) (made v k s.0 (noted v.numbers m t)) x mode) (sym r.0)
            (made_same w v (holds w t) s.0 (noted w.numbers m t) (noted v.numbers m t) x mode (sym (ap (λ rows. rows.job) held.rows)) (same x mode c)));
      },
    )

room_left : (v v' : World) (m : ℕ) (t : Transition) (ts : List Transition) → step v m t ≡ Some v' → HasRoom v (t ∷ ts) → HasRoom v' ts
room_left v v' m t ts h room p =
    let a = claims_after v v' m t p h in
    let b = room p in
    let c = first_claims p t ts in
    omega (arith, a, b, c)

-- ---- a transaction, in two worlds

pub record BesideAll (v w' : World) (m : ℕ) (ts : List Transition) (footprint : List (Row × Mode)) (v' : World) : Type 0 where
  pub legal : steps v m ts ≡ Some v'
  pub same : Same w' v' footprint
  pub covers : CoversAll footprint v m ts

steps_beside : (w v w' : World) (m : ℕ) (ts : List Transition) (footprint : List (Row × Mode)) → CoversAll footprint w m ts → Same w v footprint → HasRoom v ts → steps w m ts ≡ Some w' → (v' : World) × BesideAll v w' m ts footprint v'
steps_beside w v w' m [] footprint covers same room end = (v, record { legal = refl; same = subst (λ u. Same u v footprint) (same_Some w w' end) same; covers = tt })
steps_beside w v w' m (t ∷ ts) footprint covers same room end =
    let first = then (step w m t) (λ u. steps u m ts) w' end in
    let one = step_beside w v first.0 m t ts footprint covers.0 same room first.1 in
    let rest = steps_beside first.0 one.0 w' m ts footprint (covers.1 first.0 first.1) one.1.same (room_left v one.0 m t ts one.1.legal room) first.2 in (
      rest.0,
      record {
        legal = ap (λ o. o >>= (λ u. steps u m ts)) one.1.legal ∙ rest.1.legal;
        same = rest.1.same;
        covers = (subst (Covers footprint) (sym one.1.held) covers.0, λ u e. subst (λ x. CoversAll footprint x m ts) (same_Some one.0 u (sym one.1.legal ∙ e)) rest.1.covers);
      },
    )

-- ---- a transaction leaves a compatible footprint as it was

same_then : (w v u : World) (r : Row) (mode : Mode) → SameAt w v r mode → SameAt v u r mode → SameAt w u r mode
same_then w v u (row.Job i) mode a b = a ∙ b
same_then w v u (row.Key k) mode a b = (a.0 ∙ b.0, λ g. a.1 g ∙ b.1 g)
same_then w v u (row.Process p) Shared a b = a ∙ b
same_then w v u (row.Process p) Alone a b = (a.0 ∙ b.0, a.1 ∙ b.1)
same_then w v u (row.Queue q) mode a b = a ∙ b
same_then w v u (row.Task t) mode a b = a ∙ b

itself : (w : World) (r : Row) (mode : Mode) → SameAt w w r mode
itself w (row.Job i) mode = refl
itself w (row.Key k) mode = (refl, λ g. refl)
itself w (row.Process p) Shared = refl
itself w (row.Process p) Alone = (refl, refl)
itself w (row.Queue q) mode = refl
itself w (row.Task t) mode = refl

apart : (xs ys : List (Row × Mode)) (h : Held) → Parts xs h → AreCompatible xs ys → (r : Row) (mode : Mode) → Contains ys (r, mode) → Apart h r mode
apart xs ys h c fit (row.Job id) mode there = λ e. fit (row.Job id) Alone mode (c.job id e) there
apart xs ys h c fit (row.Key k) mode there = λ e. fit (row.Key k) Alone mode (c.key k e) there
apart xs ys h c fit (row.Process pid) Shared there = λ e. fit (row.Process pid) Alone Shared (⊎_elim (λ x. x) (λ x. x) (c.process pid Alone e)) there
apart xs ys h c fit (row.Process pid) Alone there = by
  where
    by : (m : Mode) → ¬ (h.process ≡ Some (pid, m))
    by Shared e = ⊎_elim (λ x. fit (row.Process pid) Shared Alone x there) (λ x. fit (row.Process pid) Alone Alone x there) (c.process pid Shared e)
    by Alone e = ⊎_elim (λ x. fit (row.Process pid) Alone Alone x there) (λ x. fit (row.Process pid) Alone Alone x there) (c.process pid Alone e)
apart xs ys h c fit (row.Queue q) mode there = λ e. fit (row.Queue q) Alone mode (c.queue q e) there
apart xs ys h c fit (row.Task t) mode there = λ e. fit (row.Task t) Alone mode (c.task t e) there

pub leaves : (w v : World) (m : ℕ) (ts : List Transition) (mine other : List (Row × Mode)) → AreCompatible mine other → CoversAll mine w m ts → steps w m ts ≡ Some v → Same w v other
leaves w v m [] mine other fit covers end = λ r mode c. subst (λ u. SameAt w u r mode) (same_Some w v end) (itself w r mode)
leaves w v m (t ∷ ts) mine other fit covers end = λ r mode c.
    let first = then (step w m t) (λ u. steps u m ts) v end in
    let s = step_is w first.0 m t first.1 in
    let here = kept w (holds w t) s.0 (noted w.numbers m t) (keeps w m t s.0 s.1.legal) r mode (apart mine other (holds w t) (parts (holds w t) mine covers.0) fit r mode c) in
    same_then w first.0 v r mode (subst (λ u. SameAt w u r mode) s.1.after here) (leaves first.0 v m ts mine other fit (covers.1 first.0 first.1) first.2 r mode c)

-- ---- the law

pub stays_legal : (w v u : World) (m n : ℕ) (xs ys : List Transition) (mine other : List (Row × Mode)) → steps w m xs ≡ Some v → steps w n ys ≡ Some u → CoversAll mine w m xs → CoversAll other w n ys → AreCompatible mine other → ((pid : ℕ) → claims w pid + new_claims pid xs + new_claims pid ys ≤ 500) → (end : World) × BesideAll v u n ys other end
stays_legal w v u m n xs ys mine other first second covers_mine covers_other fit room =
    steps_beside w v u n ys other covers_other (leaves w v m xs mine other fit covers_mine first) (λ p. let a = claims_after_all w v m xs p first in let b = room p in omega (arith, a, b)) second
