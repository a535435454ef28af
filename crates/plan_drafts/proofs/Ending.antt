-- Which jobs wait where a draft ends jobs.
use Rattle.std.proofs.Common.{◌≡◌, ℕ, Bool, true, false, ◌||◌, ◌&&◌, not, cond, if◌then◌else◌, List, [], ◌∷◌, filter, Option, None, Some, is_some, IsSome, Contains, ap, sym, ◌∙◌, refl, subst, ⊎_elim, ◌⊎◌, inl, inr, arith}
use Rattle.std.proofs.lemmas.Bool.{true≢false, cases_eq, eqb-true, eq-eqb, and_parts}
use Rattle.std.proofs.lemmas.List.Elements.{All-contains_itself, All-head, All-push, All-tail, All-weaker}
use Rattle.std.specs.Cmp.{nat_cmp_total}
use Rattle.std.specs.FinMap.{nat_cmp-IsAntisymmetric}
use Rattle.std.specs.List.{All}
use Rattle.std.specs.Prelude.{◌==◌}
use Rattle.job_states.specs.Ranges.{is_in_range, is_number}
use Rattle.job_states.specs.States.{stage_of, is_blocked}
use Rattle.job_states.specs.declared.transition.Transition.{Transition}
use Rattle.job_states.specs.declared.transition.Transition.TheVariants.{Done, Fail, Discard, Unblock}
use Rattle.queue_model.specs.GoodWorld.{IsGood}
use Rattle.queue_model.specs.Held.{holds}
use Rattle.queue_model.specs.Map as finite
use Rattle.queue_model.specs.Map.{get}
use Rattle.queue_model.specs.Named.{job_named}
use Rattle.queue_model.specs.Sights.{Rows, Sight, sees}
use Rattle.queue_model.specs.Transitions.{changes}
use Rattle.queue_model.specs.World.{World, is_key}
use Rattle.queue_model.specs.declared.Job.{Job}
use Rattle.queue_model.proofs.Fits.{after_set}
use Rattle.row_locks.proofs.Membership.{Contains-head, Contains-tail, Contains-from_filter}
use Rattle.plan_model.specs.Drafts.{end, key_given, moved, push, unblock, with_changes}
use Rattle.plan_model.specs.GoodDraft.{is_end, is_moved}
use Rattle.plan_model.specs.Orders.{first_of, in_order, is_blocked_at}
use Rattle.plan_model.proofs.AllowedSeen.{some_there}
use Rattle.plan_model.proofs.MapLemmas.{filter_passes}
use Rattle.plan_model.proofs.OrderLemmas.{ordered, own_place}
use Rattle.plan_drafts.specs.Drafting.{Drafting, with_draft}
use Rattle.plan_drafts.specs.Ends.{IsEnding, is_ending, first_waiting, waits}
use Rattle.plan_drafts.specs.Left.{steps_of, world_after}
use Rattle.plan_drafts.specs.declared.pushed.Pushed.{Pushed}

-- ---- what an end leaves

-- the job that it names
abbrev named : Transition → ℕ
named (Done id) = id
named (Fail id error message counters) = id
named (Discard id) = id
named (Unblock id generation) = id
named t = 0

names : (t : Transition) (id : ℕ) → is_ending t ≡ true → job_named t ≡ Some id → named t ≡ id
names t id ends e = grind arith

rests : (m : ℕ) (s : Sight) (t : Transition) (c : Rows) → changes m s t ≡ Some c → is_ending t ≡ true → waits c.job ≡ false
rests m s t c h ends = grind arith

-- a job stands as it stood, or it is the one that is named, and waits no more
stands : (w : World) (m : ℕ) (t : Transition) → is_ending t ≡ true → (id : ℕ) → (get (moved w m t).jobs id ≡ get w.jobs id) ⊎ ((named t ≡ id) × (waits (get (moved w m t).jobs id) ≡ false))
stands w m t ends id = by (changes m (sees w (holds w t)) t) refl
  where
    by : (o : Option Rows) → changes m (sees w (holds w t)) t ≡ o → (get (with_changes w m t o).jobs id ≡ get w.jobs id) ⊎ ((named t ≡ id) × (waits (get (with_changes w m t o).jobs id) ≡ false))
    by None e = inl refl
    by (Some c) e = ⊎_elim
        (λ (here : _). inr (names t id ends here.0, ap waits here.1 ∙ rests m (sees w (holds w t)) t c e ends))
        (λ (other : _). inl other.1)
        (after_set nat_cmp_total nat_cmp-IsAntisymmetric cases_eq w.jobs (job_named t) c.job id)

-- ---- the jobs that moved

-- of those that were named, the ones that don't wait in this world
abbrev pub settled : World → List Pushed → List ℕ
settled v [] = []
settled v (p ∷ ps) = if waits (get v.jobs (named p.step)) then settled v ps else named p.step ∷ settled v ps

or_last : (a b : Bool) → (a || b) ≡ false → b ≡ false
or_last true b e = absurd (true≢false e)
or_last false b e = e

moved_later : (b : Bool) (n id : ℕ) (ids : List ℕ) → is_moved (if b then ids else n ∷ ids) id ≡ false → is_moved ids id ≡ false
moved_later true n id ids e = e
moved_later false n id ids e = or_last (n == id) (is_moved ids id) e

moved_first : (b : Bool) (n id : ℕ) (ids : List ℕ) → is_moved (if b then ids else n ∷ ids) id ≡ false → b ≡ false → n ≡ id → ⊥
moved_first true n id ids e off same = true≢false off
moved_first false n id ids e off same = true≢false (ap (λ b. b || is_moved ids id) (sym (eq-eqb n id same)) ∙ e)

settles : (v : World) (ps : List Pushed) (id : ℕ) → is_moved (settled v ps) id ≡ true → waits (get v.jobs id) ≡ false
settles v [] id h = absurd (true≢false (sym h))
settles v (p ∷ ps) id h = by (waits (get v.jobs (named p.step))) refl h (settles v ps id)
  where
    at : (b : Bool) → (named p.step == id) ≡ b → waits (get v.jobs (named p.step)) ≡ false → (b || is_moved (settled v ps) id) ≡ true → (is_moved (settled v ps) id ≡ true → waits (get v.jobs id) ≡ false) → waits (get v.jobs id) ≡ false
    at true same e here later = ap (λ n. waits (get v.jobs n)) (sym (eqb-true (named p.step) id same)) ∙ e
    at false other e here later = later here

    by : (b : Bool) → waits (get v.jobs (named p.step)) ≡ b → is_moved (if b then settled v ps else named p.step ∷ settled v ps) id ≡ true → (is_moved (settled v ps) id ≡ true → waits (get v.jobs id) ≡ false) → waits (get v.jobs id) ≡ false
    by true e here later = later here
    by false e here later = at (named p.step == id) refl e here later

module _ (m : ℕ) (p : Pushed) (id : ℕ) (w v : World) (ids : List ℕ) where
  stays_at : (get v.jobs id ≡ get (moved w m p.step).jobs id) → is_moved (if waits (get v.jobs (named p.step)) then ids else named p.step ∷ ids) id ≡ false → (get (moved w m p.step).jobs id ≡ get w.jobs id) ⊎ ((named p.step ≡ id) × (waits (get (moved w m p.step).jobs id) ≡ false)) → get v.jobs id ≡ get w.jobs id
  stays_at later h (inl same) = later ∙ same
  stays_at later h (inr moves) = absurd (moved_first (waits (get v.jobs (named p.step))) (named p.step) id ids h (ap (λ n. waits (get v.jobs n)) moves.0 ∙ ap waits later ∙ moves.1) moves.0)

pub stays : (w : World) (m : ℕ) (ps : List Pushed) → All IsEnding (steps_of ps) → (id : ℕ) → is_moved (settled (world_after w m ps) ps) id ≡ false → get (world_after w m ps).jobs id ≡ get w.jobs id
stays w m [] ends id h = refl
stays w m (p ∷ ps) ends id h =
    let v = world_after (moved w m p.step) m ps in
    stays_at m p id w v (settled v ps)
    (stays (moved w m p.step) m ps (All-tail IsEnding p.step (steps_of ps) ends) id (moved_later (waits (get v.jobs (named p.step))) (named p.step) id (settled v ps) h))
    h (stands w m p.step (All-head IsEnding p.step (steps_of ps) ends) id)

pub rested : (v : World) (ps : List Pushed) (key : List ℕ) (id : ℕ) (j : Job) → is_moved (settled v ps) id ≡ true → get v.jobs id ≡ Some j → is_blocked_at key j ≡ false
rested v ps key id j h e = ap (λ b. b && is_key key j.row.limited) (sym (ap waits e) ∙ settles v ps id h)

-- ---- the jobs that waited at the begin

abbrev pub waiting : World → List ℕ → List Job
waiting w key = in_order (filter (is_blocked_at key) (finite.values w.jobs))

filter_within : {X : Type 0} (p q : X → Bool) (xs : List X) → ((x : X) → Contains xs x → p x ≡ q x) → filter p xs ≡ filter q xs
filter_within p q [] h = refl
filter_within p q (x ∷ xs) h =
    ap (λ b. cond b (x ∷ filter p xs) (filter p xs)) (h x (Contains-head x xs))
    ∙ ap (λ ys. cond (q x) (x ∷ ys) ys) (filter_within p q xs (λ y later. h y (Contains-tail x xs y later)))

module _ (w : World) (good : IsGood w) (key : List ℕ) where
  waited : (j : Job) → Contains (waiting w key) j → (get w.jobs j.row.id ≡ Some j) × (waits (Some j) ≡ true)
  waited j h =
      let here = ordered (filter (is_blocked_at key) (finite.values w.jobs)) j h in (
        own_place w j good (Contains-from_filter (is_blocked_at key) (finite.values w.jobs) j here),
        (and_parts (is_blocked (Some (stage_of j.state))) (is_key key j.row.limited) (filter_passes (is_blocked_at key) (finite.values w.jobs) j here)).0,
      )

  pub were_there : All (λ j. IsSome (get w.jobs j.row.id)) (waiting w key)
  were_there = All-weaker (Contains (waiting w key)) (λ j. IsSome (get w.jobs j.row.id)) (λ j h. ap is_some (waited j h).0) (waiting w key) (All-contains_itself (waiting w key))

  -- those that didn't move are those that still wait
  pub still_waiting : (m : ℕ) (ps : List Pushed) → All IsEnding (steps_of ps) → first_of (filter (λ j. not (is_moved (settled (world_after w m ps) ps) j.row.id)) (waiting w key)) ≡ first_waiting (world_after w m ps) (waiting w key)
  still_waiting m ps ends = ap first_of (filter_within (λ j. not (is_moved (settled (world_after w m ps) ps) j.row.id)) (λ j. waits (get (world_after w m ps).jobs j.row.id)) (waiting w key) agrees)
    where
      agrees : (j : Job) → Contains (waiting w key) j → not (is_moved (settled (world_after w m ps) ps) j.row.id) ≡ waits (get (world_after w m ps).jobs j.row.id)
      agrees j h = by (is_moved (settled (world_after w m ps) ps) j.row.id) refl
        where
          by : (b : Bool) → is_moved (settled (world_after w m ps) ps) j.row.id ≡ b → not b ≡ waits (get (world_after w m ps).jobs j.row.id)
          by true e = sym (settles (world_after w m ps) ps j.row.id e)
          by false e = sym (ap waits (stays w m ps ends j.row.id e ∙ (waited j h).0) ∙ (waited j h).1)

-- ---- a job's end

-- an end of a job that was there is within its ranges
end_in_range : (t : Transition) (id : ℕ) → is_end t ≡ true → job_named t ≡ Some id → is_number id ≡ true → is_in_range t ≡ true
end_in_range t id ends e number = grind arith

pub known_in_range : (w : World) (t : Transition) (id : ℕ) → IsGood w → is_some (get w.jobs id) ≡ true → is_end t ≡ true → job_named t ≡ Some id → is_in_range t ≡ true
known_in_range w t id good known ends e = let j = some_there (get w.jobs id) known in end_in_range t id ends e (good.jobs id j.0 j.1).number.0

end_is_ending : (t : Transition) → is_end t ≡ true → is_ending t ≡ true
end_is_ending t ends = grind arith

module _ (old new : Drafting) (t : Transition) (after : new ≡ with_draft old (push old.moment t old.draft)) where
  pub ends_after : All IsEnding old.draft.steps → is_end t ≡ true → All IsEnding new.draft.steps
  ends_after all ends = subst (λ (v : Drafting). All IsEnding v.draft.steps) (sym after) (All-push IsEnding old.draft.steps t all (end_is_ending t ends))

  pub good_after : IsGood (push old.moment t old.draft).world → IsGood new.draft.world
  good_after good = subst (λ (v : Drafting). IsGood v.draft.world) (sym after) good

  -- also once the job is let go for whose key the permit comes back
  module _ (id : ℕ) (key : List ℕ) (given : Some key ≡ key_given old.draft.world id) where
    pub let_go_good : IsGood (end old.moment id t old.draft).0.world → IsGood (unblock new.moment (Some key) new.draft).0.world
    let_go_good good =
        subst (λ (v : Drafting). IsGood (unblock v.moment (Some key) v.draft).0.world) (sym after) (subst (λ k. IsGood (unblock old.moment k (push old.moment t old.draft)).0.world) (sym given) good)
