-- The steps of a walk over the jobs that pass, from each place to the next.
use Rattle.std.proofs.Common.{◌≡◌, ℕ, ℤ, Bool, true, false, cond, List, [], ◌∷◌, map, filter, drop, length, ◌<◌, ◌&&◌, not, arith, is_none, Option, None, Some, IsSome, is_some, Ordering, ap, sym, ◌∙◌, refl}
use Rattle.std.proofs.lemmas.Bool.{true≢false, and_parts}
use Rattle.std.specs.Ordering.{ordering_reverse}
use Rattle.std.specs.declared.cmp.Ordering.TheVariants.{Less, Equal, Greater}
use Rattle.queue_model.specs.GoodWorld.{IsGood}
use Rattle.queue_model.specs.Map as finite
use Rattle.queue_model.specs.Map.{get}
use Rattle.queue_model.specs.World.{World}
use Rattle.queue_model.specs.declared.Job.{Job}
use Rattle.queue_model.proofs.Steps.{same_Some}
use Rattle.exec_tables.specs.Next.{IsNext, Listed, is_above, is_any_ready, by_priority, priority_cmp}
use Rattle.plan_model.specs.Orders.{first_of, place_of, placed}
use Rattle.plan_model.proofs.OrderLemmas.{priority_total}
use Rattle.plan_model.proofs.PlacedJobs.{exact_priority, placed_job, job_placed}
use Rattle.job_walks.specs.Left.{past_place, every_left, is_unpaused}
use Rattle.job_walks.proofs.Above.{none_above, first_above, passed_above}

module _ (w : World) (good : IsGood w) (p : Job → Bool) where
  abbrev passing : finite.Map priority_cmp Job
  passing = placed (filter p (finite.values w.jobs))

  -- ---- a step of a walk over jobs of which those that pass are some

  module _ (q : Job → Bool) (among : (j : Job) → p j ≡ true → q j ≡ true) (past found : Option (ℤ × ℕ)) (next : IsNext priority_cmp (Listed (by_priority q) w.jobs) past found) where
    belongs : (x : ℤ × ℕ) → IsSome (get passing x) → Listed (by_priority q) w.jobs x
    belongs x s = by (get passing x) refl s
      where
        by : (o : Option Job) → get passing x ≡ o → IsSome o → Listed (by_priority q) w.jobs x
        by None is s = absurd (true≢false (sym s))
        by (Some j) is s =
            let h = placed_job w p good x j is in
            (x.1, j, h.found, ap (λ b. cond b (Some (j.row.priority, x.1)) None) (among j h.passes) ∙ ap (λ (n : ℤ). Some (n, x.1)) (ap (λ z. z.0) h.place))

    pub no_more : found ≡ None → past_place w p past ≡ []
    no_more e = ap (map (λ x. x.1)) (none_above priority_total passing past (λ x s. next.none e x (belongs x s)))

    module _ (x : ℤ × ℕ) (j : Job) (is : found ≡ Some x) (at : get w.jobs x.1 ≡ Some j) where
      -- the place that was found is that of the job
      its_place : (j.row.priority, x.1) ≡ x
      its_place =
          let l = next.belongs x is in
          by l.0 l.1 (q l.1) l.2 l.3
        where
          by : (id : ℕ) (k : Job) (b : Bool) → get w.jobs id ≡ Some k → cond b (Some (k.row.priority, id)) None ≡ Some x → (j.row.priority, x.1) ≡ x
          by id k false f e = absurd (true≢false (sym (ap is_some e)))
          by id k true f e =
              let place : (k.row.priority, id) ≡ x = same_Some (k.row.priority, id) x e in
              let same : k ≡ j = same_Some k j (sym f ∙ ap (get w.jobs) (ap (λ z. z.1) place) ∙ at) in
              ap (λ (n : ℤ). (n, x.1)) (ap (λ (a : Job). a.row.priority) (sym same) ∙ ap (λ z. z.0) place)

      at_place : place_of j ≡ x
      at_place = ap (λ n. (j.row.priority, n)) (good.jobs x.1 j at).own_number ∙ its_place

      pub takes : p j ≡ true → past_place w p past ≡ j ∷ past_place w p (Some x)
      takes passes = ap (map (λ e. e.1)) (first_above priority_total exact_priority passing past x j
          (job_placed w p good x j (record { found = at; place = at_place; passes = passes })) (next.above x is) (λ y s up. next.least x y is (belongs y s) up))

      pub skips : p j ≡ false → past_place w p past ≡ past_place w p (Some x)
      skips fails = ap (map (λ e. e.1)) (passed_above priority_total passing past x (next.above x is) (λ y s up. by y s up (priority_cmp x y) refl))
        where
          by : (y : ℤ × ℕ) → IsSome (get passing y) → is_above priority_cmp past y ≡ true → (r : Ordering) → priority_cmp x y ≡ r → r ≡ Less
          by y s up Less e = refl
          by y s up Greater e = absurd (next.least x y is (belongs y s) up (priority_total.antisymm y x ∙ ap ordering_reverse e))
          by y s up Equal e = same (get passing y) refl s
            where
              same : (o : Option Job) → get passing y ≡ o → IsSome o → Equal ≡ Less
              same None g s = absurd (true≢false (sym s))
              same (Some k) g s =
                  let h = placed_job w p good y k g in
                  let one : k ≡ j = same_Some k j (sym h.found ∙ ap (λ (z : ℤ × ℕ). get w.jobs z.1) (sym (exact_priority x y e)) ∙ at) in
                  absurd (true≢false (sym h.passes ∙ ap p one ∙ fails))

-- ---- what a call that takes the next one gives, and leaves

module _ (w : World) (good : IsGood w) (p : Job → Bool) (past found : Option (ℤ × ℕ)) (next : IsNext priority_cmp (Listed (by_priority p) w.jobs) past found) where
  pub ends : found ≡ None → (None ≡ first_of (past_place w p past)) × (past_place w p past ≡ drop 1 (past_place w p past))
  ends e = let none = no_more w good p p (λ j h. h) past found next e in (ap first_of (sym none), none ∙ ap (drop 1) (sym none))

  pub goes : (x : ℤ × ℕ) → found ≡ Some x → (get w.jobs x.1 ≡ first_of (past_place w p past)) × (past_place w p (Some x) ≡ drop 1 (past_place w p past))
  goes x e = by (l.0) l.1 (p l.1) refl l.2 l.3
    where
      l : Listed (by_priority p) w.jobs x
      l = next.belongs x e

      by : (id : ℕ) (j : Job) (b : Bool) → p j ≡ b → get w.jobs id ≡ Some j → cond b (Some (j.row.priority, id)) None ≡ Some x → (get w.jobs x.1 ≡ first_of (past_place w p past)) × (past_place w p (Some x) ≡ drop 1 (past_place w p past))
      by id j false passes at is = absurd (true≢false (sym (ap is_some is)))
      by id j true passes at is =
          let here : get w.jobs x.1 ≡ Some j = ap (λ (z : ℤ × ℕ). get w.jobs z.1) (sym (same_Some (j.row.priority, id) x is)) ∙ at in
          let took = takes w good p p (λ k h. h) past found next x j e here passes in
          (here ∙ ap first_of (sym took), ap (drop 1) (sym took))

-- ---- the same of a walk over the ready jobs that passes those of paused queues

ready_at : (w : World) (past found : Option (ℤ × ℕ)) → IsNext priority_cmp (Listed (by_priority is_any_ready) w.jobs) past found → (x : ℤ × ℕ) (j : Job) → found ≡ Some x → get w.jobs x.1 ≡ Some j → is_any_ready j ≡ true
ready_at w past found next x j e at = let l = next.belongs x e in by l.0 l.1 (is_any_ready l.1) refl l.2 l.3
  where
    by : (id : ℕ) (k : Job) (b : Bool) → is_any_ready k ≡ b → get w.jobs id ≡ Some k → cond b (Some (k.row.priority, id)) None ≡ Some x → is_any_ready j ≡ true
    by id k false ready there is = absurd (true≢false (sym (ap is_some is)))
    by id k true ready there is = ap is_any_ready (same_Some j k (sym at ∙ ap (λ (z : ℤ × ℕ). get w.jobs z.1) (sym (same_Some (k.row.priority, id) x is)) ∙ there)) ∙ ready

module _ (w : World) (good : IsGood w) (past found : Option (ℤ × ℕ)) (next : IsNext priority_cmp (Listed (by_priority is_any_ready) w.jobs) past found) where
  unpaused_ready : (j : Job) → is_unpaused w j ≡ true → is_any_ready j ≡ true
  unpaused_ready j h = (and_parts (is_any_ready j) (is_none (get w.paused j.row.queue)) h).0

  judged : (j : Job) (b : Bool) → is_any_ready j ≡ true → b ≡ is_some (get w.paused j.row.queue) → is_unpaused w j ≡ not b
  judged j b ready paused = ap (λ r. r && is_none (get w.paused j.row.queue)) ready ∙ by (get w.paused j.row.queue) paused
    where
      by : (o : Option (Unit {0})) → b ≡ is_some o → is_none o ≡ not b
      by None e = ap not (sym e)
      by (Some u) e = ap not (sym e)

  pub every_ends : found ≡ None → (None ≡ first_of (every_left w past)) × (every_left w past ≡ drop 1 (every_left w past))
  every_ends e = let none = no_more w good (is_unpaused w) is_any_ready unpaused_ready past found next e in (ap first_of (sym none), none ∙ ap (drop 1) (sym none))

  module _ (x : ℤ × ℕ) (j : Job) (e : found ≡ Some x) (at : get w.jobs x.1 ≡ Some j) where
    pub every_takes : false ≡ is_some (get w.paused j.row.queue) → (Some j ≡ first_of (every_left w past)) × (every_left w (Some x) ≡ drop 1 (every_left w past))
    every_takes paused =
        let took = takes w good (is_unpaused w) is_any_ready unpaused_ready past found next x j e at (judged j false (ready_at w past found next x j e at) paused) in
        (ap first_of (sym took), ap (drop 1) (sym took))

    pub every_skips : true ≡ is_some (get w.paused j.row.queue) → every_left w (Some x) ≡ every_left w past
    every_skips paused = sym (skips w good (is_unpaused w) is_any_ready unpaused_ready past found next x j e at (judged j true (ready_at w past found next x j e at) paused))

    pub fewer : length (past_place w is_any_ready (Some x)) < length (past_place w is_any_ready past)
    fewer =
        let took = ap length (takes w good is_any_ready is_any_ready (λ k h. h) past found next x j e at (ready_at w past found next x j e at)) in
        omega (arith, took)
