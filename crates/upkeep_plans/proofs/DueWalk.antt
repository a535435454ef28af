-- The steps of a walk over the due jobs.
use Rattle.std.proofs.Common.{◌≡◌, ℕ, ℤ, Bool, true, false, cond, nat_le, ◌<◌, arith, List, [], ◌∷◌, map, filter, Option, None, Some, IsSome, is_some, Ordering, ap, sym, ◌∙◌, refl, subst, ⊎_elim}
use Rattle.std.proofs.lemmas.Bool.{true≢false}
use Rattle.std.proofs.lemmas.Cmp.{on_total, then_total}
use Rattle.std.proofs.lemmas.List.Elements.{Contains-append_left, Contains-append_right}
use Rattle.std.proofs.lemmas.Map.Lookups.{exact_pairs, exact_unsigned}
use Rattle.std.specs.Cmp.{IsTotalOrder, nat_cmp_total}
use Rattle.std.specs.FinMap.{IsAntisymmetric}
use Rattle.std.specs.Option.{option_map}
use Rattle.std.specs.Ordering.{is_lt, int_cmp, nat_cmp, ordering_then}
use Rattle.std.specs.Prelude.{flat_map, Contains}
use Rattle.std.specs.declared.cmp.Ordering.TheVariants.{Less, Equal, Greater}
use Rattle.job_states.specs.declared.job.JobRow.{JobRow}
use Rattle.job_states.specs.declared.job.State.{State}
use Rattle.job_states.specs.declared.job.State.TheVariants as state
use Rattle.queue_model.specs.GoodWorld.{IsGood}
use Rattle.queue_model.specs.Map as finite
use Rattle.queue_model.specs.Map.{get}
use Rattle.queue_model.specs.World.{World, job}
use Rattle.queue_model.specs.declared.Job.{Job}
use Rattle.queue_model.proofs.Steps.{same_Some}
use Rattle.row_locks.proofs.Membership.{none, Contains-head, Contains-cons_cases}
use Rattle.exec_tables.specs.Next.{IsNext, Listed, by_moment, is_above, moment_cmp}
use Rattle.plan_model.specs.Orders.{priority_cmp}
use Rattle.plan_model.specs.UpkeepCommands.{due_cmp, due_entry, due_jobs}
use Rattle.plan_model.proofs.Apart.{flat_there}
use Rattle.plan_model.proofs.MapLemmas.{made_at}
use Rattle.plan_model.proofs.OrderLemmas.{own_place, priority_total}
use Rattle.plan_model.proofs.PlacedJobs.{entry_there, exact_priority, found_value}
use Rattle.upkeep_plans.specs.Left.{due_left, due_place, due_placed, past_key}
use Rattle.upkeep_plans.proofs.Passed.{first_left, none_left}
use Rattle.upkeep_plans.proofs.KeyWalks.{all_kept}

due_total : IsTotalOrder due_cmp
due_total = then_total (on_total (λ (p : ℕ × (ℤ × ℕ)). p.0) nat_cmp_total) (on_total (λ (p : ℕ × (ℤ × ℕ)). p.1) priority_total)

exact_due : IsAntisymmetric due_cmp
exact_due = exact_pairs nat_cmp priority_cmp exact_unsigned exact_priority

-- ---- the two ways to write a place

regrouped : (a b c : Ordering) → ordering_then (ordering_then a b) c ≡ ordering_then a (ordering_then b c)
regrouped Less b c = refl
regrouped Equal b c = refl
regrouped Greater b c = refl

same_order : (x y : ℕ × ℤ × ℕ) → moment_cmp x y ≡ due_cmp (due_place x) (due_place y)
same_order x y = regrouped (nat_cmp x.0 y.0) (int_cmp x.1 y.1) (nat_cmp x.2 y.2)

same_above : (past : Option (ℕ × ℤ × ℕ)) (x : ℕ × ℤ × ℕ) → is_above moment_cmp past x ≡ is_above due_cmp (option_map due_place past) (due_place x)
same_above None x = refl
same_above (Some p) x = ap is_lt (same_order p x)

-- ---- what is due stands at its place

-- a job of the tables that is due stands at this place
record IsDueAt (w : World) (m : ℕ) (x : ℕ × ℤ × ℕ) (j : Job) : Type 0 where
  found : get w.jobs x.2 ≡ Some j
  place : by_moment x.2 j ≡ Some x
  due : nat_le x.0 m ≡ true

abbrev flat : ℕ × (ℤ × ℕ) → ℕ × ℤ × ℕ
flat q = (q.0, q.1.0, q.1.1)

record IsEntry (m : ℕ) (row : JobRow) (st : State) (e : (ℕ × (ℤ × ℕ)) × Job) : Type 0 where
  job_is : job row st ≡ e.1
  id : row.id ≡ e.0.1.1
  place : by_moment row.id (job row st) ≡ Some (flat e.0)
  due : nat_le e.0.0 m ≡ true

of_entry : (m : ℕ) (row : JobRow) (st : State) (e : (ℕ × (ℤ × ℕ)) × Job) → Contains (due_entry m (job row st)) e → IsEntry m row st e
of_entry m row (state.Scheduled at) e h = by (nat_le at m) refl h
  where
    entry : (ℕ × (ℤ × ℕ)) × Job
    entry = ((at, (row.priority, row.id)), job row (state.Scheduled at))

    by : (b : Bool) → nat_le at m ≡ b → Contains (cond b (entry ∷ []) []) e → IsEntry m row (state.Scheduled at) e
    by true due h = subst (IsEntry m row (state.Scheduled at)) (⊎_elim (λ same. same) (λ none_left. absurd (none e none_left)) (Contains-cons_cases entry [] e h)) (record { job_is = refl; id = refl; place = refl; due = due })
    by false due h = absurd (none e h)
of_entry m row (state.Ready permit) e h = absurd (none e h)
of_entry m row (state.Blocked until) e h = absurd (none e h)
of_entry m row (state.Claimed pid permit) e h = absurd (none e h)
of_entry m row (state.Failed error message) e h = absurd (none e h)
of_entry m row (state.Finished at) e h = absurd (none e h)

to_entry : (m : ℕ) (row : JobRow) (st : State) (x : ℕ × ℤ × ℕ) → by_moment row.id (job row st) ≡ Some x → nat_le x.0 m ≡ true → Contains (due_entry m (job row st)) (due_place x, job row st)
to_entry m row (state.Scheduled at) x e due = subst (λ (y : ℕ × ℤ × ℕ). Contains (due_entry m (job row (state.Scheduled at))) (due_place y, job row (state.Scheduled at))) same
    (subst (λ b. Contains (cond b (entry ∷ []) []) entry) (sym (ap (λ (y : ℕ × ℤ × ℕ). nat_le y.0 m) same ∙ due)) (Contains-head entry []))
  where
    same : (at, row.priority, row.id) ≡ x
    same = same_Some (at, row.priority, row.id) x e

    entry : (ℕ × (ℤ × ℕ)) × Job
    entry = ((at, (row.priority, row.id)), job row (state.Scheduled at))
to_entry m row (state.Ready permit) x e due = absurd (true≢false (sym (ap is_some e)))
to_entry m row (state.Blocked until) x e due = absurd (true≢false (sym (ap is_some e)))
to_entry m row (state.Claimed pid permit) x e due = absurd (true≢false (sym (ap is_some e)))
to_entry m row (state.Failed error message) x e due = absurd (true≢false (sym (ap is_some e)))
to_entry m row (state.Finished at) x e due = absurd (true≢false (sym (ap is_some e)))

flat_has : {A X : Type 0} (f : A → List X) (xs : List A) (x : A) (y : X) → Contains xs x → Contains (f x) y → Contains (flat_map f xs) y
flat_has f [] x y h at = absurd (none x h)
flat_has f (z ∷ zs) x y h at = ⊎_elim
    (λ same. Contains-append_left (f z) (flat_map f zs) y (subst (λ a. Contains (f a) y) (sym same) at))
    (λ later. Contains-append_right (f z) (flat_map f zs) y (flat_has f zs x y later at))
    (Contains-cons_cases z zs x h)

abbrev any : (ℕ × (ℤ × ℕ)) × Job → Bool
any e = true

filter_any : (es : List ((ℕ × (ℤ × ℕ)) × Job)) → filter any es ≡ es
filter_any [] = refl
filter_any (e ∷ es) = ap (λ xs. e ∷ xs) (filter_any es)

earlier : (a b m : ℕ) → nat_le a m ≡ true → m < b → (r : Ordering) → ordering_then (nat_cmp a b) r ≡ Less
earlier a b m le lt r = ap (λ o. ordering_then o r) (before a b m le lt)
  where
    before : (a b m : ℕ) → nat_le a m ≡ true → m < b → nat_cmp a b ≡ Less
    before a b m le lt = grind (arith, le, lt)

-- the place of a scheduled job has its number
moment_number : (id : ℕ) (row : JobRow) (st : State) (x : ℕ × ℤ × ℕ) → by_moment id (job row st) ≡ Some x → id ≡ x.2
moment_number id row (state.Scheduled at) x e = ap (λ (y : ℕ × ℤ × ℕ). y.2) (same_Some (at, row.priority, id) x e)
moment_number id row (state.Ready permit) x e = absurd (true≢false (sym (ap is_some e)))
moment_number id row (state.Blocked until) x e = absurd (true≢false (sym (ap is_some e)))
moment_number id row (state.Claimed pid permit) x e = absurd (true≢false (sym (ap is_some e)))
moment_number id row (state.Failed error message) x e = absurd (true≢false (sym (ap is_some e)))
moment_number id row (state.Finished at) x e = absurd (true≢false (sym (ap is_some e)))

module _ (w : World) (m : ℕ) (good : IsGood w) where
  abbrev all : List Job
  all = finite.values w.jobs

  due_at : (q : ℕ × (ℤ × ℕ)) (j : Job) → get (due_placed w m) q ≡ Some j → IsDueAt w m (flat q) j
  due_at q j h =
      let made = made_at due_total (flat_map (due_entry m) all) q j h in
      let from = flat_there (due_entry m) all made.0 made.1 in
      let is = of_entry m from.0.row from.0.state made.0 from.2 in
      let key : q ≡ made.0.0 = exact_due q made.0.0 made.3 in
      let same : from.0 ≡ j = is.job_is ∙ made.2 in
      let number : from.0.row.id ≡ q.1.1 = is.id ∙ ap (λ (k : ℕ × (ℤ × ℕ)). k.1.1) (sym key) in
      let here : get w.jobs q.1.1 ≡ Some from.0 = subst (λ n. get w.jobs n ≡ Some from.0) number (own_place w from.0 good from.1) in
      let place : by_moment q.1.1 from.0 ≡ Some (flat q) = ap (λ n. by_moment n from.0) (sym number) ∙ is.place ∙ ap (λ (k : ℕ × (ℤ × ℕ)). Some (flat k)) (sym key) in
      subst (IsDueAt w m (flat q)) same (record { found = here; place = place; due = subst (λ (k : ℕ × (ℤ × ℕ)). nat_le k.0 m ≡ true) (sym key) is.due })

  at_due : (x : ℕ × ℤ × ℕ) (j : Job) → IsDueAt w m x j → get (due_placed w m) (due_place x) ≡ Some j
  at_due x j h =
      let number : j.row.id ≡ x.2 = (good.jobs x.2 j h.found).own_number in
      let entry = to_entry m j.row j.state x (ap (λ n. by_moment n j) number ∙ h.place) h.due in
      let there = flat_has (due_entry m) all j (due_place x, j) (found_value nat_cmp w.jobs.entries x.2 j h.found) entry in
      by (get (due_placed w m) (due_place x)) refl (entry_there due_total (flat_map (due_entry m) all) (due_place x, j) there)
    where
      by : (o : Option Job) → get (due_placed w m) (due_place x) ≡ o → IsSome o → o ≡ Some j
      by None is s = absurd (true≢false (sym s))
      by (Some k) is s = sym (due_at (due_place x) k is).found ∙ h.found

  pub due_at_begin : due_left w m None ≡ due_jobs w m
  due_at_begin = ap (map (λ (e : (ℕ × (ℤ × ℕ)) × Job). e.1)) (all_kept due_cmp (is_above due_cmp None) (due_placed w m).entries (λ e c. refl))

  module _ (past found : Option (ℕ × ℤ × ℕ)) (next : IsNext moment_cmp (Listed by_moment w.jobs) past found) where
    listed : (q : ℕ × (ℤ × ℕ)) (j : Job) → get (due_placed w m) q ≡ Some j → Listed by_moment w.jobs (flat q)
    listed q j at = let h = due_at q j at in (q.1.1, j, h.found, h.place)

    none_past : ((q : ℕ × (ℤ × ℕ)) (j : Job) → get (due_placed w m) q ≡ Some j → is_above moment_cmp past (flat q) ≡ false) → due_left w m past ≡ []
    none_past h = ap (map (λ (e : (ℕ × (ℤ × ℕ)) × Job). e.1)) (sym (filter_any (past_key (due_placed w m) (option_map due_place past)))
        ∙ none_left due_total exact_due any (due_placed w m) (option_map due_place past) (λ q j at passes. sym (same_above past (flat q)) ∙ h q j at))

    pub due_ends : found ≡ None → due_left w m past ≡ []
    due_ends e = none_past (λ q j at. next.none e (flat q) (listed q j at))

    module _ (x : ℕ × ℤ × ℕ) (is : found ≡ Some x) where
      -- the first one that is left isn't due, and so none is
      pub due_late : m < x.0 → due_left w m past ≡ []
      due_late late = none_past (λ q j at. by q j at (is_above moment_cmp past (flat q)) refl)
        where
          by : (q : ℕ × (ℤ × ℕ)) (j : Job) → get (due_placed w m) q ≡ Some j → (b : Bool) → is_above moment_cmp past (flat q) ≡ b → b ≡ false
          by q j at false up = refl
          by q j at true up = absurd (next.least x (flat q) is (listed q j at) up
              (same_order (flat q) x ∙ earlier q.0 x.0 m (due_at q j at).due late (ordering_then (int_cmp q.1.0 x.1) (nat_cmp q.1.1 x.2))))

      pub due_goes : nat_le x.0 m ≡ true → (j : Job) × (get w.jobs x.2 ≡ Some j) × (due_left w m past ≡ j ∷ due_left w m (Some x))
      due_goes due =
          let l = next.belongs x is in
          let number : l.0 ≡ x.2 = moment_number l.0 l.1.row l.1.state x l.3 in
          let here : get w.jobs x.2 ≡ Some l.1 = ap (get w.jobs) (sym number) ∙ l.2 in
          let place : by_moment x.2 l.1 ≡ Some x = ap (λ n. by_moment n l.1) (sym number) ∙ l.3 in (
            l.1,
            here,
            ap (map (λ (e : (ℕ × (ℤ × ℕ)) × Job). e.1)) (
                sym (filter_any (past_key (due_placed w m) (option_map due_place past)))
                ∙ first_left due_total exact_due any (due_placed w m) (option_map due_place past) (due_place x) l.1
                (at_due x l.1 (record { found = here; place = place; due = due })) (sym (same_above past x) ∙ next.above x is) refl
                (λ q j at passes up less. next.least x (flat q) is (listed q j at) (same_above past (flat q) ∙ up) (same_order (flat q) x ∙ less))
                ∙ ap (λ es. (due_place x, l.1) ∷ es) (filter_any (past_key (due_placed w m) (Some (due_place x))))
                ),
          )
