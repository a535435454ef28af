-- The first blocked job of a key where some jobs moved, by the order of those that didn't.
use Rattle.std.proofs.Common.{◌≡◌, ℕ, ℤ, Bool, true, false, not, cond, List, [], ◌∷◌, map, filter, Option, None, Some, IsSome, is_some, Ordering, Contains, ap, sym, ◌∙◌, refl, subst, inl, inr}
use Rattle.std.proofs.lemmas.Bool.{true≢false}
use Rattle.std.proofs.lemmas.Map.Lookups.{exact_pairs, exact_signed, exact_unsigned}
use Rattle.std.specs.Cmp.{IsTotalOrder, tied_itself}
use Rattle.std.specs.FinMap.{IsAntisymmetric}
use Rattle.std.specs.FinMap.Entries.{find, where_key}
use Rattle.std.specs.Ordering.{is_eq, eq_by_cmp, nat_cmp, int_cmp}
use Rattle.queue_model.specs.GoodWorld.{IsGood}
use Rattle.queue_model.specs.Map as finite
use Rattle.queue_model.specs.Map.{get, from_entries, retain_keys}
use Rattle.queue_model.specs.World.{World}
use Rattle.queue_model.specs.declared.Job.{Job}
use Rattle.queue_model.proofs.Maps.{get-insert, get-retain_keys, same_map}
use Rattle.queue_model.proofs.Steps.{same_Some}
use Rattle.row_locks.proofs.Membership.{none, Contains-head, Contains-tail, Contains-cons_cases, Contains-map, Contains-from_map, Contains-filter, Contains-from_filter}
use Rattle.plan_model.specs.GoodDraft.{is_moved}
use Rattle.plan_model.specs.Orders.{priority_cmp, placed, in_order, first_of, first_blocked, is_blocked_at}
use Rattle.plan_model.proofs.MapLemmas.{entry_found}
use Rattle.plan_model.proofs.OrderLemmas.{priority_total}
use Rattle.plan_model.proofs.PlacedJobs.{IsPlaced, exact_priority, placed_job, job_placed}

-- the values at keys that pass, where these are the values that pass
kept_values : {K X : Type 0} (R : K → K → Ordering) (p : K → Bool) (q : X → Bool) (es : List (K × X)) → ((e : K × X) → Contains es e → p e.0 ≡ q e.1) → map (λ e. e.1) (where_key R p es) ≡ filter q (map (λ e. e.1) es)
kept_values R p q [] h = refl
kept_values R p q (e ∷ es) h =
    ap (λ b. map (λ (x : _). x.1) (cond b (e ∷ where_key R p es) (where_key R p es))) (h e (Contains-head e es))
    ∙ by (q e.1) (kept_values R p q es (λ x c. h x (Contains-tail e es x c)))
  where
    by : (b : Bool) → map (λ e. e.1) (where_key R p es) ≡ filter q (map (λ e. e.1) es) → map (λ e. e.1) (cond b (e ∷ where_key R p es) (where_key R p es)) ≡ cond b (e.1 ∷ filter q (map (λ e. e.1) es)) (filter q (map (λ e. e.1) es))
    by true rest = ap (λ xs. e.1 ∷ xs) rest
    by false rest = rest

same_option : {X : Type 0} (a b : Option X) → ((x : X) → a ≡ Some x → b ≡ Some x) → ((x : X) → b ≡ Some x → a ≡ Some x) → a ≡ b
same_option None None f g = refl
same_option None (Some y) f g = g y refl
same_option (Some x) b f g = sym (f x refl)

-- ---- jobs that moved

module _ (w v : World) (key : List ℕ) (moved : List ℕ) (good : IsGood w) (good_after : IsGood v) (stays : (id : ℕ) → is_moved moved id ≡ false → get v.jobs id ≡ get w.jobs id) (left : (id : ℕ) (j : Job) → is_moved moved id ≡ true → get v.jobs id ≡ Some j → is_blocked_at key j ≡ false) where
  abbrev placed_in : World → finite.Map priority_cmp Job
  placed_in x = placed (filter (is_blocked_at key) (finite.values x.jobs))

  abbrev unmoved : ℤ × ℕ → Bool
  unmoved x = not (is_moved moved x.1)

  abbrev rest : finite.Map priority_cmp Job
  rest = retain_keys (placed_in w) unmoved

  rest_at : (x : ℤ × ℕ) → get rest x ≡ cond (unmoved x) (get (placed_in w) x) None
  rest_at x = get-retain_keys (placed_in w) unmoved x (λ y tie. ap unmoved (sym (exact_priority x y tie)))

  still_there : (x : ℤ × ℕ) (j : Job) → get (placed_in v) x ≡ Some j → get rest x ≡ Some j
  still_there x j h = by (is_moved moved x.1) refl
    where
      i : IsPlaced v (is_blocked_at key) x j
      i = placed_job v (is_blocked_at key) good_after x j h

      by : (b : Bool) → is_moved moved x.1 ≡ b → get rest x ≡ Some j
      by true e = absurd (true≢false (sym i.passes ∙ left x.1 j e i.found))
      by false e = rest_at x ∙ ap (λ b. cond (not b) (get (placed_in w) x) None) e
          ∙ job_placed w (is_blocked_at key) good x j (record { found = sym (stays x.1 e) ∙ i.found; place = i.place; passes = i.passes })

  was_there : (x : ℤ × ℕ) (j : Job) → get rest x ≡ Some j → get (placed_in v) x ≡ Some j
  was_there x j h = by (is_moved moved x.1) refl (sym (rest_at x) ∙ h)
    where
      by : (b : Bool) → is_moved moved x.1 ≡ b → cond (not b) (get (placed_in w) x) None ≡ Some j → get (placed_in v) x ≡ Some j
      by true e f = absurd (true≢false (ap is_some (sym f)))
      by false e f =
          let i = placed_job w (is_blocked_at key) good x j f in
          job_placed v (is_blocked_at key) good_after x j (record { found = stays x.1 e ∙ i.found; place = i.place; passes = i.passes })

  pub first_unmoved : first_blocked v key ≡ first_of (filter (λ j. not (is_moved moved j.row.id)) (in_order (filter (is_blocked_at key) (finite.values w.jobs))))
  first_unmoved =
      let same : placed_in v ≡ rest = same_map priority_total exact_priority (placed_in v) rest (λ x. same_option (get (placed_in v) x) (get rest x) (still_there x) (was_there x)) in
      ap (λ (m : finite.Map priority_cmp Job). first_of (finite.values m)) same
      ∙ ap first_of (kept_values priority_cmp unmoved (λ j. not (is_moved moved j.row.id)) (placed_in w).entries (λ e c.
      ap unmoved (sym (placed_job w (is_blocked_at key) good e.0 e.1 (entry_found priority_total (placed_in w).entries e (placed_in w).sorted c)).place)))
