-- Names in order are the keys of a map, where they are the same ones.
use Rattle.std.proofs.Common.{◌≡◌, ℕ, Bool, true, false, cond, ◌&&◌, ◌||◌, T, List, [], ◌∷◌, map, filter, Option, None, Some, IsSome, is_some, Contains, Ordering, ap, sym, ◌∙◌, refl, subst}
use Rattle.std.proofs.lemmas.Bool.{true≢false}
use Rattle.std.proofs.lemmas.Map.Keys.{sorted_head, sorted_tail}
use Rattle.std.proofs.lemmas.Map.Views.{list_any-from_Contains}
use Rattle.std.specs.Cmp.{eq_by_cmp_equiv, nat_cmp_total}
use Rattle.std.specs.FinMap.Entries.{find, below_all, is_sorted, is_some-find, same_entries}
use Rattle.std.specs.List.{list_any, AllByRecursion}
use Rattle.std.specs.List.Sorted.{IsStrictlySortedBy}
use Rattle.std.specs.Ordering.{is_eq, is_lt, eq_by_cmp, nat_cmp}
use Rattle.std.specs.declared.cmp.Ordering.TheVariants.{Less, Equal, Greater}
use Rattle.job_states.specs.States.{stage_of, is_ready}
use Rattle.queue_model.specs.Map as finite
use Rattle.queue_model.specs.World.{World, text_cmp}
use Rattle.queue_model.specs.declared.Job.{Job}
use Rattle.queue_model.proofs.Maps.{texts_total, exact_texts}
use Rattle.queue_model.proofs.Steps.{same_Some}
use Rattle.row_locks.proofs.Membership.{Contains-head, Contains-tail, Contains-map, Contains-from_map, Contains-filter, Contains-from_filter}
use Rattle.exec_tables.specs.Names.{AreSorted}
use Rattle.exec_tables.specs.Next.{Listed, by_key, by_ready_queue}
use Rattle.plan_model.specs.Orders.{names_in, ready_jobs, ready_queues}
use Rattle.plan_model.proofs.MapLemmas.{filter_passes, made_at, value_found}
use Rattle.plan_model.proofs.PlacedJobs.{entry_there, found_value}

abbrev keyed : List (List ℕ) → List (List ℕ × Unit {0})
keyed names = map (λ n. (n, tt)) names

both : (a b : Bool) → T a → T b → T (a && b)
both true b p q = q
both false b p q = absurd p

all_below : (name : List ℕ) (names : List (List ℕ)) → AllByRecursion (λ y. text_cmp name y ≡ Less) names → T (below_all text_cmp name (keyed names))
all_below name [] h = tt
all_below name (n ∷ names) h = both (is_lt (text_cmp name n)) (below_all text_cmp name (keyed names)) (subst (λ r. T (is_lt r)) (sym h.0) tt) (all_below name names h.1)

in_order : (names : List (List ℕ)) → IsStrictlySortedBy text_cmp names → T (is_sorted text_cmp (keyed names))
in_order [] h = tt
in_order (n ∷ names) h = both (below_all text_cmp n (keyed names)) (is_sorted text_cmp (keyed names)) (all_below n names (sorted_head text_cmp n names h)) (in_order names (sorted_tail text_cmp n names h))

its_keys : (names : List (List ℕ)) → map (λ e. e.0) (keyed names) ≡ names
its_keys [] = refl
its_keys (n ∷ names) = ap (λ ns. n ∷ ns) (its_keys names)

is_there : (names : List (List ℕ)) (q : List ℕ) → list_any (eq_by_cmp text_cmp q) names ≡ true → Contains names q
is_there [] q h = absurd (true≢false (sym h))
is_there (n ∷ names) q h = by (text_cmp q n) refl h (is_there names q)
  where
    by : (r : Ordering) → text_cmp q n ≡ r → (is_eq r || list_any (eq_by_cmp text_cmp q) names) ≡ true → (list_any (eq_by_cmp text_cmp q) names ≡ true → Contains names q) → Contains (n ∷ names) q
    by Equal is h rest = subst (Contains (n ∷ names)) (sym (exact_texts q n is)) (Contains-head n names)
    by Less is h rest = Contains-tail n names q (rest h)
    by Greater is h rest = Contains-tail n names q (rest h)

same_units : (a b : Option (Unit {0})) → (IsSome a → IsSome b) → (IsSome b → IsSome a) → a ≡ b
same_units None None f g = refl
same_units None (Some y) f g = absurd (true≢false (sym (g refl)))
same_units (Some x) None f g = absurd (true≢false (sym (f refl)))
same_units (Some x) (Some y) f g = refl

pub keys_are : (names : List (List ℕ)) (m : finite.Map text_cmp (Unit {0})) → IsStrictlySortedBy text_cmp names → ((n : List ℕ) → Contains names n → IsSome (finite.get m n)) → ((n : List ℕ) → IsSome (finite.get m n) → Contains names n) → names ≡ names_in m
keys_are names m sorted into out = sym (its_keys names) ∙ ap (map (λ e. e.0)) (same_entries text_cmp texts_total exact_texts (keyed names) m.entries (in_order names sorted) m.sorted (λ q.
    same_units (find text_cmp q (keyed names)) (finite.get m q)
    (λ s. into q (is_there names q (sym (seen q) ∙ s)))
    (λ s. seen q ∙ list_any-from_Contains (eq_by_cmp_equiv texts_total) q names (out q s))))
  where
    seen : (q : List ℕ) → is_some (find text_cmp q (keyed names)) ≡ list_any (eq_by_cmp text_cmp q) names
    seen q = is_some-find text_cmp q (keyed names) ∙ ap (list_any (eq_by_cmp text_cmp q)) (its_keys names)

-- ---- the queues that have a ready job, and those that are paused

if_ready : (b : Bool) (name queue : List ℕ) → cond b (Some queue) None ≡ Some name → (b ≡ true) × (queue ≡ name)
if_ready true name queue e = (refl, same_Some queue name e)
if_ready false name queue e = absurd (true≢false (sym (ap is_some e)))

abbrev queue_entry : Job → List ℕ × Unit {0}
queue_entry j = (j.row.queue, tt)

abbrev queue_entries : World → List (List ℕ × Unit {0})
queue_entries w = map queue_entry (ready_jobs w)

abbrev queue_map : World → finite.Map text_cmp (Unit {0})
queue_map w = finite.from_entries (queue_entries w)

pub ready_are : (w : World) (names : List (List ℕ)) → AreSorted (Listed by_ready_queue w.jobs) names → names ≡ ready_queues w
ready_are w names h = keys_are names (queue_map w) h.sorted into out
  where
    into : (n : List ℕ) → Contains names n → IsSome (finite.get (queue_map w) n)
    into n c =
        let l = h.belong n c in
        let r = if_ready (is_ready (Some (stage_of l.1.state))) n l.1.row.queue l.3 in
        subst (λ q. IsSome (finite.get (queue_map w) q)) r.1
        (entry_there texts_total (queue_entries w) (l.1.row.queue, tt) (Contains-map queue_entry (ready_jobs w) l.1
        (Contains-filter (λ (j : Job). is_ready (Some (stage_of j.state))) (finite.values w.jobs) l.1 (found_value nat_cmp w.jobs.entries l.0 l.1 l.2) r.0)))

    out : (n : List ℕ) → IsSome (finite.get (queue_map w) n) → Contains names n
    out n s = by (finite.get (queue_map w) n) refl s
      where
        by : (o : Option (Unit {0})) → finite.get (queue_map w) n ≡ o → IsSome o → Contains names n
        by None is s = absurd (true≢false (sym s))
        by (Some u) is s =
            let m = made_at texts_total (queue_entries w) n u is in
            let e = Contains-from_map queue_entry (ready_jobs w) m.0 m.1 in
            let v = value_found nat_cmp_total w.jobs e.0 (Contains-from_filter (λ (j : Job). is_ready (Some (stage_of j.state))) (finite.values w.jobs) e.0 e.1) in
            h.all n (v.0, e.0, v.1, ap (λ b. cond b (Some e.0.row.queue) None) (filter_passes (λ (j : Job). is_ready (Some (stage_of j.state))) (finite.values w.jobs) e.0 e.1) ∙ ap (λ z. Some z.0) e.2 ∙ ap Some (sym (exact_texts n m.0.0 m.3)))

pub paused_are : (w : World) (names : List (List ℕ)) → AreSorted (Listed by_key w.paused) names → names ≡ names_in w.paused
paused_are w names h = keys_are names w.paused h.sorted
    (λ n c. let l = h.belong n c in ap (λ q. is_some (finite.get w.paused q)) (sym (same_Some l.0 n l.3)) ∙ ap is_some l.2)
    (λ n s. h.all n (there n (finite.get w.paused n) refl s))
  where
    there : (n : List ℕ) (o : Option (Unit {0})) → finite.get w.paused n ≡ o → IsSome o → Listed by_key w.paused n
    there n None is s = absurd (true≢false (sym s))
    there n (Some u) is s = (n, u, is, refl)
