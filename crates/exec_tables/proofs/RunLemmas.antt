-- Recurring executions by the place of their task, as the map by its name.
use Rattle.std.proofs.Common.{◌≡◌, ◌+◌, ◌<◌, ◌≤◌, ◌==◌, ℕ, zero, suc, Bool, true, false, cond, ◌&&◌, not, List, [], ◌∷◌, length, map, filter, Option, None, Some, IsSome, is_some, ap, sym, ◌∙◌, refl, arith, eqb, slice_index_or, if◌then◌else◌}
use Rattle.std.specs.Cmp.{IsTotalOrder, tied_itself, eq_by_cmp_equiv}
use Rattle.std.specs.Cmp.Lexicographic.{pointwise, nat_list_eq_equiv, texts_ties}
use Rattle.std.specs.Ordering.{nat_cmp, is_eq, eq_by_cmp, ordering_then}
use Rattle.std.specs.declared.cmp.Ordering.{Ordering}
use Rattle.std.specs.declared.cmp.Ordering.TheVariants.{Less, Equal, Greater}
use Rattle.std.specs.FinMap.{IsAntisymmetric}
use Rattle.std.specs.List.{AllByRecursion, IsDistinct, position_or_len}
use Rattle.std.specs.Map.{lookup, keys_of, values_of}
use Rattle.std.proofs.lemmas.Bool.{true≢false, eqb-true, eq-eqb}
use Rattle.std.proofs.lemmas.Cmp.{ranked}
use Rattle.std.proofs.lemmas.Map.Entries.{length-keys_of, lookup-filter-values, option_filter}
use Rattle.std.proofs.lemmas.Map.Keys.{apart_from_distinct}
use Rattle.indexmap.specs.IndexMap.{insert_entry}
use Rattle.queue_model.specs.Map.{Map, get, insert, remove, retain_keys, from_entries}
use Rattle.std.specs.Cmp.{nat_cmp_total}
use Rattle.queue_model.specs.World.{text_cmp, run_cmp, is_exactly}
use Rattle.queue_model.proofs.Maps.{texts_total, exact_texts, runs_total, exact_runs, get-insert, get-remove, get-retain_keys, same_map}
use Rattle.exec_tables.specs.Next.{by_row}
use Rattle.exec_tables.specs.Runs.{AreRuns, named, row_at, same_run, task_at}
use Rattle.exec_tables.proofs.RowLemmas.{found, itself, number_ties, put_in, same}

module _ {K X : Type 0} {R : K → K → Ordering} (o : IsTotalOrder R) (eq : K → K → Bool) (ties : (a b : K) → eq a b ≡ is_eq (R a b)) (exact : IsAntisymmetric R) where
  lookup-insert_entry : (es : List (K × X)) (k q : K) (v : X) → lookup (eq q) (insert_entry eq es k v) ≡ cond (eq k q) (Some v) (lookup (eq q) es)
  lookup-insert_entry [] k q v = ap (λ b. cond b (Some v) None) (eq_flip q k)
    where
      eq_flip : (a b : K) → eq a b ≡ eq b a
      eq_flip a b = ties a b ∙ (eq_by_cmp_equiv o).symm a b ∙ sym (ties b a)
  lookup-insert_entry (e ∷ es) k q v = by (eq k e.0) refl (lookup-insert_entry es k q v)
    where
      is : (a b : K) → eq a b ≡ true → a ≡ b
      is = same o eq ties exact

      inner : (b : Bool) → eq q e.0 ≡ b → eq k e.0 ≡ false → lookup (eq q) (insert_entry eq es k v) ≡ cond (eq k q) (Some v) (lookup (eq q) es)
          → cond b (Some e.1) (lookup (eq q) (insert_entry eq es k v)) ≡ cond (eq k q) (Some v) (cond b (Some e.1) (lookup (eq q) es))
      inner true here other rest = sym (ap (λ c. cond c (Some v) (Some e.1)) (ap (eq k) (is q e.0 here) ∙ other))
      inner false here other rest = rest

      front : (b : Bool) → eq q e.0 ≡ b → k ≡ e.0 → (c : Bool) → eq k q ≡ c → cond b (Some v) (lookup (eq q) es) ≡ cond c (Some v) (cond b (Some e.1) (lookup (eq q) es))
      front true f at true g = refl
      front false f at false g = refl
      front true f at false g = absurd (true≢false (sym (itself o eq ties exact q) ∙ ap (λ x. eq x q) (is q e.0 f ∙ sym at) ∙ g))
      front false f at true g = absurd (true≢false (sym (itself o eq ties exact q) ∙ ap (eq q) (sym (is k q g) ∙ at) ∙ f))

      by : (b : Bool) → eq k e.0 ≡ b → lookup (eq q) (insert_entry eq es k v) ≡ cond (eq k q) (Some v) (lookup (eq q) es) → lookup (eq q) (if b then (e.0, v) ∷ es else e ∷ insert_entry eq es k v) ≡ cond (eq k q) (Some v) (lookup (eq q) (e ∷ es))
      by true f rest = front (eq q e.0) refl (is k e.0 f) (eq k q) refl
      by false f rest = inner (eq q e.0) refl f rest

  pub from_insert_entry : (es : List (K × X)) (k : K) (v : X) → from_entries {R = R} (insert_entry eq es k v) ≡ insert (from_entries es) k v
  from_insert_entry es k v = put_in o eq ties exact es (insert_entry eq es k v) k v (λ q. lookup-insert_entry es k q v)

-- ---- the names of tasks

abbrev Last : Type 0
Last = List (List ℕ × ℕ)

abbrev Recurring : Type 0
Recurring = List ((ℕ × ℕ) × ℕ)

-- a run of a task that is there, or of a new one, leaves the places of the others
at_old : (last : Last) (task : List ℕ) (time place : ℕ) → place < length last → task_at (insert_entry (pointwise eqb) last task time) place ≡ task_at last place
at_old [] task time place within = absurd (omega (arith, within))
at_old (e ∷ es) task time zero within = by (pointwise eqb task e.0)
  where
    by : (b : Bool) → slice_index_or (keys_of (if b then (e.0, time) ∷ es else e ∷ insert_entry (pointwise eqb) es task time)) 0 [] ≡ e.0
    by true = refl
    by false = refl
at_old (e ∷ es) task time (suc place) within = by (pointwise eqb task e.0) (at_old es task time place (omega (arith, within)))
  where
    by : (b : Bool) → task_at (insert_entry (pointwise eqb) es task time) place ≡ task_at es place → slice_index_or (keys_of (if b then (e.0, time) ∷ es else e ∷ insert_entry (pointwise eqb) es task time)) (suc place) [] ≡ task_at es place
    by true rest = refl
    by false rest = rest

at_new : (last : Last) (task : List ℕ) (time : ℕ) → task_at (insert_entry (pointwise eqb) last task time) (position_or_len (pointwise eqb task) (keys_of last)) ≡ task
at_new [] task time = refl
at_new (e ∷ es) task time = by (pointwise eqb task e.0) refl (at_new es task time)
  where
    by : (b : Bool) → pointwise eqb task e.0 ≡ b → task_at (insert_entry (pointwise eqb) es task time) (position_or_len (pointwise eqb task) (keys_of es)) ≡ task
        → slice_index_or (keys_of (if b then (e.0, time) ∷ es else e ∷ insert_entry (pointwise eqb) es task time)) (cond (not b) (1 + position_or_len (pointwise eqb task) (keys_of es)) 0) [] ≡ task
    by true is rest = sym (same texts_total (pointwise eqb) texts_ties exact_texts task e.0 is)
    by false is rest = ap (λ place. slice_index_or (keys_of (e ∷ insert_entry (pointwise eqb) es task time)) place []) (next (position_or_len (pointwise eqb task) (keys_of es))) ∙ rest
      where
        next : (n : ℕ) → 1 + n ≡ suc n
        next n = omega arith

longer : (last : Last) (task : List ℕ) (time : ℕ) → length last ≤ length (insert_entry (pointwise eqb) last task time)
longer [] task time = omega arith
longer (e ∷ es) task time = by (pointwise eqb task e.0) (longer es task time)
  where
    by : (b : Bool) → length es ≤ length (insert_entry (pointwise eqb) es task time) → length (e ∷ es) ≤ length (if b then (e.0, time) ∷ es else e ∷ insert_entry (pointwise eqb) es task time)
    by true rest = omega arith
    by false rest = omega (arith, rest)

-- two places have one task only where they are one
one_task : (last : Last) (p q : ℕ) → IsDistinct (pointwise eqb) (keys_of last) → p < length last → q < length last → (p == q) ≡ pointwise eqb (task_at last p) (task_at last q)
one_task last p q distinct p_within q_within = by (nat_cmp p q) refl
  where
    len : length (keys_of last) ≡ length last
    len = length-keys_of last

    apart : (n m : ℕ) → (n ≡ m → ⊥) → (n == m) ≡ false
    apart n m ne = step (n == m) refl
      where
        step : (b : Bool) → (n == m) ≡ b → b ≡ false
        step true e = absurd (ne (eqb-true n m e))
        step false e = refl

    flipped : (a b : List ℕ) → pointwise eqb a b ≡ pointwise eqb b a
    flipped a b = nat_list_eq_equiv.symm a b

    by : (r : Ordering) → nat_cmp p q ≡ r → (p == q) ≡ pointwise eqb (task_at last p) (task_at last q)
    by Less is = let below : p < q = ranked p q Less (sym is) in apart p q (λ e. omega (arith, below, e)) ∙ sym (apart_from_distinct (pointwise eqb) (keys_of last) p q [] distinct below (omega (arith, len, q_within)))
    by Equal is = let e : p ≡ q = ranked p q Equal (sym is) in ap (λ n. p == n) (sym e) ∙ eq-eqb p p refl ∙ sym (itself texts_total (pointwise eqb) texts_ties exact_texts (task_at last p)) ∙ ap (λ n. pointwise eqb (task_at last p) (task_at last n)) e
    by Greater is = let below : q < p = ranked p q Greater (sym is) in apart p q (λ e. omega (arith, below, e)) ∙ sym (flipped (task_at last p) (task_at last q) ∙ apart_from_distinct (pointwise eqb) (keys_of last) q p [] distinct below (omega (arith, len, p_within)))

-- ---- recurring executions, by name

-- the same names, where the places have the same tasks
named_same : (last later : Last) (es : Recurring) → AllByRecursion (λ run. run.0 < length last) (keys_of es) → ((place : ℕ) → place < length last → task_at later place ≡ task_at last place) → named later es ≡ named last es
named_same last later [] places same_tasks = refl
named_same last later (e ∷ es) places same_tasks = (λ i. ((same_tasks e.0.0 places.0 i, e.0.1), e.1) ∷ named_same last later es places.1 same_tasks i)

-- as the order of runs tells them apart
abbrev pub is_run : List ℕ × ℕ → List ℕ × ℕ → Bool
is_run a b = is_eq (run_cmp a b)

both_equal : (x y : Ordering) → is_eq (ordering_then x y) ≡ is_eq x && is_eq y
both_equal Less y = refl
both_equal Equal y = refl
both_equal Greater y = refl

-- two runs are of one place and time only where they are of one task and time
one_run : (last : Last) (a b : ℕ × ℕ) → IsDistinct (pointwise eqb) (keys_of last) → a.0 < length last → b.0 < length last → same_run a b ≡ is_run (task_at last a.0, a.1) (task_at last b.0, b.1)
one_run last a b distinct a_within b_within =
    ap (λ t. t && (a.1 == b.1)) (one_task last a.0 b.0 distinct a_within b_within ∙ texts_ties (task_at last a.0) (task_at last b.0))
    ∙ ap (λ t. is_eq (text_cmp (task_at last a.0) (task_at last b.0)) && t) (number_ties a.1 b.1)
    ∙ sym (both_equal (text_cmp (task_at last a.0) (task_at last b.0)) (nat_cmp a.1 b.1))

named_insert : (last : Last) (es : Recurring) (run : ℕ × ℕ) (id : ℕ) → IsDistinct (pointwise eqb) (keys_of last) → run.0 < length last → AllByRecursion (λ r. r.0 < length last) (keys_of es)
    → named last (insert_entry same_run es run id) ≡ insert_entry is_run (named last es) (task_at last run.0, run.1) id
named_insert last [] run id distinct within places = refl
named_insert last (e ∷ es) run id distinct within places = by (same_run run e.0) (one_run last run e.0 distinct within places.0) (named_insert last es run id distinct within places.1)
  where
    by : (b : Bool) → b ≡ is_run (task_at last run.0, run.1) (task_at last e.0.0, e.0.1) → named last (insert_entry same_run es run id) ≡ insert_entry is_run (named last es) (task_at last run.0, run.1) id
        → named last (if b then (e.0, id) ∷ es else e ∷ insert_entry same_run es run id) ≡ insert_entry is_run (named last (e ∷ es)) (task_at last run.0, run.1) id
    by true is rest = ap (λ b. if b then ((task_at last e.0.0, e.0.1), id) ∷ named last es else ((task_at last e.0.0, e.0.1), e.1) ∷ insert_entry is_run (named last es) (task_at last run.0, run.1) id) is
    by false is rest = ap (λ l. ((task_at last e.0.0, e.0.1), e.1) ∷ l) rest ∙ ap (λ b. if b then ((task_at last e.0.0, e.0.1), id) ∷ named last es else ((task_at last e.0.0, e.0.1), e.1) ∷ insert_entry is_run (named last es) (task_at last run.0, run.1) id) is

-- the last run of a task is noted
pub noted_last : (last : Last) (task : List ℕ) (time : ℕ) → from_entries {R = text_cmp} (insert_entry (pointwise eqb) last task time) ≡ insert (from_entries last) task time
noted_last = from_insert_entry texts_total (pointwise eqb) texts_ties exact_texts

pub noted_none : (last : Last) (es : Recurring) (task : List ℕ) (time : ℕ) → AllByRecursion (λ run. run.0 < length last) (keys_of es) → named (insert_entry (pointwise eqb) last task time) es ≡ named last es
noted_none last es task time places = named_same last (insert_entry (pointwise eqb) last task time) es places (at_old last task time)

all_keys : {K X : Type 0} (P : K → Type 0) (eq : K → K → Bool) (es : List (K × X)) (k : K) (v : X) → AllByRecursion P (keys_of es) → P k → AllByRecursion P (keys_of (insert_entry eq es k v))
all_keys P eq [] k v all one = (one, tt)
all_keys P eq (e ∷ es) k v all one = by (eq k e.0) (all_keys P eq es k v all.1 one)
  where
    by : (b : Bool) → AllByRecursion P (keys_of (insert_entry eq es k v)) → AllByRecursion P (keys_of (if b then (e.0, v) ∷ es else e ∷ insert_entry eq es k v))
    by true rest = all
    by false rest = (all.0, rest)

all_values : {K X : Type 0} (P : X → Type 0) (eq : K → K → Bool) (es : List (K × X)) (k : K) (v : X) → AllByRecursion P (values_of es) → P v → AllByRecursion P (values_of (insert_entry eq es k v))
all_values P eq [] k v all one = (one, tt)
all_values P eq (e ∷ es) k v all one = by (eq k e.0) (all_values P eq es k v all.1 one)
  where
    by : (b : Bool) → AllByRecursion P (values_of (insert_entry eq es k v)) → AllByRecursion P (values_of (if b then (e.0, v) ∷ es else e ∷ insert_entry eq es k v))
    by true rest = (one, all.1)
    by false rest = (all.0, rest)

mapped : {X : Type 0} {P Q : X → Type 0} (xs : List X) → ((x : X) → P x → Q x) → AllByRecursion P xs → AllByRecursion Q xs
mapped [] f all = tt
mapped (x ∷ xs) f all = (f x all.0, mapped xs f all.1)

-- at the place of the task
abbrev pub place_of : Last → List ℕ → ℕ
place_of last task = position_or_len (pointwise eqb task) (keys_of last)

pub noted_run : (last : Last) (es : Recurring) (jobs : Map nat_cmp (Unit {0})) (task : List ℕ) (time id : ℕ) → AreRuns last es jobs
    → IsDistinct (pointwise eqb) (keys_of (insert_entry (pointwise eqb) last task time)) → place_of last task < length (insert_entry (pointwise eqb) last task time)
    → from_entries {R = run_cmp} (named (insert_entry (pointwise eqb) last task time) (insert_entry same_run es (place_of last task, time) id)) ≡ insert (from_entries (named last es)) (task, time) id
noted_run last es jobs task time id runs distinct within =
    let later = insert_entry (pointwise eqb) last task time in
    let short = longer last task time in
    ap from_entries (named_insert later es (place_of last task, time) id distinct within (mapped (keys_of es) (λ run below. omega (arith, below, short)) runs.places))
    ∙ from_insert_entry runs_total is_run (λ a b. refl) exact_runs (named later es) (task_at later (place_of last task), time) id
    ∙ ap (λ name. insert (from_entries (named later es)) (name, time) id) (at_new last task time)
    ∙ ap (λ l. insert (from_entries l) (task, time) id) (noted_none last es task time runs.places)

-- what is kept stays true
pub are_runs : (last : Last) (es : Recurring) (jobs : Map nat_cmp (Unit {0})) (task : List ℕ) (time id : ℕ) → AreRuns last es jobs
    → IsDistinct (pointwise eqb) (keys_of (insert_entry (pointwise eqb) last task time)) → place_of last task < length (insert_entry (pointwise eqb) last task time)
    → IsDistinct same_run (keys_of (insert_entry same_run es (place_of last task, time) id))
    → AreRuns (insert_entry (pointwise eqb) last task time) (insert_entry same_run es (place_of last task, time) id) (insert jobs id tt)
are_runs last es jobs task time id runs distinct within apart =
    let short = longer last task time in
    record {
      tasks = distinct;
      runs = apart;
      places = all_keys (λ run. run.0 < length (insert_entry (pointwise eqb) last task time)) same_run es (place_of last task, time) id (mapped (keys_of es) (λ run below. omega (arith, below, short)) runs.places) within;
      listed = all_values (λ j. IsSome (get (insert jobs id tt) j)) same_run es (place_of last task, time) id (mapped (values_of es) still runs.listed) there;
    }
  where
    still : (j : ℕ) → IsSome (get jobs j) → IsSome (get (insert jobs id tt) j)
    still j h = by (eq_by_cmp nat_cmp j id) (get-insert nat_cmp_total jobs id tt j)
      where
        by : (b : Bool) → get (insert jobs id tt) j ≡ cond b (Some tt) (get jobs j) → IsSome (get (insert jobs id tt) j)
        by true e = ap is_some e
        by false e = ap is_some e ∙ h

    there : IsSome (get (insert jobs id tt) id)
    there = ap is_some (get-insert nat_cmp_total jobs id tt id ∙ ap (λ r. cond (is_eq r) (Some tt) (get jobs id)) (tied_itself nat_cmp_total id))

-- a run that makes no job
pub are_runs_still : (last : Last) (es : Recurring) (jobs : Map nat_cmp (Unit {0})) (task : List ℕ) (time : ℕ) → AreRuns last es jobs
    → IsDistinct (pointwise eqb) (keys_of (insert_entry (pointwise eqb) last task time)) → AreRuns (insert_entry (pointwise eqb) last task time) es jobs
are_runs_still last es jobs task time runs distinct =
    let short = longer last task time in
    record { tasks = distinct; runs = runs.runs; places = mapped (keys_of es) (λ run below. omega (arith, below, short)) runs.places; listed = runs.listed }

-- ---- a job goes

named_filter : (last : Last) (es : Recurring) (id : ℕ) → named last (filter (λ e. not (e.1 == id)) es) ≡ filter (λ e. not (e.1 == id)) (named last es)
named_filter last [] id = refl
named_filter last (e ∷ es) id = by (not (e.1 == id)) (named_filter last es id)
  where
    by : (b : Bool) → named last (filter (λ e. not (e.1 == id)) es) ≡ filter (λ e. not (e.1 == id)) (named last es)
        → named last (cond b (e ∷ filter (λ e. not (e.1 == id)) es) (filter (λ e. not (e.1 == id)) es)) ≡ cond b (((task_at last e.0.0, e.0.1), e.1) ∷ filter (λ e. not (e.1 == id)) (named last es)) (filter (λ e. not (e.1 == id)) (named last es))
    by true rest = ap (λ l. ((task_at last e.0.0, e.0.1), e.1) ∷ l) rest
    by false rest = rest

pub named_apart : (last : Last) (es : Recurring) → IsDistinct (pointwise eqb) (keys_of last) → AllByRecursion (λ run. run.0 < length last) (keys_of es) → IsDistinct same_run (keys_of es) → IsDistinct is_run (keys_of (named last es))
unfolding IsDistinct
named_apart last [] distinct places apart = tt
named_apart last (e ∷ es) distinct places apart = (others es places.1 apart.0, named_apart last es distinct places.1 apart.1)
  where
    others : (es : Recurring) → AllByRecursion (λ run. run.0 < length last) (keys_of es) → AllByRecursion (λ y. same_run e.0 y ≡ false) (keys_of es) → AllByRecursion (λ y. is_run (task_at last e.0.0, e.0.1) y ≡ false) (keys_of (named last es))
    others [] within all = tt
    others (f ∷ fs) within all = (sym (one_run last e.0 f.0 distinct places.0 within.0) ∙ all.0, others fs within.1 all.1)

-- a map without the entries of this value
without : {K : Type 0} {R : K → K → Ordering} (o : IsTotalOrder R) (exact : IsAntisymmetric R) (es : List (K × ℕ)) (id : ℕ) → IsDistinct (λ a b. is_eq (R a b)) (keys_of es)
    → from_entries {R = R} (filter (λ e. not (e.1 == id)) es) ≡ retain_keys (from_entries es) (λ k. not (is_exactly id (get (from_entries {R = R} es) k)))
without {K} {R} o exact es id apart = same_map o exact (from_entries (filter (λ e. not (e.1 == id)) es)) (retain_keys (from_entries es) passes) (λ q.
    found o eq (λ a b. refl) (filter (λ e. not (e.1 == id)) es) q ∙ lookup-filter-values (eq_by_cmp_equiv o) (λ v. not (v == id)) q es apart ∙ by (lookup (eq q) es)
    ∙ ap (λ v. cond (not (is_exactly id v)) v None) (sym (found o eq (λ a b. refl) es q)) ∙ sym (get-retain_keys (from_entries es) passes q (λ x tie. ap passes (sym (exact q x tie)))))
  where
    eq : K → K → Bool
    eq a b = is_eq (R a b)

    passes : K → Bool
    passes k = not (is_exactly id (get (from_entries {R = R} es) k))

    by : (v : Option ℕ) → option_filter (λ v. not (v == id)) v ≡ cond (not (is_exactly id v)) v None
    by None = refl
    by (Some v) = refl

pub forgotten : (last : Last) (es : Recurring) (jobs : Map nat_cmp (Unit {0})) (id : ℕ) → AreRuns last es jobs
    → from_entries {R = run_cmp} (named last (filter (λ e. not (e.1 == id)) es)) ≡ retain_keys (from_entries (named last es)) (λ run. not (is_exactly id (get (from_entries {R = run_cmp} (named last es)) run)))
forgotten last es jobs id runs = ap from_entries (named_filter last es id) ∙ without runs_total exact_runs (named last es) id (named_apart last es runs.tasks runs.places runs.runs)

-- a job that isn't listed has none
pub none_forgotten : (last : Last) (es : Recurring) (jobs : Map nat_cmp (Unit {0})) (id : ℕ) → AreRuns last es jobs → get jobs id ≡ None
    → from_entries {R = run_cmp} (named last es) ≡ retain_keys (from_entries (named last es)) (λ run. not (is_exactly id (get (from_entries {R = run_cmp} (named last es)) run)))
none_forgotten last es jobs id runs missing = ap (λ l. from_entries (named last l)) (sym (all_stay es runs.listed)) ∙ forgotten last es jobs id runs
  where
    apart : (j : ℕ) → IsSome (get jobs j) → not (j == id) ≡ true
    apart j listed = by (j == id) refl
      where
        by : (b : Bool) → (j == id) ≡ b → not b ≡ true
        by true e = absurd (true≢false (sym listed ∙ ap (λ n. is_some (get jobs n)) (eqb-true j id e) ∙ ap is_some missing))
        by false e = refl

    all_stay : (es : Recurring) → AllByRecursion (λ j. IsSome (get jobs j)) (values_of es) → filter (λ e. not (e.1 == id)) es ≡ es
    all_stay [] all = refl
    all_stay (e ∷ es) all = ap (λ b. cond b (e ∷ filter (λ e. not (e.1 == id)) es) (filter (λ e. not (e.1 == id)) es)) (apart e.1 all.0) ∙ ap (λ l. e ∷ l) (all_stay es all.1)

pub are_runs_left : (last : Last) (es : Recurring) (jobs : Map nat_cmp (Unit {0})) (id : ℕ) → AreRuns last es jobs → IsDistinct same_run (keys_of (filter (λ e. not (e.1 == id)) es))
    → AreRuns last (filter (λ e. not (e.1 == id)) es) (remove jobs id)
are_runs_left last es jobs id runs apart = record { tasks = runs.tasks; runs = apart; places = places es runs.places; listed = listed es runs.listed }
  where
    places : (es : Recurring) → AllByRecursion (λ run. run.0 < length last) (keys_of es) → AllByRecursion (λ run. run.0 < length last) (keys_of (filter (λ e. not (e.1 == id)) es))
    places [] all = tt
    places (e ∷ es) all = by (not (e.1 == id)) (places es all.1)
      where
        by : (b : Bool) → AllByRecursion (λ run. run.0 < length last) (keys_of (filter (λ e. not (e.1 == id)) es)) → AllByRecursion (λ run. run.0 < length last) (keys_of (cond b (e ∷ filter (λ e. not (e.1 == id)) es) (filter (λ e. not (e.1 == id)) es)))
        by true rest = (all.0, rest)
        by false rest = rest

    still : (j : ℕ) → (j == id) ≡ false → IsSome (get jobs j) → IsSome (get (remove jobs id) j)
    still j other h = ap is_some (get-remove nat_cmp_total jobs id j ∙ ap (λ b. cond b None (get jobs j)) (sym (number_ties j id) ∙ other)) ∙ h

    listed : (es : Recurring) → AllByRecursion (λ j. IsSome (get jobs j)) (values_of es) → AllByRecursion (λ j. IsSome (get (remove jobs id) j)) (values_of (filter (λ e. not (e.1 == id)) es))
    listed [] all = tt
    listed (e ∷ es) all = by (e.1 == id) refl (listed es all.1)
      where
        by : (b : Bool) → (e.1 == id) ≡ b → AllByRecursion (λ j. IsSome (get (remove jobs id) j)) (values_of (filter (λ e. not (e.1 == id)) es)) → AllByRecursion (λ j. IsSome (get (remove jobs id) j)) (values_of (cond (not b) (e ∷ filter (λ e. not (e.1 == id)) es) (filter (λ e. not (e.1 == id)) es)))
        by true e rest = rest
        by false other rest = (still e.1 other all.0, rest)

-- ---- rows by name

at_place : (last : Last) (place time id : ℕ) → place < length last → row_at last place time id ≡ Some ((task_at last place, time), id)
at_place [] place time id within = absurd (omega (arith, within))
at_place (e ∷ es) zero time id within = refl
at_place (e ∷ es) (suc place) time id within = at_place es place time id (omega (arith, within))

pub named_rows : (last : Last) (es : Recurring) → AllByRecursion (λ run. run.0 < length last) (keys_of es) → map (λ e. row_at last e.0.0 e.0.1 e.1) es ≡ map (λ e. by_row e.0 e.1) (named last es)
named_rows last [] places = refl
named_rows last (e ∷ es) places = λ i. at_place last e.0.0 e.0.1 e.1 places.0 i ∷ named_rows last es places.1 i
