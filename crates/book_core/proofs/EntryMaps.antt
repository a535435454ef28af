-- The finite map that is made of entries by number, each seen through its number.
use Rattle.std.proofs.Common.{◌≡◌, ◌≢◌, ◌-◌, ◌<◌, ◌≤◌, ℕ, suc, Bool, true, false, cond, T, ◌&&◌, ◌⊎◌, List, [], ◌∷◌, map, length, Option, None, Some, ap, sym, ◌∙◌, refl, subst, arith, inl, inr}
use Rattle.std.proofs.lemmas.Bool.{cases_eq, true≢false}
use Rattle.std.proofs.lemmas.Bool.Decides.{nat_tests}
use Rattle.std.specs.Cmp.{nat_cmp_total, tied_itself}
use Rattle.std.specs.FinMap.{nat_cmp-IsAntisymmetric}
use Rattle.std.specs.FinMap.Entries.{below_all, by_order, find, is_sorted, put}
use Rattle.std.specs.List.{AllByRecursion}
use Rattle.std.specs.List.Sorted.{IsStrictlySortedBy}
use Rattle.std.specs.Map.{keys_of, lookup}
use Rattle.std.specs.BTreeMap.{is_at}
use Rattle.std.specs.Option.{option_map}
use Rattle.std.specs.Ordering.{eq_by_cmp, is_eq, is_lt, nat_cmp}
use Rattle.std.specs.Prelude.{is_some}
use Rattle.std.specs.declared.cmp.Ordering.{Ordering}
use Rattle.std.specs.declared.cmp.Ordering.TheVariants.{Less, Equal, Greater}
use Rattle.queue_model.specs.Map.{Map, from_entries, get, insert, remove}
use Rattle.queue_model.proofs.Maps.{entries-insert, get-insert, get-remove, same_map}
use Rattle.queue_model.proofs.Steps.{same_Some}
use Rattle.plan_model.proofs.MapLemmas.{both, less, none_below}

-- ---- numbers

pub apart : (a b : ℕ) → a ≢ b → is_eq (nat_cmp a b) ≡ false
apart a b differ = grind (arith, nat_tests)

pub itself : (a : ℕ) → is_eq (nat_cmp a a) ≡ true
itself a = ap is_eq (tied_itself nat_cmp_total a)

pub one_or_two : (a b : ℕ) → (a ≡ b) ⊎ (a ≢ b)
one_or_two a b = elim (cases_eq a b) [ inl same ↦ inl same | inr differ ↦ inr differ ]

-- ---- one map

module _ {V W : Type 0} (f : ℕ → V → W) where
  abbrev pub made : List (ℕ × V) → Map nat_cmp W
  made es = from_entries (map (λ e. (e.0, f e.0 e.1)) es)

  pub get-made : (es : List (ℕ × V)) (q : ℕ) → get (made es) q ≡ option_map (f q) (lookup (is_at (nat_cmp q)) es)
  get-made [] q = refl
  get-made (e ∷ es) q = get-insert nat_cmp_total (made es) e.0 (f e.0 e.1) q ∙ by (nat_cmp q e.0) refl (get-made es q)
    where
      by : (r : Ordering) → nat_cmp q e.0 ≡ r → get (made es) q ≡ option_map (f q) (lookup (is_at (nat_cmp q)) es) → cond (is_eq r) (Some (f e.0 e.1)) (get (made es) q) ≡ option_map (f q) (cond (is_eq r) (Some e.1) (lookup (is_at (nat_cmp q)) es))
      by Less is rest = rest
      by Equal is rest = ap (λ k. Some (f k e.1)) (sym (nat_cmp-IsAntisymmetric q e.0 is))
      by Greater is rest = rest

  -- entries that strictly rise stay as they are
  pub entries-made : (es : List (ℕ × V)) → IsStrictlySortedBy nat_cmp (keys_of es) → (made es).entries ≡ map (λ e. (e.0, f e.0 e.1)) es
  unfolding IsStrictlySortedBy
  entries-made [] up = refl
  entries-made (e ∷ es) up = entries-insert nat_cmp_total (made es) e.0 (f e.0 e.1) ∙ ap (put nat_cmp e.0 (f e.0 e.1)) (entries-made es up.1) ∙ first es up.0
    where
      first : (es : List (ℕ × V)) → AllByRecursion (λ k. nat_cmp e.0 k ≡ Less) (keys_of es) → put nat_cmp e.0 (f e.0 e.1) (map (λ e. (e.0, f e.0 e.1)) es) ≡ (e.0, f e.0 e.1) ∷ map (λ e. (e.0, f e.0 e.1)) es
      first [] below = refl
      first (x ∷ es) below = ap (λ r. by_order r ((e.0, f e.0 e.1) ∷ (x.0, f x.0 x.1) ∷ map (λ e. (e.0, f e.0 e.1)) es) ((x.0, f e.0 e.1) ∷ map (λ e. (e.0, f e.0 e.1)) es) ((x.0, f x.0 x.1) ∷ put nat_cmp e.0 (f e.0 e.1) (map (λ e. (e.0, f e.0 e.1)) es))) below.0

-- ---- two maps

module _ {V W : Type 0} (f g : ℕ → V → W) where
  pub same-made : (es fs : List (ℕ × V)) → ((q : ℕ) → option_map (g q) (lookup (is_at (nat_cmp q)) fs) ≡ option_map (f q) (lookup (is_at (nat_cmp q)) es)) → made g fs ≡ made f es
  same-made es fs same = same_map nat_cmp_total nat_cmp-IsAntisymmetric (made g fs) (made f es) (λ q. get-made g fs q ∙ same q ∙ sym (get-made f es q))

  module _ (k : ℕ) (others : (q : ℕ) (x : V) → k ≢ q → g q x ≡ f q x) where
    elsewhere : (q : ℕ) (o : Option V) → k ≢ q → option_map (g q) o ≡ option_map (f q) o
    elsewhere q None differ = refl
    elsewhere q (Some x) differ = ap Some (others q x differ)

    -- another value at one number
    changed : (v : Option V) (w : Option W) → option_map (g k) v ≡ w → (q : ℕ) (o : Option V) → option_map (g q) (cond (is_at (nat_cmp k) q) v o) ≡ cond (eq_by_cmp nat_cmp q k) w (option_map (f q) o)
    changed v w here q o = elim (one_or_two k q) [
      | inl same ↦ subst (λ x. option_map (g x) (cond (is_eq (nat_cmp k x)) v o) ≡ cond (is_eq (nat_cmp x k)) w (option_map (f x) o)) same
          ((λ i. option_map (g k) (cond (itself k i) v o)) ∙ here ∙ sym (λ i. cond (itself k i) w (option_map (f k) o)))
      | inr differ ↦ (λ i. option_map (g q) (cond (apart k q differ i) v o)) ∙ elsewhere q o differ ∙ sym (λ i. cond (apart q k (λ same. differ (sym same)) i) w (option_map (f q) o))
    ]

    pub insert-made : (es fs : List (ℕ × V)) (v : V) (w : W) → ((q : ℕ) → lookup (is_at (nat_cmp q)) fs ≡ cond (is_at (nat_cmp k) q) (Some v) (lookup (is_at (nat_cmp q)) es)) → g k v ≡ w → made g fs ≡ insert (made f es) k w
    insert-made es fs v w writes here = same_map nat_cmp_total nat_cmp-IsAntisymmetric (made g fs) (insert (made f es) k w) (λ q.
        get-made g fs q ∙ ap (option_map (g q)) (writes q) ∙ changed (Some v) (Some w) (ap Some here) q (lookup (is_at (nat_cmp q)) es)
        ∙ ap (cond (eq_by_cmp nat_cmp q k) (Some w)) (sym (get-made f es q)) ∙ sym (get-insert nat_cmp_total (made f es) k w q))

    pub remove-made : (es fs : List (ℕ × V)) → ((q : ℕ) → lookup (is_at (nat_cmp q)) fs ≡ cond (is_at (nat_cmp k) q) None (lookup (is_at (nat_cmp q)) es)) → made g fs ≡ remove (made f es) k
    remove-made es fs writes = same_map nat_cmp_total nat_cmp-IsAntisymmetric (made g fs) (remove (made f es) k) (λ q.
        get-made g fs q ∙ ap (option_map (g q)) (writes q) ∙ changed None None refl q (lookup (is_at (nat_cmp q)) es)
        ∙ ap (cond (eq_by_cmp nat_cmp q k) None) (sym (get-made f es q)) ∙ sym (get-remove nat_cmp_total (made f es) k q))

-- ---- what all values have

-- a number below the first one is below all
pub below_before : {X : Type 0} (k first : ℕ) (es : List (ℕ × X)) → nat_cmp k first ≡ Less → T (below_all nat_cmp first es) → T (below_all nat_cmp k es)
below_before k first [] e p = tt
below_before k first (x ∷ es) e p =
    let q = both (is_lt (nat_cmp first x.0)) (below_all nat_cmp first es) p in
    joined (is_lt (nat_cmp k x.0)) (below_all nat_cmp k es) (ap is_lt (nat_cmp_total.trans k first x.0 e (less (nat_cmp first x.0) q.0))) (below_before k first es e q.1)
  where
    joined : (a b : Bool) → a ≡ true → T b → T (a && b)
    joined true b e p = p
    joined false b e p = absurd (true≢false (sym e))

later_found : {X : Type 0} (e : ℕ × X) (es : List (ℕ × X)) (k : ℕ) (v : X) → T (below_all nat_cmp e.0 es) → find nat_cmp k es ≡ Some v → find nat_cmp k (e ∷ es) ≡ Some v
later_found {X} e es k v p found = by (nat_cmp k e.0) refl
  where
    by : (r : Ordering) → nat_cmp k e.0 ≡ r → cond (is_eq r) (Some e.1) (find nat_cmp k es) ≡ Some v
    by Less is = found
    by Greater is = found
    by Equal is = absurd (none_there (sym found ∙ ap (λ q. find nat_cmp q es) (nat_cmp-IsAntisymmetric k e.0 is) ∙ none_below nat_cmp_total e.0 es p))
      where
        none_there : Some v ≡ None → ⊥
        none_there h = true≢false (ap is_some h)

-- what is true of each value that is found is true of each entry
pub all_found : {X : Type 0} (P : ℕ → X → Type 0) (es : List (ℕ × X)) → T (is_sorted nat_cmp es) → ((k : ℕ) (v : X) → find nat_cmp k es ≡ Some v → P k v) → AllByRecursion (λ e. P e.0 e.1) es
all_found P [] s h = tt
all_found P (e ∷ es) s h = let q = both (below_all nat_cmp e.0 es) (is_sorted nat_cmp es) s in (
  h e.0 e.1 (ap (λ b. cond b (Some e.1) (find nat_cmp e.0 es)) (itself e.0)),
  all_found P es q.1 (λ k v found. h k v (later_found e es k v q.0 found)),
)

pub each_found : {X : Type 0} (P : ℕ → X → Type 0) (es : List (ℕ × X)) (k : ℕ) (v : X) → AllByRecursion (λ e. P e.0 e.1) es → find nat_cmp k es ≡ Some v → P k v
each_found P [] k v all found = absurd (true≢false (sym (ap is_some found)))
each_found {X} P (e ∷ es) k v all found = by (nat_cmp k e.0) refl found (each_found P es k v all.1)
  where
    by : (r : Ordering) → nat_cmp k e.0 ≡ r → cond (is_eq r) (Some e.1) (find nat_cmp k es) ≡ Some v → (find nat_cmp k es ≡ Some v → P k v) → P k v
    by Less is h rest = rest h
    by Greater is h rest = rest h
    by Equal is h rest = subst (λ x. P x v) (sym (nat_cmp-IsAntisymmetric k e.0 is)) (subst (λ x. P e.0 x) (same_Some e.1 v h) all.0)

-- numbers that strictly rise within a range are few
few_keys : {X : Type 0} (es : List (ℕ × X)) (low high : ℕ) → T (is_sorted nat_cmp es) → AllByRecursion (λ e. (low ≤ e.0) × (e.0 < high)) es → length es ≤ high - low
few_keys [] low high s all = omega arith
few_keys {X} (e ∷ es) low high s all =
    let q = both (below_all nat_cmp e.0 es) (is_sorted nat_cmp es) s in
    let rest = few_keys es (suc e.0) high q.1 (above es q.0 all.1) in
    omega (arith, rest, all.0.0, all.0.1)
  where
    above : (es : List (ℕ × X)) → T (below_all nat_cmp e.0 es) → AllByRecursion (λ e. (low ≤ e.0) × (e.0 < high)) es → AllByRecursion (λ x. (suc e.0 ≤ x.0) × (x.0 < high)) es
    above [] below all = tt
    above (x ∷ es) below all = let q = both (is_lt (nat_cmp e.0 x.0)) (below_all nat_cmp e.0 es) below in ((rises e.0 x.0 (less (nat_cmp e.0 x.0) q.0), all.0.1), above es q.1 all.1)
      where
        rises : (a b : ℕ) → nat_cmp a b ≡ Less → suc a ≤ b
        rises a b e = grind (arith, nat_tests)

pub few_values : {X : Type 0} (m : Map nat_cmp X) (low high : ℕ) → ((k : ℕ) (v : X) → get m k ≡ Some v → (low ≤ k) × (k < high)) → length m.entries ≤ high - low
few_values m low high within = few_keys m.entries low high m.sorted (all_found (λ k v. (low ≤ k) × (k < high)) m.entries m.sorted within)
