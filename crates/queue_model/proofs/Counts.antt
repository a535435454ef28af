-- Sums over the values of a finite map, through its changes.
use Rattle.std.proofs.Common.{◌≡◌, ◌+◌, ℕ, Bool, true, false, cond, List, [], ◌∷◌, Option, None, Some, Ordering, ap, sym, ◌∙◌, refl, T, sum_by, ◌&&◌, arith}
use Rattle.std.specs.declared.cmp.Ordering.TheVariants.{Less, Equal, Greater}
use Rattle.std.specs.Ordering.{is_lt, is_eq, eq_by_cmp, match_ordering}
use Rattle.std.specs.Option.{option_map, unwrap_or}
use Rattle.std.specs.List.{AllByRecursion}
use Rattle.std.specs.List.Sorted.{IsStrictlySortedBy}
use Rattle.std.specs.Map.{keys_of, values_of, lookup}
use Rattle.std.specs.BTreeMap.{insert_entry, is_at}
use Rattle.std.specs.Cmp.{IsTotalOrder}
use Rattle.std.specs.FinMap.{IsAntisymmetric}
use Rattle.queue_model.specs.Map.{Map, get, insert, remove, values}
use Rattle.queue_model.specs.Sights.{set}
use Rattle.queue_model.proofs.Maps.{entries-insert, get-insert, get-remove, get-set_same, same_map}
use Rattle.std.specs.FinMap.Entries.{put, find, is_sorted, below_all, by_order, find_tied}
use Rattle.std.proofs.lemmas.Map.Entries.{sum_by-insert_entry}

both_true : (a b : Bool) → T (a && b) → T a × T b
both_true true b p = (tt, p)
both_true false b p = absurd p

less_is : (r : Ordering) → T (is_lt r) → r ≡ Less
less_is Less p = refl
less_is Equal p = absurd p
less_is Greater p = absurd p

module _ {K X : Type 0} (R : K → K → Ordering) where
  put_is : (k : K) (v : X) (es : List (K × X)) → put R k v es ≡ insert_entry R es k v
  put_is k v [] = refl
  put_is k v (e ∷ es) = step (R k e.0) (put_is k v es)
    where
      step : (r : Ordering) → put R k v es ≡ insert_entry R es k v → by_order r ((k, v) ∷ e ∷ es) ((e.0, v) ∷ es) (e ∷ put R k v es) ≡ match_ordering r ((k, v) ∷ e ∷ es) ((e.0, v) ∷ es) (e ∷ insert_entry R es k v)
      step Less rest = refl
      step Equal rest = refl
      step Greater rest = ap (λ l. e ∷ l) rest

  find_is : (q : K) (es : List (K × X)) → find R q es ≡ lookup (is_at (R q)) es
  find_is q [] = refl
  find_is q (e ∷ es) = ap (cond (is_eq (R q e.0)) (Some e.1)) (find_is q es)

  below_is : (x : K) (es : List (K × X)) → T (below_all R x es) → AllByRecursion (λ y. R x y ≡ Less) (keys_of es)
  below_is x [] p = tt
  below_is x (e ∷ es) p = let q = both_true (is_lt (R x e.0)) (below_all R x es) p in (less_is (R x e.0) q.0, below_is x es q.1)

  sorted_is : (es : List (K × X)) → T (is_sorted R es) → IsStrictlySortedBy R (keys_of es)
  unfolding IsStrictlySortedBy
  sorted_is [] p = tt
  sorted_is (e ∷ es) p = let q = both_true (below_all R e.0 es) (is_sorted R es) p in (below_is e.0 es q.0, sorted_is es q.1)

-- what an option weighs
abbrev pub weight : {X : Type 0} → (X → ℕ) → Option X → ℕ
weight f None = 0
weight f (Some x) = f x

module _ {K X : Type 0} {R : K → K → Ordering} (o : IsTotalOrder R) (f : X → ℕ) where
  weight_is : (x : Option X) → unwrap_or (option_map f x) 0 ≡ weight f x
  weight_is None = refl
  weight_is (Some x) = refl

  -- the weight of the new value comes in the place of the old one's
  sum_by-insert : (m : Map R X) (k : K) (v : X) → sum_by f (values (insert m k v)) + weight f (get m k) ≡ sum_by f (values m) + f v
  sum_by-insert m k v =
      ap (λ (es : List (K × X)). sum_by f (values_of es) + weight f (get m k)) (entries-insert o m k v ∙ put_is R k v m.entries)
      ∙ ap (λ n. sum_by f (values_of (insert_entry R m.entries k v)) + n) (sym (weight_is (get m k)) ∙ ap (λ (x : Option X). unwrap_or (option_map f x) 0) (find_is R k m.entries))
      ∙ sum_by-insert_entry f o m.entries k v (sorted_is R m.entries m.sorted)

  module _ (exact : IsAntisymmetric R) where
    put_back : (m : Map R X) (k : K) (v : X) → get m k ≡ Some v → insert (remove m k) k v ≡ m
    put_back m k v found = same_map o exact (insert (remove m k) k v) m (λ q. get-insert o (remove m k) k v q ∙ ap (cond (eq_by_cmp R q k) (Some v)) (get-remove o m k q) ∙ step q (R q k) refl)
      where
        step : (q : K) (r : Ordering) → R q k ≡ r → cond (is_eq r) (Some v) (cond (is_eq r) None (get m q)) ≡ get m q
        step q Less is = refl
        step q Equal is = sym found ∙ find_tied R o q k is m.entries
        step q Greater is = refl

    none_goes : (m : Map R X) (k : K) → get m k ≡ None → remove m k ≡ m
    none_goes m k missing = same_map o exact (remove m k) m (λ q. get-remove o m k q ∙ step q (R q k) refl)
      where
        step : (q : K) (r : Ordering) → R q k ≡ r → cond (is_eq r) None (get m q) ≡ get m q
        step q Less is = refl
        step q Equal is = sym missing ∙ find_tied R o q k is m.entries
        step q Greater is = refl

    sum_by-remove : (m : Map R X) (k : K) (x : Option X) → get m k ≡ x → sum_by f (values (remove m k)) + weight f x ≡ sum_by f (values m)
    sum_by-remove m k None e =
        let same : sum_by f (values (remove m k)) ≡ sum_by f (values m) = ap (λ (n : Map R X). sum_by f (values n)) (none_goes m k e) in
        omega (arith, same)
    sum_by-remove m k (Some v) e =
        let put = sum_by-insert (remove m k) k v in
        let none : weight f (get (remove m k) k) ≡ 0 = ap (weight f) (get-set_same o m k None) in
        let back : sum_by f (values (insert (remove m k) k v)) ≡ sum_by f (values m) = ap (λ (n : Map R X). sum_by f (values n)) (put_back m k v e) in
        omega (arith, put, none, back)

    -- the weight of what now stands at a key comes in the place of what stood there
    pub sum_by-set : (m : Map R X) (k : K) (x : Option X) → sum_by f (values (set m (Some k) x)) + weight f (get m k) ≡ sum_by f (values m) + weight f x
    sum_by-set m k None = let gone = sum_by-remove m k (get m k) refl in omega (arith, gone)
    sum_by-set m k (Some v) = sum_by-insert m k v
