-- What the values of a finite map are.
use Rattle.std.proofs.Common.{◌≡◌, ◌+◌, Bool, true, false, cond, T, List, [], ◌∷◌, None, Some, Ordering, ap, sym, ◌∙◌, refl, arith, subst, inl, inr}
use Rattle.std.proofs.lemmas.Bool.{true≢false}
use Rattle.std.specs.declared.cmp.Ordering.TheVariants.{Less, Equal, Greater}
use Rattle.std.specs.List.{count_by}
use Rattle.std.specs.Ordering.{is_eq, is_lt, eq_by_cmp}
use Rattle.std.specs.Prelude.{◌&&◌, map as mapped, filter, is_some, Contains}
use Rattle.std.specs.Cmp.{IsTotalOrder, tied_itself}
use Rattle.std.specs.FinMap.Entries.{find, below_all, is_sorted, find_tied}
use Rattle.std.proofs.lemmas.List.Sums.{sum_by-cons}
use Rattle.queue_model.specs.Map.{Map, get, values, from_entries}
use Rattle.queue_model.proofs.Maps.{get-insert}
use Rattle.queue_model.proofs.Steps.{same_Some}
use Rattle.row_locks.proofs.Membership.{none, Contains-head, Contains-tail, Contains-cons_cases, Contains-from_map}

pub both : (a b : Bool) → T (a && b) → T a × T b
both true b p = (tt, p)
both false b p = absurd p

pub less : (r : Ordering) → T (is_lt r) → r ≡ Less
less Less p = refl
less Equal p = absurd p
less Greater p = absurd p

module _ {K X : Type 0} {R : K → K → Ordering} (o : IsTotalOrder R) where
  -- below all keys, no key is found
  pub none_below : (k : K) (es : List (K × X)) → T (below_all R k es) → find R k es ≡ None
  none_below k [] p = refl
  none_below k (e ∷ es) p = let q = both (is_lt (R k e.0)) (below_all R k es) p in
      ap (λ r. cond (is_eq r) (Some e.1) (find R k es)) (less (R k e.0) q.0) ∙ none_below k es q.1

  first_found : (e : K × X) (es : List (K × X)) → find R e.0 (e ∷ es) ≡ Some e.1
  first_found e es = ap (λ r. cond (is_eq r) (Some e.1) (find R e.0 es)) (tied_itself o e.0)

  later_found : (e : K × X) (es : List (K × X)) (k : K) (v : X) → T (below_all R e.0 es) → find R k es ≡ Some v → find R k (e ∷ es) ≡ Some v
  later_found e es k v p found = by (R k e.0) refl
    where
      by : (r : Ordering) → R k e.0 ≡ r → cond (is_eq r) (Some e.1) (find R k es) ≡ Some v
      by Less is = found
      by Greater is = found
      by Equal is = absurd (true≢false (ap is_some (sym found ∙ sym (find_tied R o k e.0 is es) ∙ none_below e.0 es p)))

  -- where no value that is found passes, none passes
  none_pass : (p : X → Bool) (es : List (K × X)) → T (is_sorted R es) → ((k : K) (v : X) → find R k es ≡ Some v → p v ≡ false) → count_by p (mapped (λ e. e.1) es) ≡ 0
  none_pass p [] s h = refl
  none_pass p (e ∷ es) s h = let q = both (below_all R e.0 es) (is_sorted R es) s in
      let first : p e.1 ≡ false = h e.0 e.1 (first_found e es) in
      let rest : count_by p (mapped (λ e. e.1) es) ≡ 0 = none_pass p es q.1 (λ k v found. h k v (later_found e es k v q.0 found)) in
      let more : count_by p (mapped (λ e. e.1) (e ∷ es)) ≡ 0 + count_by p (mapped (λ e. e.1) es) = sum_by-cons (λ x. cond (p x) 1 0) e.1 (mapped (λ e. e.1) es) ∙ ap (λ b. cond b 1 0 + count_by p (mapped (λ e. e.1) es)) first in
      omega (arith, more, rest)

  pub count_none : (p : X → Bool) (m : Map R X) → ((k : K) (v : X) → get m k ≡ Some v → p v ≡ false) → count_by p (values m) ≡ 0
  count_none p m h = none_pass p m.entries m.sorted h

  -- an entry that is there is found
  pub entry_found : (es : List (K × X)) (e : K × X) → T (is_sorted R es) → Contains es e → find R e.0 es ≡ Some e.1
  entry_found [] e s h = absurd (none e h)
  entry_found (x ∷ es) e s h =
      let q = both (below_all R x.0 es) (is_sorted R es) s in
      elim (Contains-cons_cases x es e h) [
        | inl is ↦ subst (λ y. find R y.0 (x ∷ es) ≡ Some y.1) is (first_found x es)
        | inr later ↦ later_found x es e.0 e.1 q.0 (entry_found es e q.1 later)
      ]

  -- a value stands at some key
  pub value_found : (m : Map R X) (v : X) → Contains (values m) v → (k : K) × (get m k ≡ Some v)
  value_found m v h = let e = Contains-from_map (λ e. e.1) m.entries v h in (e.0.0, entry_found m.entries e.0 m.sorted e.1 ∙ ap Some e.2)

  -- what is made of entries has no other values
  made_of : (es : List (K × X)) (k : K) (v : X) → get (from_entries {R = R} es) k ≡ Some v → Contains (mapped (λ e. e.1) es) v
  made_of [] k v h = absurd (true≢false (sym (ap is_some h)))
  made_of (e ∷ es) k v h = by (eq_by_cmp R k e.0) (sym (get-insert o (from_entries es) e.0 e.1 k) ∙ h) (made_of es k v)
    where
      by : (b : Bool) → cond b (Some e.1) (get (from_entries {R = R} es) k) ≡ Some v → (get (from_entries {R = R} es) k ≡ Some v → Contains (mapped (λ e. e.1) es) v) → Contains (e.1 ∷ mapped (λ e. e.1) es) v
      by true f rest = subst (λ x. Contains (e.1 ∷ mapped (λ e. e.1) es) x) (same_Some e.1 v f) (Contains-head e.1 (mapped (λ e. e.1) es))
      by false f rest = Contains-tail e.1 (mapped (λ e. e.1) es) v (rest f)

  -- each of its entries is one of theirs, at a key that is tied to its own
  pub made_at : (es : List (K × X)) (k : K) (v : X) → get (from_entries {R = R} es) k ≡ Some v → (e : K × X) × Contains es e × (e.1 ≡ v) × (R k e.0 ≡ Equal)
  made_at [] k v h = absurd (true≢false (sym (ap is_some h)))
  made_at (e ∷ es) k v h = by (R k e.0) refl (sym (get-insert o (from_entries es) e.0 e.1 k) ∙ h) (made_at es k v)
    where
      later : ((x : K × X) × Contains es x × (x.1 ≡ v) × (R k x.0 ≡ Equal)) → (x : K × X) × Contains (e ∷ es) x × (x.1 ≡ v) × (R k x.0 ≡ Equal)
      later f = (f.0, Contains-tail e es f.0 f.1, f.2, f.3)

      by : (r : Ordering) → R k e.0 ≡ r → cond (is_eq r) (Some e.1) (get (from_entries {R = R} es) k) ≡ Some v → (get (from_entries {R = R} es) k ≡ Some v → (x : K × X) × Contains es x × (x.1 ≡ v) × (R k x.0 ≡ Equal)) → (x : K × X) × Contains (e ∷ es) x × (x.1 ≡ v) × (R k x.0 ≡ Equal)
      by Equal is f rest = (e, Contains-head e es, same_Some e.1 v f, is)
      by Less is f rest = later (rest f)
      by Greater is f rest = later (rest f)

  pub entry_made : (es : List (K × X)) (x : K × X) → Contains (from_entries {R = R} es).entries x → (e : K × X) × Contains es e × (e.1 ≡ x.1) × (R x.0 e.0 ≡ Equal)
  entry_made es x h = made_at es x.0 x.1 (entry_found (from_entries {R = R} es).entries x (from_entries {R = R} es).sorted h)

  pub values_of_entries : (es : List (K × X)) (v : X) → Contains (values (from_entries {R = R} es)) v → Contains (mapped (λ e. e.1) es) v
  values_of_entries es v h = let f = value_found (from_entries es) v h in made_of es f.0 v f.1

-- what a filter keeps passes
pub filter_passes : {X : Type 0} (p : X → Bool) (xs : List X) (x : X) → Contains (filter p xs) x → p x ≡ true
filter_passes p [] x h = absurd (none x h)
filter_passes p (y ∷ ys) x h = by (p y) refl h (filter_passes p ys x)
  where
    by : (b : Bool) → p y ≡ b → Contains (cond b (y ∷ filter p ys) (filter p ys)) x → (Contains (filter p ys) x → p x ≡ true) → p x ≡ true
    by false is h rest = rest h
    by true is h rest = elim (Contains-cons_cases y (filter p ys) x h) [
      | inl same ↦ ap p (sym same) ∙ is
      | inr later ↦ rest later
    ]
