-- Lists whose items differ from each other.
use Rattle.std.proofs.Common.{◌≡◌, ◌≢◌, ℕ, zero, suc, Bool, true, false, cond, T, List, [], ◌∷◌, ◌++◌, take, Some, Ordering, ap, sym, ◌∙◌, subst, ⊎_elim}
use Rattle.std.proofs.lemmas.Bool.{true≢false}
use Rattle.std.proofs.lemmas.List.Elements.{Contains-append_cases}
use Rattle.std.specs.declared.cmp.Ordering.TheVariants.{Equal}
use Rattle.std.specs.Cmp.{IsTotalOrder}
use Rattle.std.specs.FinMap.Entries.{find, below_all, is_sorted, find_tied}
use Rattle.std.specs.Prelude.{map as mapped, filter, flat_map, is_some, Contains}
use Rattle.row_locks.proofs.Membership.{none, Contains-head, Contains-tail, Contains-cons_cases, Contains-from_map, Contains-from_filter}
use Rattle.plan_model.proofs.MapLemmas.{both, none_below, entry_found}

abbrev pub AreApart : {X : Type 0} → List X → Type 0
AreApart [] = Unit {0}
AreApart {X} (x ∷ xs) = ((y : X) → Contains xs y → y ≢ x) × AreApart xs

pub filter_apart : {X : Type 0} (p : X → Bool) (xs : List X) → AreApart xs → AreApart (filter p xs)
filter_apart p [] h = tt
filter_apart p (x ∷ xs) h = by (p x) (filter_apart p xs h.1)
  where
    by : (b : Bool) → AreApart (filter p xs) → AreApart (cond b (x ∷ filter p xs) (filter p xs))
    by true rest = (λ y there. h.0 y (Contains-from_filter p xs y there), rest)
    by false rest = rest

pub take_there : {X : Type 0} (n : ℕ) (xs : List X) (y : X) → Contains (take n xs) y → Contains xs y
take_there zero xs y h = absurd (none y h)
take_there (suc n) [] y h = absurd (none y h)
take_there (suc n) (x ∷ xs) y h = ⊎_elim (λ same. subst (Contains (x ∷ xs)) same (Contains-head x xs)) (λ later. Contains-tail x xs y (take_there n xs y later)) (Contains-cons_cases x (take n xs) y h)

pub take_apart : {X : Type 0} (n : ℕ) (xs : List X) → AreApart xs → AreApart (take n xs)
take_apart zero xs h = tt
take_apart (suc n) [] h = tt
take_apart (suc n) (x ∷ xs) h = (λ y there. h.0 y (take_there n xs y there), take_apart n xs h.1)

pub append_apart : {X : Type 0} (xs ys : List X) → AreApart xs → AreApart ys → ((x : X) → Contains xs x → Contains ys x → ⊥) → AreApart (xs ++ ys)
append_apart [] ys h k disjoint = k
append_apart {X} (x ∷ xs) ys h k disjoint = (
  λ y there. ⊎_elim (h.0 y) (λ later same. disjoint x (Contains-head x xs) (subst (Contains ys) same later)) (Contains-append_cases xs ys y there),
  append_apart xs ys h.1 k (λ y here there. disjoint y (Contains-tail x xs y here) there),
)

pub flat_there : {A X : Type 0} (f : A → List X) (xs : List A) (y : X) → Contains (flat_map f xs) y → (x : A) × Contains xs x × Contains (f x) y
flat_there f [] y h = absurd (none y h)
flat_there f (x ∷ xs) y h = ⊎_elim
    (λ here. (x, Contains-head x xs, here))
    (λ later. let r = flat_there f xs y later in (r.0, Contains-tail x xs r.0 r.1, r.2))
    (Contains-append_cases (f x) (flat_map f xs) y h)

pub flat_apart : {A X : Type 0} (f : A → List X) (xs : List A) → AreApart xs → ((x : A) → AreApart (f x)) → ((x z : A) (y : X) → Contains (f x) y → Contains (f z) y → z ≡ x) → AreApart (flat_map f xs)
flat_apart f [] h each one = tt
flat_apart f (x ∷ xs) h each one = append_apart (f x) (flat_map f xs) (each x) (flat_apart f xs h.1 each one)
    (λ y here there. let r = flat_there f xs y there in h.0 r.0 r.1 (one x r.0 y here r.2))

pub map_apart : {A X : Type 0} (f : A → X) (xs : List A) → AreApart xs → ((x z : A) → f z ≡ f x → z ≡ x) → AreApart (mapped f xs)
map_apart f [] h one = tt
map_apart f (x ∷ xs) h one = (
  λ y there same. let r = Contains-from_map f xs y there in h.0 r.0 r.1 (one x r.0 (r.2 ∙ same)),
  map_apart f xs h.1 one,
)

module _ {K X : Type 0} {R : K → K → Ordering} (o : IsTotalOrder R) where
  -- the keys of a map
  pub keys_apart : (es : List (K × X)) → T (is_sorted R es) → AreApart (mapped (λ e. e.0) es)
  keys_apart [] s = tt
  keys_apart (e ∷ es) s =
      let q = both (below_all R e.0 es) (is_sorted R es) s in (
        λ k there same.
            let x = Contains-from_map (λ (x : K × X). x.0) es k there in
            let found : find R e.0 es ≡ Some x.0.1 = subst (λ k. find R k es ≡ Some x.0.1) (x.2 ∙ same) (entry_found o es x.0 q.1 x.1) in
            true≢false (ap is_some (sym found ∙ none_below o e.0 es q.0)),
        keys_apart es q.1,
      )

  no_such_key : (p : K × X → Bool) (e : K × X) (es : List (K × X)) → T (below_all R e.0 es) → T (is_sorted R es) → (k : K) → Contains (mapped (λ x. x.0) (filter p es)) k → k ≢ e.0
  no_such_key p e es below sorted k there same =
      let x = Contains-from_map (λ (x : K × X). x.0) (filter p es) k there in
      let found : find R e.0 es ≡ Some x.0.1 = subst (λ k. find R k es ≡ Some x.0.1) (x.2 ∙ same) (entry_found o es x.0 sorted (Contains-from_filter p es x.0 x.1)) in
      true≢false (ap is_some (sym found ∙ none_below o e.0 es below))

  -- those of the entries that pass
  pub keys_apart_where : (p : K × X → Bool) (es : List (K × X)) → T (is_sorted R es) → AreApart (mapped (λ e. e.0) (filter p es))
  keys_apart_where p [] s = tt
  keys_apart_where p (e ∷ es) s = let q = both (below_all R e.0 es) (is_sorted R es) s in by (p e) q.0 q.1 (keys_apart_where p es q.1)
    where
      by : (b : Bool) → T (below_all R e.0 es) → T (is_sorted R es) → AreApart (mapped (λ e. e.0) (filter p es)) → AreApart (mapped (λ e. e.0) (cond b (e ∷ filter p es) (filter p es)))
      by true below sorted rest = (no_such_key p e es below sorted, rest)
      by false below sorted rest = rest

  -- its values, where each tells its key
  pub values_apart : (f : X → K) (es : List (K × X)) → T (is_sorted R es) → ((e : K × X) → Contains es e → R e.0 (f e.1) ≡ Equal) → AreApart (mapped (λ e. e.1) es)
  values_apart f [] s h = tt
  values_apart f (e ∷ es) s h =
      let q = both (below_all R e.0 es) (is_sorted R es) s in (
        λ v there same.
            let x = Contains-from_map (λ (x : K × X). x.1) es v there in
            let theirs : find R (f x.0.1) es ≡ find R x.0.0 es = find_tied R o x.0.0 (f x.0.1) (h x.0 (Contains-tail e es x.0 x.1)) es in
            let ours : find R (f e.1) es ≡ find R e.0 es = find_tied R o e.0 (f e.1) (h e (Contains-head e es)) es in
            let found : find R (f e.1) es ≡ Some x.0.1 = subst (λ y. find R (f y) es ≡ Some x.0.1) (x.2 ∙ same) (theirs ∙ entry_found o es x.0 q.1 x.1) in
            true≢false (ap is_some (sym found ∙ ours ∙ none_below o e.0 es q.0)),
        values_apart f es q.1 (λ x there. h x (Contains-tail e es x there)),
      )
