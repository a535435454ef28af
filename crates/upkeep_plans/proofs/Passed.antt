-- The entries of a map that pass and are past a key, from each to the next.
use Rattle.std.proofs.Common.{◌≡◌, ◌≢◌, ◌⊎◌, Bool, true, false, cond, ◌&&◌, T, List, [], ◌∷◌, ◌<◌, length, filter, Option, None, Some, Ordering, ap, sym, ◌∙◌, refl, subst, inl, inr, arith}
use Rattle.std.proofs.lemmas.Bool.{true≢false, and_parts, and_from}
use Rattle.std.specs.Prelude.{Contains}
use Rattle.std.specs.declared.cmp.Ordering.TheVariants.{Less, Equal, Greater}
use Rattle.std.specs.Ordering.{is_eq, is_lt, ordering_reverse}
use Rattle.std.specs.Cmp.{IsTotalOrder, tied_itself}
use Rattle.std.specs.FinMap.{IsAntisymmetric}
use Rattle.std.specs.FinMap.Entries.{where_key, below_all, is_sorted}
use Rattle.queue_model.specs.Map.{Map, get}
use Rattle.row_locks.proofs.Membership.{none, Contains-head, Contains-tail, Contains-cons_cases}
use Rattle.plan_model.proofs.MapLemmas.{entry_found}
use Rattle.plan_model.proofs.RowLemmas.{found_there}
use Rattle.exec_tables.specs.Next.{IsNext, Listed, by_key, is_above}

both : (a b : Bool) → T (a && b) → T a × T b
both true b p = (tt, p)
both false b p = absurd p

less : (r : Ordering) → T (is_lt r) → r ≡ Less
less Less p = refl
less Equal p = absurd p
less Greater p = absurd p

no_less : Less ≢ Greater
no_less e = true≢false (ap is_lt e)

no_tie : Equal ≢ Greater
no_tie e = true≢false (ap is_eq e)

not_lower : Less ≢ Equal
not_lower e = true≢false (ap is_lt e)

module _ {K X : Type 0} {R : K → K → Ordering} (o : IsTotalOrder R) (exact : IsAntisymmetric R) (p : K × X → Bool) where
  -- what is above something above the place is above it too
  pub higher : (past : Option K) (k q : K) → is_above R past k ≡ true → R k q ≡ Less → is_above R past q ≡ true
  higher None k q a l = refl
  higher (Some x) k q a l = ap is_lt (o.trans x k q (less (R x k) (subst T (sym a) tt)) l)

  below_each : (k : K) (es : List (K × X)) → T (below_all R k es) → (e : K × X) → Contains es e → R k e.0 ≡ Less
  below_each k [] h e c = absurd (none e c)
  below_each k (x ∷ es) h e c = let q = both (is_lt (R k x.0)) (below_all R k es) h in
      elim (Contains-cons_cases x es e c) [
        | inl is ↦ subst (λ (y : K × X). R k y.0 ≡ Less) is (less (R k x.0) q.0)
        | inr later ↦ below_each k es q.1 e later
      ]

  -- those that pass and are past the key
  abbrev pub kept : Option K → List (K × X) → List (K × X)
  kept past es = filter p (where_key R (is_above R past) es)

  abbrev counts : Option K → K × X → Bool
  counts past e = is_above R past e.0 && p e

  kept_cons : (past : Option K) (e : K × X) (es : List (K × X)) → kept past (e ∷ es) ≡ cond (counts past e) (e ∷ kept past es) (kept past es)
  kept_cons past e es = by (is_above R past e.0)
    where
      by : (b : Bool) → filter p (cond b (e ∷ where_key R (is_above R past) es) (where_key R (is_above R past) es)) ≡ cond (b && p e) (e ∷ kept past es) (kept past es)
      by true = refl
      by false = refl

  kept_out : (past : Option K) (e : K × X) (es : List (K × X)) → counts past e ≡ false → kept past (e ∷ es) ≡ kept past es
  kept_out past e es h = kept_cons past e es ∙ ap (λ b. cond b (e ∷ kept past es) (kept past es)) h

  kept_in : (past : Option K) (e : K × X) (es : List (K × X)) → counts past e ≡ true → kept past (e ∷ es) ≡ e ∷ kept past es
  kept_in past e es h = kept_cons past e es ∙ ap (λ b. cond b (e ∷ kept past es) (kept past es)) h

  none_kept : (past : Option K) (es : List (K × X)) → ((e : K × X) → Contains es e → counts past e ≡ false) → kept past es ≡ []
  none_kept past [] h = refl
  none_kept past (e ∷ es) h = kept_out past e es (h e (Contains-head e es)) ∙ none_kept past es (λ x c. h x (Contains-tail e es x c))

  same_kept : (past other : Option K) (es : List (K × X)) → ((e : K × X) → Contains es e → counts past e ≡ counts other e) → kept past es ≡ kept other es
  same_kept past other [] h = refl
  same_kept past other (e ∷ es) h =
      kept_cons past e es ∙ ap (λ b. cond b (e ∷ kept past es) (kept past es)) (h e (Contains-head e es))
      ∙ ap (λ xs. cond (counts other e) (e ∷ xs) xs) (same_kept past other es (λ x c. h x (Contains-tail e es x c)))
      ∙ sym (kept_cons other e es)

  reversed : (a b : K) (r : Ordering) → R a b ≡ r → R b a ≡ ordering_reverse r
  reversed a b r is = o.antisymm b a ∙ ap ordering_reverse is

  -- the first one that counts comes first
  first_kept : (past : Option K) (k : K) (v : X) (es : List (K × X)) → T (is_sorted R es) → Contains es (k, v) → counts past (k, v) ≡ true
      → ((e : K × X) → Contains es e → counts past e ≡ true → R e.0 k ≢ Less) → kept past es ≡ (k, v) ∷ kept (Some k) es
  first_kept past k v [] s c here least = absurd (none (k, v) c)
  first_kept past k v (e ∷ es) s c here least = by (R k e.0) refl (Contains-cons_cases e es (k, v) c)
      (λ later. first_kept past k v es (both (below_all R e.0 es) (is_sorted R es) s).1 later here (λ x d. least x (Contains-tail e es x d)))
    where
      parts : T (below_all R e.0 es) × T (is_sorted R es)
      parts = both (below_all R e.0 es) (is_sorted R es) s

      above : is_above R past k ≡ true
      above = (and_parts (is_above R past k) (p (k, v)) here).0

      out : (b : Bool) → counts past e ≡ b → R e.0 k ≡ Less → b ≡ false
      out false h l = refl
      out true h l = absurd (least e (Contains-head e es) h l)

      by : (r : Ordering) → R k e.0 ≡ r → (e ≡ (k, v)) ⊎ Contains es (k, v) → (Contains es (k, v) → kept past es ≡ (k, v) ∷ kept (Some k) es) → kept past (e ∷ es) ≡ (k, v) ∷ kept (Some k) (e ∷ es)
      by Less is (inl same) rest_is = absurd (not_lower (sym is ∙ subst (λ (x : K × X). R k x.0 ≡ Equal) (sym same) (tied_itself o k)))
      by Less is (inr later) rest_is = absurd (no_less (sym (below_each e.0 es parts.0 (k, v) later) ∙ reversed k e.0 Less is))
      by Equal is (inl same) rest_is =
          let rest : kept past es ≡ kept (Some k) es = same_kept past (Some k) es (λ x c.
          let l : R k x.0 ≡ Less = subst (λ (y : K × X). R y.0 x.0 ≡ Less) same (below_each e.0 es parts.0 x c) in
          ap (λ b. b && p x) (higher past k x.0 above l ∙ sym (ap is_lt l))) in
          kept_in past e es (subst (λ (x : K × X). counts past x ≡ true) (sym same) here)
          ∙ ap (λ xs. e ∷ xs) rest ∙ ap (λ (x : K × X). x ∷ kept (Some k) es) same
          ∙ ap (λ xs. (k, v) ∷ xs) (sym (kept_out (Some k) e es (ap (λ r. is_lt r && p e) is)))
      by Equal is (inr later) rest_is = absurd (not_lower (sym (below_each e.0 es parts.0 (k, v) later) ∙ reversed k e.0 Equal is))
      by Greater is (inl same) rest_is = absurd (no_tie (sym (subst (λ (x : K × X). R k x.0 ≡ Equal) (sym same) (tied_itself o k)) ∙ is))
      by Greater is (inr later) rest_is =
          kept_out past e es (out (counts past e) refl (reversed k e.0 Greater is))
          ∙ rest_is later
          ∙ ap (λ xs. (k, v) ∷ xs) (sym (kept_out (Some k) e es (ap (λ r. is_lt r && p e) is)))

  -- ---- of a map

  -- none is left where none counts
  pub none_left : (m : Map R X) (past : Option K) → ((k : K) (v : X) → get m k ≡ Some v → p (k, v) ≡ true → is_above R past k ≡ false) → kept past m.entries ≡ []
  none_left m past h = none_kept past m.entries (λ e c. by e (entry_found o m.entries e m.sorted c) (is_above R past e.0) (p e) refl refl)
    where
      by : (e : K × X) → get m e.0 ≡ Some e.1 → (a b : Bool) → is_above R past e.0 ≡ a → p e ≡ b → (is_above R past e.0 && p e) ≡ false
      by e found true true up passes = absurd (true≢false (sym up ∙ h e.0 e.1 found passes))
      by e found true false up passes = ap (λ a. a && p e) up ∙ passes
      by e found false b up passes = ap (λ a. a && p e) up

  -- the least one that counts is the first, and then the rest is left
  pub first_left : (m : Map R X) (past : Option K) (k : K) (v : X) → get m k ≡ Some v → is_above R past k ≡ true → p (k, v) ≡ true
      → ((q : K) (x : X) → get m q ≡ Some x → p (q, x) ≡ true → is_above R past q ≡ true → R q k ≢ Less) → kept past m.entries ≡ (k, v) ∷ kept (Some k) m.entries
  first_left m past k v found up passes least = first_kept past k v m.entries m.sorted (found_there exact k v m.entries found) (and_from (is_above R past k) (p (k, v)) up passes)
      (λ e c counted. let parts = and_parts (is_above R past e.0) (p e) counted in least e.0 e.1 (entry_found o m.entries e m.sorted c) parts.1 parts.0)

  -- where all that count come after the key, they are left past it
  pub passed_left : (m : Map R X) (past : Option K) (k : K) → is_above R past k ≡ true → ((q : K) (x : X) → get m q ≡ Some x → p (q, x) ≡ true → is_above R past q ≡ true → R k q ≡ Less)
      → kept past m.entries ≡ kept (Some k) m.entries
  passed_left m past k up later = same_kept past (Some k) m.entries (λ e c. by e (entry_found o m.entries e m.sorted c) (is_above R past e.0) (p e) refl refl)
    where
      at : (e : K × X) (r : Ordering) → is_above R past e.0 ≡ false → R k e.0 ≡ r → is_lt r ≡ false
      at e Less low is = absurd (true≢false (sym (higher past k e.0 up is) ∙ low))
      at e Equal low is = refl
      at e Greater low is = refl

      by : (e : K × X) → get m e.0 ≡ Some e.1 → (a b : Bool) → is_above R past e.0 ≡ a → p e ≡ b → (is_above R past e.0 && p e) ≡ (is_lt (R k e.0) && p e)
      by e found true true above passes = ap (λ a. a && p e) (above ∙ sym (ap is_lt (later e.0 e.1 found passes above)))
      by e found true false above passes = ap (λ b. is_above R past e.0 && b) passes ∙ no_more (is_above R past e.0) ∙ sym (no_more (is_lt (R k e.0))) ∙ ap (λ b. is_lt (R k e.0) && b) (sym passes)
        where
          no_more : (a : Bool) → (a && false) ≡ false
          no_more true = refl
          no_more false = refl
      by e found false b above passes = ap (λ a. a && p e) (above ∙ sym (at e (R k e.0) above refl))

-- ---- a walk from key to key that passes over those that don't pass

module _ {K X : Type 0} {R : K → K → Ordering} (o : IsTotalOrder R) (exact : IsAntisymmetric R) (p : K × X → Bool) (m : Map R X) (past found : Option K) (next : IsNext R (Listed by_key m) past found) where
  listed : (q : K) (x : X) → get m q ≡ Some x → Listed by_key m q
  listed q x at = (q, x, at, refl)

  pub walk_ends : found ≡ None → kept o exact p past m.entries ≡ []
  walk_ends e = none_left o exact p m past (λ q x at passes. next.none e q (listed q x at))

  module _ (k : K) (v : X) (is : found ≡ Some k) (at : get m k ≡ Some v) where
    pub walk_takes : p (k, v) ≡ true → kept o exact p past m.entries ≡ (k, v) ∷ kept o exact p (Some k) m.entries
    walk_takes passes = first_left o exact p m past k v at (next.above k is) passes (λ q x there counts up. next.least k q is (listed q x there) up)

    pub walk_skips : p (k, v) ≡ false → kept o exact p past m.entries ≡ kept o exact p (Some k) m.entries
    walk_skips fails = passed_left o exact p m past k (next.above k is) (λ q x there counts up. by q x there counts (next.least k q is (listed q x there) up) (R k q) refl)
      where
        by : (q : K) (x : X) → get m q ≡ Some x → p (q, x) ≡ true → R q k ≢ Less → (r : Ordering) → R k q ≡ r → r ≡ Less
        by q x there counts least Less e = refl
        by q x there counts least Greater e = absurd (least (o.antisymm q k ∙ ap ordering_reverse e))
        by q x there counts least Equal e =
            let same : k ≡ q = exact k q e in
            let value : v ≡ x = some v x (sym at ∙ ap (get m) same ∙ there) in
            absurd (true≢false (sym counts ∙ sym (ap p (λ i. (same i, value i))) ∙ fails))
          where
            some : (a b : X) → Some a ≡ Some b → a ≡ b
            some a b e = cc

-- a step of such a walk leaves fewer keys
module _ {K X : Type 0} {R : K → K → Ordering} (o : IsTotalOrder R) (exact : IsAntisymmetric R) (m : Map R X) (past found : Option K) (next : IsNext R (Listed by_key m) past found) where
  abbrev pub any : K × X → Bool
  any e = true

  pub walk_falls : (k : K) (v : X) → found ≡ Some k → get m k ≡ Some v → length (kept o exact any (Some k) m.entries) < length (kept o exact any past m.entries)
  walk_falls k v is at = let took = ap length (walk_takes o exact any m past found next k v is at refl) in omega (arith, took)
