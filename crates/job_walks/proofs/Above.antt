-- The entries of a map past a place.
use Rattle.std.proofs.Common.{◌≡◌, ◌≢◌, Bool, true, false, cond, ◌&&◌, T, List, [], ◌∷◌, Option, None, Some, IsSome, is_some, Ordering, ap, sym, ◌∙◌, refl, subst}
use Rattle.std.proofs.lemmas.Bool.{true≢false}
use Rattle.std.specs.declared.cmp.Ordering.TheVariants.{Less, Equal, Greater}
use Rattle.std.specs.Ordering.{is_eq, is_lt, eq_by_cmp, ordering_reverse}
use Rattle.std.specs.Cmp.{IsTotalOrder, tied_itself}
use Rattle.std.specs.FinMap.{IsAntisymmetric}
use Rattle.std.specs.FinMap.Entries.{find, where_key, below_all, is_sorted}
use Rattle.queue_model.specs.Map.{Map, get}
use Rattle.exec_tables.specs.Next.{is_above}

both : (a b : Bool) → T (a && b) → T a × T b
both true b p = (tt, p)
both false b p = absurd p

less : (r : Ordering) → T (is_lt r) → r ≡ Less
less Less p = refl
less Equal p = absurd p
less Greater p = absurd p

module _ {K : Type 0} {R : K → K → Ordering} (o : IsTotalOrder R) where
  -- what is above something above the place is above it too
  higher : (past : Option K) (k q : K) → is_above R past k ≡ true → R k q ≡ Less → is_above R past q ≡ true
  higher None k q a l = refl
  higher (Some p) k q a l = ap is_lt (o.trans p k q (less (R p k) (subst T (sym a) tt)) l)

module _ {K X : Type 0} {R : K → K → Ordering} (o : IsTotalOrder R) where
  -- a fact of each key
  abbrev Each : (K → Type 0) → List (K × X) → Type 0
  Each P [] = Unit {0}
  Each P (e ∷ es) = P e.0 × Each P es

  there : (q : K) (e : K × X) (es : List (K × X)) → IsSome (find R q es) → IsSome (find R q (e ∷ es))
  there q e es h = by (eq_by_cmp R q e.0)
    where
      by : (b : Bool) → IsSome (cond b (Some e.1) (find R q es))
      by true = refl
      by false = h

  each : (P : K → Type 0) (es : List (K × X)) → ((q : K) → IsSome (find R q es) → P q) → Each P es
  each P [] h = tt
  each P (e ∷ es) h = (h e.0 (ap (λ r. is_some (cond (is_eq r) (Some e.1) (find R e.0 es))) (tied_itself o e.0)), each P es (λ q s. h q (there q e es s)))

  none_kept : (p : K → Bool) (es : List (K × X)) → Each (λ q. p q ≡ false) es → where_key R p es ≡ []
  none_kept p [] h = refl
  none_kept p (e ∷ es) h = ap (λ b. cond b (e ∷ where_key R p es) (where_key R p es)) h.0 ∙ none_kept p es h.1

  same_kept : (p q : K → Bool) (es : List (K × X)) → Each (λ k. p k ≡ q k) es → where_key R p es ≡ where_key R q es
  same_kept p q [] h = refl
  same_kept p q (e ∷ es) h =
      ap (λ b. cond b (e ∷ where_key R p es) (where_key R p es)) h.0 ∙ ap (λ xs. cond (q e.0) (e ∷ xs) xs) (same_kept p q es h.1)

  pub all_kept : (es : List (K × X)) → where_key R (is_above R None) es ≡ es
  all_kept [] = refl
  all_kept (e ∷ es) = ap (λ xs. e ∷ xs) (all_kept es)

  below : (P : K → Type 0) (k : K) (es : List (K × X)) → T (below_all R k es) → ((q : K) → R k q ≡ Less → P q) → Each P es
  below P k [] h f = tt
  below P k (e ∷ es) h f = let parts = both (is_lt (R k e.0)) (below_all R k es) h in (f e.0 (less (R k e.0) parts.0), below P k es parts.1 f)

  not_found : (q : K) (es : List (K × X)) → Each (λ k. R q k ≡ Less) es → find R q es ≡ None
  not_found q [] h = refl
  not_found q (e ∷ es) h = ap (λ r. cond (is_eq r) (Some e.1) (find R q es)) h.0 ∙ not_found q es h.1

  -- the least one above the place comes first
  first_kept : IsAntisymmetric R → (past : Option K) (k : K) (v : X) (es : List (K × X)) → T (is_sorted R es) → find R k es ≡ Some v → is_above R past k ≡ true
      → Each (λ q. is_above R past q ≡ true → R q k ≢ Less) es → where_key R (is_above R past) es ≡ (k, v) ∷ where_key R (is_above R (Some k)) es
  first_kept exact past k v [] s found up least = absurd (true≢false (sym (ap is_some found)))
  first_kept exact past k v (e ∷ es) s found up least = by (R k e.0) refl (λ f. first_kept exact past k v es (both (below_all R e.0 es) (is_sorted R es) s).1 f up least.1)
    where
      parts : T (below_all R e.0 es) × T (is_sorted R es)
      parts = both (below_all R e.0 es) (is_sorted R es) s

      here : (b c : Bool) → is_above R past e.0 ≡ b → is_above R (Some k) e.0 ≡ c → (xs ys : List (K × X)) → where_key R (is_above R past) es ≡ xs → where_key R (is_above R (Some k)) es ≡ ys
          → cond b (e ∷ xs) xs ≡ (k, v) ∷ cond c (e ∷ ys) ys → where_key R (is_above R past) (e ∷ es) ≡ (k, v) ∷ where_key R (is_above R (Some k)) (e ∷ es)
      here b c p q xs ys f g h =
          ap (λ b. cond b (e ∷ where_key R (is_above R past) es) (where_key R (is_above R past) es)) p ∙ ap (λ xs. cond b (e ∷ xs) xs) f ∙ h
          ∙ ap (λ ys. (k, v) ∷ cond c (e ∷ ys) ys) (sym g) ∙ ap (λ c. (k, v) ∷ cond c (e ∷ where_key R (is_above R (Some k)) es) (where_key R (is_above R (Some k)) es)) (sym q)

      reversed : (r : Ordering) → R k e.0 ≡ r → R e.0 k ≡ ordering_reverse r
      reversed r is = o.antisymm e.0 k ∙ ap ordering_reverse is

      by : (r : Ordering) → R k e.0 ≡ r → (find R k es ≡ Some v → where_key R (is_above R past) es ≡ (k, v) ∷ where_key R (is_above R (Some k)) es) → where_key R (is_above R past) (e ∷ es) ≡ (k, v) ∷ where_key R (is_above R (Some k)) (e ∷ es)
      by Equal is later =
          let same : k ≡ e.0 = exact k e.0 is in
          let value : e.1 ≡ v = some (e.1) v (sym (ap (λ r. cond (is_eq r) (Some e.1) (find R k es)) is) ∙ found) in
          let rest : where_key R (is_above R past) es ≡ where_key R (is_above R (Some k)) es = same_kept (is_above R past) (is_above R (Some k)) es
          (below (λ q. is_above R past q ≡ is_above R (Some k) q) e.0 es parts.0 (λ q l. let m : R k q ≡ Less = ap (λ x. R x q) same ∙ l in higher o past k q up m ∙ sym (ap is_lt m))) in
          here true false (ap (is_above R past) (sym same) ∙ up) (ap is_lt is) (where_key R (is_above R (Some k)) es) (where_key R (is_above R (Some k)) es) rest refl
          (λ i. ((sym same i), value i) ∷ where_key R (is_above R (Some k)) es)
        where
          some : (x y : X) → Some x ≡ Some y → x ≡ y
          some x y e = cc
      by Less is later = absurd (true≢false (ap is_some (sym found ∙ ap (λ r. cond (is_eq r) (Some e.1) (find R k es)) is ∙ not_found k es (below (λ q. R k q ≡ Less) e.0 es parts.0 (λ q l. o.trans k e.0 q is l)))))
      by Greater is later =
          here false false (low (is_above R past e.0) refl) (ap is_lt is) ((k, v) ∷ where_key R (is_above R (Some k)) es) (where_key R (is_above R (Some k)) es)
          (later (sym (ap (λ r. cond (is_eq r) (Some e.1) (find R k es)) is) ∙ found)) refl refl
        where
          low : (b : Bool) → is_above R past e.0 ≡ b → is_above R past e.0 ≡ false
          low false h = h
          low true h = absurd (least.0 h (reversed Greater is))

  -- ---- of a map

  pub none_above : (m : Map R X) (past : Option K) → ((q : K) → IsSome (get m q) → is_above R past q ≡ false) → where_key R (is_above R past) m.entries ≡ []
  none_above m past h = none_kept (is_above R past) m.entries (each (λ q. is_above R past q ≡ false) m.entries h)

  pub first_above : IsAntisymmetric R → (m : Map R X) (past : Option K) (k : K) (v : X) → get m k ≡ Some v → is_above R past k ≡ true → ((q : K) → IsSome (get m q) → is_above R past q ≡ true → R q k ≢ Less)
      → where_key R (is_above R past) m.entries ≡ (k, v) ∷ where_key R (is_above R (Some k)) m.entries
  first_above exact m past k v found up least = first_kept exact past k v m.entries m.sorted found up (each (λ q. is_above R past q ≡ true → R q k ≢ Less) m.entries least)

  -- a place that no entry has is passed
  pub passed_above : (m : Map R X) (past : Option K) (k : K) → is_above R past k ≡ true → ((q : K) → IsSome (get m q) → is_above R past q ≡ true → R k q ≡ Less)
      → where_key R (is_above R past) m.entries ≡ where_key R (is_above R (Some k)) m.entries
  passed_above m past k up later = same_kept (is_above R past) (is_above R (Some k)) m.entries (each (λ q. is_above R past q ≡ is_above R (Some k) q) m.entries (λ q s. by (is_above R past q) (R k q) refl refl s))
    where
      by : {q : K} (b : Bool) (r : Ordering) → is_above R past q ≡ b → R k q ≡ r → IsSome (get m q) → is_above R past q ≡ is_lt r
      by {q} true r a is s = a ∙ ap is_lt (sym (later q s a) ∙ is)
      by {q} false Less a is s = absurd (true≢false (sym (higher o past k q up is) ∙ a))
      by {q} false Equal a is s = a
      by {q} false Greater a is s = a
