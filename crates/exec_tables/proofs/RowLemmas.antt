-- A hash table's entries, in whatever order, as a finite map.
use Rattle.std.proofs.Common.{◌≡◌, ℕ, arith, eqb, length, IsSome, is_some, sum_by, Bool, true, false, cond, List, [], ◌∷◌, Option, None, Some, ap, sym, ◌∙◌, refl, subst}
use Rattle.std.specs.Ordering.{is_eq, eq_by_cmp, nat_cmp}
use Rattle.std.specs.Cmp.{IsTotalOrder, eq_by_cmp_equiv, nat_cmp_total, tied_itself}
use Rattle.std.specs.declared.cmp.Ordering.{Ordering}
use Rattle.std.specs.declared.cmp.Ordering.TheVariants.{Less, Equal, Greater}
use Rattle.std.specs.FinMap.{IsAntisymmetric, nat_cmp-IsAntisymmetric}
use Rattle.std.proofs.lemmas.Bool.{eqb-true, eqb-false, true≢false}
use Rattle.std.specs.FinMap.Entries.{find}
use Rattle.std.specs.List.{IsDistinct, AllByRecursion}
use Rattle.std.specs.Map.{lookup, keys_of, values_of}
use Rattle.std.specs.Option.{option_map}
use Rattle.std.proofs.lemmas.List.Sums.{sum_by-cons}
use Rattle.std.proofs.lemmas.Map.{lookup-none, NonePasses}
use Rattle.std.proofs.lemmas.Map.Keys.{IsDistinct-head, IsDistinct-tail}
use Rattle.queue_model.specs.Map.{get, insert, remove, values, from_entries}
use Rattle.queue_model.proofs.Counts.{weight, sum_by-set}
use Rattle.queue_model.proofs.Maps.{get-insert, get-remove, same_map}

pub same_Some : {A : Type 0} (x y : A) → Some x ≡ Some y → x ≡ y
same_Some x y e = cc

pub subst2 : {A B : Type 0} {a b : A} {x y : B} (P : A → B → Type 0) → a ≡ b → x ≡ y → P a x → P b y
subst2 {A} {B} {a} {b} {x} {y} P e f p = subst (λ t. P b t) f (subst (λ t. P t x) e p)

pub turned : {K : Type 0} {R : K → K → Ordering} (o : IsTotalOrder R) (eq : K → K → Bool) → ((a b : K) → eq a b ≡ is_eq (R a b)) → (k q : K) → eq k q ≡ eq_by_cmp R q k
turned o eq ties k q = ties k q ∙ (eq_by_cmp_equiv o).symm k q

module _ {K : Type 0} {R : K → K → Ordering} (o : IsTotalOrder R) (eq : K → K → Bool) (ties : (a b : K) → eq a b ≡ is_eq (R a b)) (exact : IsAntisymmetric R) where
  pub same : (a b : K) → eq a b ≡ true → a ≡ b
  same a b e = by (R a b) refl (sym (ties a b) ∙ e)
    where
      by : (r : Ordering) → R a b ≡ r → is_eq r ≡ true → a ≡ b
      by Less h e = absurd (true≢false (sym e))
      by Equal h e = exact a b h
      by Greater h e = absurd (true≢false (sym e))

  pub itself : (a : K) → eq a a ≡ true
  itself a = ties a a ∙ ap is_eq (tied_itself o a)

module _ {K X : Type 0} {R : K → K → Ordering} (o : IsTotalOrder R) where
  pub get-from_entries : (es : List (K × X)) (q : K) → get (from_entries {R = R} es) q ≡ find R q es
  get-from_entries [] q = refl
  get-from_entries (e ∷ es) q = get-insert o (from_entries es) e.0 e.1 q ∙ ap (cond (eq_by_cmp R q e.0) (Some e.1)) (get-from_entries es q)

  -- `==` on keys and their order tell the same apart
  module _ (eq : K → K → Bool) (ties : (a b : K) → eq a b ≡ is_eq (R a b)) where
    find_by : (es : List (K × X)) (q : K) → find R q es ≡ lookup (eq q) es
    find_by [] q = refl
    find_by (e ∷ es) q = ap (λ b. cond b (Some e.1) (find R q es)) (sym (ties q e.0)) ∙ ap (cond (eq q e.0) (Some e.1)) (find_by es q)

    -- what the table finds is what the map has
    pub found : (es : List (K × X)) (q : K) → get (from_entries {R = R} es) q ≡ lookup (eq q) es
    found es q = get-from_entries es q ∙ find_by es q

    module _ (exact : IsAntisymmetric R) where
      -- where the table has a new value at one key, the map has it
      pub put_in : (es fs : List (K × X)) (k : K) (v : X) → ((q : K) → lookup (eq q) fs ≡ cond (eq k q) (Some v) (lookup (eq q) es)) → from_entries {R = R} fs ≡ insert (from_entries es) k v
      put_in es fs k v h = same_map o exact (from_entries fs) (insert (from_entries es) k v) (λ q.
          found fs q ∙ h q ∙ ap (λ b. cond b (Some v) (lookup (eq q) es)) (turned o eq ties k q) ∙ ap (cond (eq_by_cmp R q k) (Some v)) (sym (found es q))
          ∙ sym (get-insert o (from_entries es) k v q))

      -- and where it has lost one key, so has the map
      pub taken_out : (es fs : List (K × X)) (k : K) → ((q : K) → lookup (eq q) fs ≡ cond (eq k q) None (lookup (eq q) es)) → from_entries {R = R} fs ≡ remove (from_entries es) k
      taken_out es fs k h = same_map o exact (from_entries fs) (remove (from_entries es) k) (λ q.
          found fs q ∙ h q ∙ ap (λ b. cond b None (lookup (eq q) es)) (turned o eq ties k q) ∙ ap (cond (eq_by_cmp R q k) None) (sym (found es q))
          ∙ sym (get-remove o (from_entries es) k q))

      -- a row that is there has a new value
      pub changed : (es fs : List (K × X)) (k : K) (now x : X) (change : X → X) → Some now ≡ lookup (eq k) es → (IsSome (lookup (eq k) es) → ((q : K) → lookup (eq q) fs ≡ cond (eq k q) (Some (change now)) (lookup (eq q) es))) → get (from_entries {R = R} es) k ≡ Some x → from_entries {R = R} fs ≡ insert (from_entries es) k (change x)
      changed es fs k now x change there writes seen =
          let same : now ≡ x = same_Some now x (there ∙ sym (found es k) ∙ seen) in
          put_in es fs k (change now) (writes (ap is_some (sym there))) ∙ ap (λ y. insert (from_entries {R = R} es) k (change y)) same

  -- ---- sums

  -- a sum over the map is one over the table
  pub sum_entries : (exact : IsAntisymmetric R) (eq : K → K → Bool) (ties : (a b : K) → eq a b ≡ is_eq (R a b)) (f : X → ℕ) (es : List (K × X)) → IsDistinct eq (keys_of es) → sum_by f (values (from_entries {R = R} es)) ≡ sum_by f (values_of es)
  sum_entries exact eq ties f [] d = refl
  sum_entries exact eq ties f (e ∷ es) d =
      let first : lookup (eq e.0) es ≡ None = lookup-none (eq e.0) es (none_passes e.0 es (IsDistinct-head eq e.0 (keys_of es) d)) in
      let new = sum_by-set o f exact (from_entries {R = R} es) e.0 (Some e.1) in
      let none = ap (λ (w : Option X). weight f w) (found eq ties es e.0 ∙ first) in
      let rest = sum_entries exact eq ties f es (IsDistinct-tail eq e.0 (keys_of es) d) in
      let cons = sum_by-cons f e.1 (values_of es) in
      omega (arith, new, none, rest, cons)
    where
      none_passes : (k : K) (es : List (K × X)) → AllByRecursion (λ y. eq k y ≡ false) (keys_of es) → NonePasses (eq k) es
      none_passes k [] a = tt
      none_passes k (e ∷ es) a = (a.0, none_passes k es a.1)

  -- the map has as many values as the table has rows
  pub length_entries : IsAntisymmetric R → (eq : K → K → Bool) → ((a b : K) → eq a b ≡ is_eq (R a b)) → (es : List (K × X)) → IsDistinct eq (keys_of es) → length (values (from_entries {R = R} es)) ≡ length es
  length_entries exact eq ties es d = sym (ones (values (from_entries {R = R} es))) ∙ sum_entries exact eq ties (λ _. 1) es d ∙ ones (values_of es) ∙ length_values es
    where
      ones : {A : Type 0} (xs : List A) → sum_by (λ _. 1) xs ≡ length xs
      ones [] = refl
      ones (x ∷ xs) = let cons = sum_by-cons (λ _. 1) x xs in let rest = ones xs in omega (arith, cons, rest)

      length_values : {A B : Type 0} (es : List (B × A)) → length (values_of es) ≡ length es
      length_values [] = refl
      length_values (e ∷ es) = let rest = length_values es in omega (arith, rest)

-- ---- rows by number

pub number_ties : (a b : ℕ) → eqb a b ≡ is_eq (nat_cmp a b)
number_ties a b = by (eqb a b) refl
  where
    by : (t : Bool) → eqb a b ≡ t → t ≡ is_eq (nat_cmp a b)
    by true e = sym (ap (λ n. is_eq (nat_cmp a n)) (sym (eqb-true a b e)) ∙ ap is_eq (tied_itself nat_cmp_total a))
    by false e = apart (nat_cmp a b) refl
      where
        apart : (r : Ordering) → nat_cmp a b ≡ r → false ≡ is_eq r
        apart Less h = refl
        apart Equal h = absurd (eqb-false a b e (nat_cmp-IsAntisymmetric a b h))
        apart Greater h = refl

pub number_found : {X : Type 0} (es : List (ℕ × X)) (q : ℕ) → get (from_entries {R = nat_cmp} es) q ≡ lookup (eqb q) es
number_found = found nat_cmp_total eqb number_ties

pub number_changed : {X : Type 0} (es fs : List (ℕ × X)) (k : ℕ) (now x : X) (change : X → X) → Some now ≡ lookup (eqb k) es → (IsSome (lookup (eqb k) es) → ((q : ℕ) → lookup (eqb q) fs ≡ cond (eqb k q) (Some (change now)) (lookup (eqb q) es))) → get (from_entries {R = nat_cmp} es) k ≡ Some x → from_entries {R = nat_cmp} fs ≡ insert (from_entries es) k (change x)
number_changed = changed nat_cmp_total eqb number_ties nat_cmp-IsAntisymmetric

pub number_missing : {X : Type 0} (es : List (ℕ × X)) (k : ℕ) (x : X) → None ≡ lookup (eqb k) es → get (from_entries {R = nat_cmp} es) k ≡ Some x → ⊥
number_missing es k x gone seen = true≢false (ap is_some (sym seen ∙ number_found es k ∙ sym gone))

pub number_there : {X : Type 0} (es : List (ℕ × X)) (k : ℕ) (x : X) → Some x ≡ lookup (eqb k) es → get (from_entries {R = nat_cmp} es) k ≡ None → ⊥
number_there es k x there gone = true≢false (ap is_some (there ∙ sym (number_found es k) ∙ gone))

pub number_sum : {X : Type 0} (f : X → ℕ) (es : List (ℕ × X)) → IsDistinct eqb (keys_of es) → sum_by f (values (from_entries {R = nat_cmp} es)) ≡ sum_by f (values_of es)
number_sum = sum_entries nat_cmp_total nat_cmp-IsAntisymmetric eqb number_ties

pub number_length : {X : Type 0} (es : List (ℕ × X)) → IsDistinct eqb (keys_of es) → length (values (from_entries {R = nat_cmp} es)) ≡ length es
number_length = length_entries nat_cmp_total nat_cmp-IsAntisymmetric eqb number_ties

pub mapped_none : {A B : Type 0} (f : A → B) (o : Option A) → is_some o ≡ false → option_map f o ≡ None
mapped_none f None e = refl
mapped_none f (Some x) e = absurd (true≢false e)
