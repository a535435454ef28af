-- Sums over views, and small facts on lists.
use Rattle.std.proofs.Common.{◌≡◌, ◌≢◌, ℕ, zero, suc, ◌+◌, ◌%◌, ◌^◌, ◌<◌, ◌≤◌, List, [], ◌∷◌, ◌++◌, length, set, drop, slice_get, Some, unwrap_or, sym, refl, ap, ◌∙◌, subst, ⊎_elim, eq-eqb, ne_eqb, add-one, arith}
use mathlib.Core.Option.{some, some-injective, some-ne-none}
use lib.ListN.{get_elem?}
use Rattle.std.proofs.Math.Nat.{suc-mod}
use Rattle.std.proofs.lemmas.Option.{slice_get_within}
use Rattle.atomic_table.proofs.Lists.{at_set}
use Rattle.seat_lock.specs.declared.rows.SeatRow.{SeatRow}
use Rattle.seat_lock.specs.declared.rows.Origin.{Origin}
use Rattle.seat_lock.specs.declared.view.Share.{Share}
use Rattle.seat_lock.specs.declared.view.View.{View}
use Rattle.seat_lock.specs.Rule.{times, total}
use Rattle.seat_lock.specs.Views.{numbered}

pub same_some : {A : Type 0} (a b : A) → Some a ≡ Some b → a ≡ b
same_some a b p = ap (λ z. unwrap_or z a) p

pub total_set : (f : View → ℕ) (vs : List View) (i : ℕ) (v w : View) → get_elem? vs i ≡ some v → total f (set vs i w) + f v ≡ total f vs + f w
total_set f [] i v w e = absurd (some-ne-none v (sym e))
total_set f (x ∷ xs) zero v w e = let same : f x ≡ f v = ap f (some-injective x v e) in omega arith
total_set f (x ∷ xs) (suc i) v w e = let h = total_set f xs i v w e in omega arith

pub total_snoc : (f : View → ℕ) (vs : List View) (w : View) → total f (vs ++ w ∷ []) ≡ total f vs + f w
total_snoc f [] w = omega arith
total_snoc f (x ∷ xs) w = let h = total_snoc f xs w in omega arith

pub one_of : (f : View → ℕ) (vs : List View) (i : ℕ) (v : View) → get_elem? vs i ≡ some v → f v ≤ total f vs
one_of f [] i v e = absurd (some-ne-none v (sym e))
one_of f (x ∷ xs) zero v e = let same : f x ≡ f v = ap f (some-injective x v e) in omega arith
one_of f (x ∷ xs) (suc i) v e = let h = one_of f xs i v e in omega arith

pub two_of : (f : View → ℕ) (vs : List View) (i j : ℕ) (v w : View) → i ≢ j → get_elem? vs i ≡ some v → get_elem? vs j ≡ some w → f v + f w ≤ total f vs
two_of f [] i j v w n a b = absurd (some-ne-none v (sym a))
two_of f (x ∷ xs) zero zero v w n a b = absurd (n refl)
two_of f (x ∷ xs) zero (suc j) v w n a b = let same : f x ≡ f v = ap f (some-injective x v a) in let h = one_of f xs j w b in omega arith
two_of f (x ∷ xs) (suc i) zero v w n a b = let same : f x ≡ f w = ap f (some-injective x w b) in let h = one_of f xs i v a in omega arith
two_of f (x ∷ xs) (suc i) (suc j) v w n a b = let h = two_of f xs i j v w (λ e. n (ap suc e)) a b in omega arith

-- a fact of each view, after one view changed
pub each_set : (P : ℕ → View → Type 0) (vs : List View) (id : ℕ) (w : View) → P id w → ((j : ℕ) (v : View) → j ≢ id → get_elem? vs j ≡ some v → P j v)
    → (j : ℕ) (v : View) → get_elem? (set vs id w) j ≡ some v → P j v
each_set P vs id w mine others j v e = ⊎_elim (λ (t : (j ≡ id) × (w ≡ v)). subst (λ (x : ℕ × View). P x.0 x.1) (λ i. (sym t.0 i, t.1 i)) mine)
    (λ (t : (j ≢ id) × (get_elem? vs j ≡ some v)). others j v t.0 t.1) (at_set vs id j w v e)

pub apart : (vs : List View) (i j : ℕ) (v w : View) → get_elem? vs i ≡ some v → get_elem? vs j ≡ some w → v.stage ≢ w.stage → i ≢ j
apart vs i j v w a b n e = n (ap (λ (z : View). z.stage) (some-injective v w (sym a ∙ (ap (get_elem? vs) e ∙ b))))

module _ {A : Type 0} where
  pub inside : (l : List A) (i : ℕ) (a : A) → get_elem? l i ≡ some a → i < length l
  inside [] i a e = absurd (some-ne-none a (sym e))
  inside (x ∷ xs) zero a e = omega arith
  inside (x ∷ xs) (suc i) a e = let h = inside xs i a e in omega arith

  pub tail_of : List A → List A
  tail_of [] = []
  tail_of (x ∷ xs) = xs

  pub shorter : (l : List A) (a : A) → get_elem? l 0 ≡ some a → length l ≡ length (tail_of l) + 1
  unfolding tail_of
  shorter [] a e = absurd (some-ne-none a (sym e))
  shorter (x ∷ xs) a e = omega arith

  pub nearer : (l : List A) (i j : ℕ) → j ≡ suc i → get_elem? (tail_of l) i ≡ get_elem? l j
  unfolding tail_of
  nearer [] i j e = refl
  nearer (x ∷ xs) i j e = sym (ap (get_elem? (x ∷ xs)) e)

  pub there : (l : List A) (i : ℕ) → i < length l → (a : A) × (slice_get l i ≡ Some a)
  there [] i h = absurd (omega arith)
  there (x ∷ xs) zero h = (x, refl)
  there (x ∷ xs) (suc i) h = there xs i (omega arith)

pub times_here : (ms : List Share) (i : ℕ) (m : Share) → slice_get ms i ≡ Some m → 1 ≤ times m.number ms
times_here [] i m e = let h = slice_get_within [] i m e in absurd (omega arith)
times_here (x ∷ xs) zero m e = rw (eq-eqb x.number m.number (ap (λ (z : Share). z.number) (same_some x m e))) (omega arith)
times_here (x ∷ xs) (suc i) m e = let h = times_here xs i m e in omega arith

-- what holds of one holds of each in a list of one
pub single : (P : Share → Type 0) (a : Share) → P a → (i : ℕ) (m : Share) → slice_get (a ∷ []) i ≡ Some m → P m
single P a here zero m e = subst P (same_some a m e) here
single P a here (suc i) m e = let h = slice_get_within [] i m e in absurd (omega arith)

pub next_mod : (a b : ℕ) → b ≡ a + 1 → b % 2 ^ 64 ≡ (a % 2 ^ 64 + 1) % 2 ^ 64
next_mod a b e = ap (λ (z : ℕ). z % 2 ^ 64) (e ∙ add-one a) ∙ (suc-mod a (2 ^ 64) ∙ ap (λ (z : ℕ). z % 2 ^ 64) (sym (add-one (a % 2 ^ 64))))

pub numbered_at : (o : Origin) (k : ℕ) (rows : List SeatRow) (i : ℕ) (m : Share) → slice_get (numbered o k rows) i ≡ Some m → (m.number ≡ k + i) × (slice_get rows i ≡ Some m.row) × (o ≡ m.origin)
numbered_at o k [] i m e = let h = slice_get_within [] i m e in absurd (omega arith)
numbered_at o k (r ∷ rs) zero m e = let first : Share = record { number = k; row = r; origin = o } in let same : first ≡ m = same_some first m e in
    ((let h = ap (λ (z : Share). z.number) same in omega arith), ap (λ (z : Share). Some z.row) same, ap (λ (z : Share). z.origin) same)
numbered_at o k (r ∷ rs) (suc i) m e = let h = numbered_at o (k + 1) rs i m e in ((let a = h.0 in omega arith), h.1, h.2)

pub length_numbered : (o : Origin) (k : ℕ) (rows : List SeatRow) → length (numbered o k rows) ≡ length rows
length_numbered o k [] = refl
length_numbered o k (r ∷ rs) = ap suc (length_numbered o (k + 1) rs)

before : (o : Origin) (i k : ℕ) (rows : List SeatRow) → i < k → times i (numbered o k rows) ≡ 0
before o i k [] l = refl
before o i k (r ∷ rs) l = let h = before o i (k + 1) rs (omega arith) in rw (ne_eqb k i (λ e. omega arith)) (omega arith)

pub numbered_once : (o : Origin) (i k : ℕ) (rows : List SeatRow) → times i (numbered o k rows) ≤ 1
numbered_once o i k [] = omega arith
numbered_once o i k (r ∷ rs) = ⊎_elim (λ (e : k ≡ i). let h = before o i (k + 1) rs (omega arith) in rw (eq-eqb k i e) (omega arith))
    (λ (n : k ≢ i). let h = numbered_once o i (k + 1) rs in rw (ne_eqb k i n) (omega arith)) (Rattle.std.proofs.lemmas.Bool.cases_eq k i)

module _ {A : Type 0} where
  pub drops : (l : List A) (i : ℕ) → i < length l → (a : A) × (slice_get l i ≡ Some a) × (drop i l ≡ a ∷ drop (i + 1) l)
  drops [] i h = absurd (omega arith)
  drops (x ∷ xs) zero h = (x, refl, refl)
  drops (x ∷ xs) (suc i) h = let r = drops xs i (omega arith) in
      (r.0, r.1, r.2 ∙ ap (λ (n : ℕ). r.0 ∷ drop n (x ∷ xs)) (let e : suc (i + 1) ≡ suc i + 1 = omega arith in e))

  pub middle : (xs ys : List A) (a : A) → slice_get (xs ++ a ∷ ys) (length xs) ≡ Some a
  middle [] ys a = refl
  middle (x ∷ xs) ys a = middle xs ys a

  -- a fact of each item, after one more
  pub each_more : (P : ℕ → A → Type 0) (l : List A) (a : A) → ((i : ℕ) (x : A) → slice_get l i ≡ Some x → P i x) → P (length l) a → (i : ℕ) (x : A) → slice_get (l ++ a ∷ []) i ≡ Some x → P i x
  each_more P [] a old new zero x e = subst (P 0) (same_some a x e) new
  each_more P [] a old new (suc i) x e = let h = slice_get_within [] i x e in absurd (omega arith)
  each_more P (y ∷ ys) a old new zero x e = old 0 x e
  each_more P (y ∷ ys) a old new (suc i) x e = each_more (λ j. P (suc j)) ys a (λ j. old (suc j)) new i x e
