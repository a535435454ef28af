-- Sums over rows, and what threads leave of them.
use Rattle.std.proofs.Common.{◌≡◌, ◌≢◌, ℕ, zero, suc, ◌+◌, ◌*◌, ◌%◌, ◌<◌, ◌≤◌, ◌^◌, List, [], ◌∷◌, length, get_or, set, take, drop, ◌++◌, drop_of_length-le, append-nil, take_all, suc-mul, add-one, slice_get, Some, unwrap_or, sum_by, sym, refl, ap, length-set, length-append, ◌∙◌, arith}
use Rattle.std.proofs.Math.Nat.{mod-eq_of_lt, mul-le-mul_right, suc-mod}
use Rattle.std.proofs.lemmas.List.Sums.{sum_by-set, sum_by-cons}
use Rattle.std.proofs.lemmas.Option.{slice_get_within, get_or_from_slice_get}
use Rattle.seat_lock.specs.declared.rows.Origin.{Origin}
use Rattle.seat_lock.specs.declared.rows.SeatRow.{SeatRow}
use Rattle.seat_lock.specs.Known.{IsGiveable, IsKnown}
use Rattle.seat_lock.specs.Passes.{IsIdle, IsMade}
use Rattle.seat_lock.specs.Shown.{TableId, PassView}
use Rattle.lock_tests.specs.Counts.{added, entries, IsReady, IsAdded, AreFresh}

pub same_some : {A : Type 0} (a b : A) → Some a ≡ Some b → a ≡ b
same_some a b p = ap (λ z. unwrap_or z a) p

pub same_row : (rows : List SeatRow) (i : ℕ) (r x : SeatRow) → r ≡ get_or rows i r → slice_get rows i ≡ Some x → r ≡ x
same_row rows i r x is e = is ∙ get_or_from_slice_get rows i x r e

-- the total after one more
pub sum_set : (rows : List SeatRow) (i : ℕ) (r : SeatRow) (total : ℕ) → i < length rows → r ≡ get_or rows i r → total ≡ sum_by entries rows % 2 ^ 64
    → (total + 1) % 2 ^ 64 ≡ sum_by entries (set rows i (added r)) % 2 ^ 64
sum_set rows i r total l is kept =
    let h = sum_by-set entries rows i (added r) r l in
    let a : entries (get_or rows i r) ≡ entries r = ap entries (sym is) in
    let more : sum_by entries (set rows i (added r)) ≡ sum_by entries rows + 1 = omega arith in
    ap (λ (n : ℕ). (n + 1) % 2 ^ 64) kept
    ∙ (ap (λ (n : ℕ). n % 2 ^ 64) (add-one (sum_by entries rows % 2 ^ 64)) ∙ (sym (suc-mod (sum_by entries rows) (2 ^ 64)) ∙ ap (λ (n : ℕ). n % 2 ^ 64) (sym (more ∙ add-one (sum_by entries rows)))))

pub set_get : {A : Type 0} (l : List A) (i : ℕ) (a x : A) → slice_get l i ≡ Some x → slice_get (set l i a) i ≡ Some a
set_get [] i a x e = let h = slice_get_within [] i x e in absurd (omega arith)
set_get (y ∷ ys) zero a x e = refl
set_get (y ∷ ys) (suc i) a x e = set_get ys i a x e

set_else : {A : Type 0} (l : List A) (i j : ℕ) (a : A) → j ≢ i → slice_get (set l i a) j ≡ slice_get l j
set_else [] i j a n = refl
set_else (y ∷ ys) zero zero a n = absurd (n refl)
set_else (y ∷ ys) zero (suc j) a n = refl
set_else (y ∷ ys) (suc i) zero a n = refl
set_else (y ∷ ys) (suc i) (suc j) a n = set_else ys i j a (λ e. n (ap suc e))

pub giveable : (rows new : List SeatRow) (o : Origin) (p : PassView) → new ≡ set rows p.share.number (added p.share.row) → p.known ≡ rows → o ≡ p.share.origin → IsGiveable new o p.known p.share
giveable rows new o p e known origin = record {
  others = λ j n. ap (λ l. slice_get l j) e ∙ (set_else rows p.share.number j (added p.share.row) n ∙ sym (ap (λ l. slice_get l j) known));
  as_many = ap length e ∙ (length-set rows p.share.number (added p.share.row) ∙ sym (ap length known));
  origin = origin;
}

-- what a slice of a whole list leaves in it
pub whole : {A : Type 0} (xs ys : List A) (n : ℕ) → length xs ≡ n → length ys ≡ n → take n (xs ++ drop (length xs) ys) ≡ xs
whole xs ys n e f = ap (λ l. take n (xs ++ l)) (drop_of_length-le ys (let le : length ys ≤ length xs = omega arith in le)) ∙ (ap (take n) (append-nil xs) ∙ take_all n xs (omega arith))

-- a list of two, taken from its end
pub pair : {A : Type 0} (all left rest : List A) (a b : A) → all ≡ left ++ b ∷ [] → left ≡ rest ++ a ∷ [] → length all ≡ 2 → (slice_get all 0 ≡ Some a) × (slice_get all 1 ≡ Some b)
pair all left [] a b e f n = let same = e ∙ ap (λ l. l ++ b ∷ []) f in (ap (λ l. slice_get l 0) same, ap (λ l. slice_get l 1) same)
pair all left (x ∷ xs) a b e f n =
    let long = ap length (e ∙ ap (λ l. l ++ b ∷ []) f) in
    let most = length-append ((x ∷ xs) ++ a ∷ []) (b ∷ []) in
    let more = length-append (x ∷ xs) (a ∷ []) in
    absurd (omega arith)

got : {A : Type 0} (l : List A) (i : ℕ) → i < length l → (a : A) × (slice_get l i ≡ Some a)
got [] i h = absurd (omega arith)
got (x ∷ xs) zero h = (x, refl)
got (x ∷ xs) (suc i) h = got xs i (omega arith)

-- equal terms
sum_same : (rows : List SeatRow) (n : ℕ) → ((i : ℕ) (r : SeatRow) → slice_get rows i ≡ Some r → entries r ≡ n) → sum_by entries rows ≡ length rows * n
sum_same [] n each = omega arith
sum_same (r ∷ rs) n each = let h = sum_same rs n (λ i x e. each (suc i) x e) in let a = each 0 r refl in let s = sum_by-cons entries r rs in let m = suc-mul (length rs) n in omega arith

pub total_is : (rows : List SeatRow) (total seats times : ℕ) → total ≡ sum_by entries rows % 2 ^ 64 → sum_by entries rows ≡ seats * times → seats ≤ 64 → times < 2 ^ 32 → total ≡ seats * times
total_is rows total seats times kept sum few small =
    let most : seats * times ≤ 64 * times = mul-le-mul_right times few in
    kept ∙ (ap (λ (n : ℕ). n % 2 ^ 64) sum ∙ mod-eq_of_lt (omega arith))

-- the threads' passes, and the rows that they made
module _ (first : List SeatRow) (o : Origin) (lock : TableId) (times : ℕ) (before after : List PassView)
    (fresh : AreFresh first) (made : (i : ℕ) (p : PassView) → slice_get before i ≡ Some p → IsMade lock first o i p) where
  pub ready : (i : ℕ) (p : PassView) → slice_get before i ≡ Some p → IsReady lock i p
  ready i p e = let m = made i p e in record { idle = m.idle; number = m.number; none = fresh p.share.number p.share.row m.known.row }

  module _ (len : length after ≡ length before) (add : (i : ℕ) (p q : PassView) → slice_get before i ≡ Some p → slice_get after i ≡ Some q → IsAdded times p q) where
    was : (i : ℕ) (q : PassView) → slice_get after i ≡ Some q → (p : PassView) × (slice_get before i ≡ Some p) × IsAdded times p q
    was i q e = let g = got before i (let h = slice_get_within after i q e in omega arith) in (g.0, g.1, add i g.0 q g.1 e)

    pub idle_after : (i : ℕ) (q : PassView) → slice_get after i ≡ Some q → IsIdle lock q
    idle_after i q e = let w = was i q e in record { of_it = w.2.idle.of_it ∙ (made i w.0 w.1).idle.of_it; no_turn = w.2.idle.no_turn }

    counts_after : (i : ℕ) (q : PassView) → slice_get after i ≡ Some q → (q.share.number ≡ i) × (entries q.share.row ≡ times)
    counts_after i q e = let w = was i q e in let r = ready i w.0 w.1 in (w.2.number ∙ r.number, (let a = w.2.more in let b = r.none in omega arith))

    pub sum_after : (rows : List SeatRow) (o' : Origin) → length rows ≡ length before → ((i : ℕ) (p : PassView) → slice_get after i ≡ Some p → IsKnown rows o' p.share) → sum_by entries rows ≡ length before * times
    sum_after rows o' long known = sum_same rows times (λ i r e.
        let g = got after i (let h = slice_get_within rows i r e in omega arith) in
        let at = counts_after i g.0 g.1 in
        let same = same_some r g.0.share.row (sym e ∙ (ap (slice_get rows) (sym at.0) ∙ (known i g.0 g.1).row)) in
        ap entries same ∙ at.1) ∙ ap (λ (n : ℕ). n * times) long
