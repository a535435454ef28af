-- The order of rows and of rows with modes.
use Rattle.std.proofs.Common.{◌≡◌, ℕ, true, false, List, refl, sym, ◌∙◌, ap, zero, suc}
use Rattle.std.specs.Ordering.{nat_cmp, is_eq, is_gt, is_lt, ordering_reverse, ordering_then}
use Rattle.std.specs.declared.cmp.Ordering.{Ordering}
use Rattle.std.specs.declared.cmp.Ordering.TheVariants.{Less, Equal, Greater}
use Rattle.std.specs.Cmp.{IsTotalOrder}
use Rattle.std.specs.Cmp.Lexicographic.{slice_cmp, nat_list_cmp_total}
use Rattle.std.proofs.lemmas.Bool.{false≢true, true_from_ne_false}
use Rattle.std.proofs.lemmas.Cmp.{nat_cmp_total, on_total, then_total, upto}
use Rattle.std.proofs.lemmas.Map.Lookups.{CmpEqualImpliesEq, exact_bytes, exact_pairs, exact_unsigned}
use Rattle.job_states.specs.RowOrder.{bytes, kind, number, row_cmp}
use Rattle.job_states.specs.declared.row.Row.{Row}
use Rattle.job_states.specs.declared.row.Row.TheVariants.{Job, Key, Process, Queue, Task}
use Rattle.job_states.specs.declared.row.Mode.{Mode}
use Rattle.row_locks.specs.Locks.{held_cmp, rank}

pub row_total : IsTotalOrder row_cmp
row_total = then_total (on_total kind nat_cmp_total) (then_total (on_total number nat_cmp_total) (on_total bytes nat_list_cmp_total))

pub held_total : IsTotalOrder held_cmp
held_total = then_total (on_total (λ (h : Row × Mode). h.0) row_total) (on_total (λ (h : Row × Mode). rank h.1) nat_cmp_total)

-- a row is its kind with its number or bytes
row_at : ℕ → ℕ → List ℕ → Row
row_at zero n text = Job n
row_at (suc zero) n text = Key text
row_at (suc (suc zero)) n text = Process n
row_at (suc (suc (suc zero))) n text = Queue text
row_at (suc (suc (suc (suc k)))) n text = Task text

row_at_parts : (r : Row) → row_at (kind r) (number r) (bytes r) ≡ r
unfolding row_at
row_at_parts (Job n) = refl
row_at_parts (Key text) = refl
row_at_parts (Process n) = refl
row_at_parts (Queue name) = refl
row_at_parts (Task name) = refl

-- rows that compare alike are one
pub exact_rows : CmpEqualImpliesEq row_cmp
exact_rows a b e =
    let parts = exact_pairs nat_cmp (λ (x y : ℕ × List ℕ). ordering_then (nat_cmp x.0 y.0) (slice_cmp nat_cmp x.1 y.1)) exact_unsigned (exact_pairs nat_cmp (slice_cmp nat_cmp) exact_unsigned exact_bytes) (kind a, (number a, bytes a)) (kind b, (number b, bytes b)) e in
    sym (row_at_parts a) ∙ ap (λ (p : ℕ × (ℕ × List ℕ)). row_at p.0 p.1.0 p.1.1) parts ∙ row_at_parts b

-- what isn't less by two orders in turn isn't less by the first
pub first_not_less : (o p : Ordering) → is_lt (ordering_then o p) ≡ false → is_lt o ≡ false
first_not_less Less p e = e
first_not_less Equal p e = refl
first_not_less Greater p e = refl

pub equal_first : (o p : Ordering) → o ≡ Equal → is_lt (ordering_then o p) ≡ false → is_lt p ≡ false
equal_first Less p e h = cc
equal_first Equal p e h = h
equal_first Greater p e h = cc

reversed : (o : Ordering) → is_lt (ordering_reverse o) ≡ is_gt o
reversed Less = refl
reversed Equal = refl
reversed Greater = refl

flipped : (a b : Row) → is_lt (row_cmp a b) ≡ is_gt (row_cmp b a)
flipped a b = ap is_lt (row_total.antisymm a b) ∙ reversed (row_cmp b a)

-- a row that isn't above another is below what that one is below
pub below_too : (a b r : Row) → is_lt (row_cmp b a) ≡ false → is_lt (row_cmp b r) ≡ true → is_lt (row_cmp a r) ≡ true
below_too a b r up below = true_from_ne_false (is_lt (row_cmp a r)) (λ not_below.
    false≢true (sym (flipped b r ∙ upto row_total r a b (sym (flipped a r) ∙ not_below) (sym (flipped b a) ∙ up)) ∙ below))

-- two rows of which neither is below the other compare alike
pub neither_below : (a b : Row) → is_lt (row_cmp a b) ≡ false → is_lt (row_cmp b a) ≡ false → is_eq (row_cmp a b) ≡ true
neither_below a b first second = step (row_cmp a b) first (sym (flipped b a) ∙ second)
  where
    step : (o : Ordering) → is_lt o ≡ false → is_gt o ≡ false → is_eq o ≡ true
    step Less e f = cc
    step Equal e f = refl
    step Greater e f = cc

pub equal_rows : (a b : Row) → is_eq (row_cmp a b) ≡ true → a ≡ b
equal_rows a b e = exact_rows a b (equal_from (row_cmp a b) e)
  where
    equal_from : (o : Ordering) → is_eq o ≡ true → o ≡ Equal
    equal_from Less e = cc
    equal_from Equal e = refl
    equal_from Greater e = cc
