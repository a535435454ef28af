-- A row is found among rows in order.
use Rattle.std.proofs.Common.{◌≡◌, ◌↔◌, ℕ, ◌<◌, ◌≤◌, true, false, List, length, get_or, sym, ◌∙◌, ap, subst, arith, inl, inr}
use Rattle.std.specs.Prelude.{Contains}
use Rattle.std.specs.List.Sorted.{IsPartitionedBy, IsPartitionPoint}
use Rattle.std.specs.Ordering.{nat_cmp, is_eq, is_lt}
use Rattle.std.specs.declared.cmp.Ordering.TheVariants.{Equal}
use Rattle.std.proofs.lemmas.Bool.{cases_lt, false≢true}
use Rattle.std.proofs.lemmas.Cmp.{tied_itself}
use Rattle.std.proofs.lemmas.List.{get_or_default}
use Rattle.std.proofs.lemmas.List.Sorted.{ranks_by, sorted_far}
use Rattle.job_states.specs.RowOrder.{row_cmp}
use Rattle.job_states.specs.declared.row.Row.{Row}
use Rattle.job_states.specs.declared.row.Mode.{Mode}
use Rattle.job_states.specs.declared.row.Mode.TheVariants.{Alone, Shared}
use Rattle.row_locks.specs.Footprints.{FitTogether}
use Rattle.row_locks.specs.Locks.{held_cmp, rank}
use Rattle.row_locks.specs.Seats.{IsAgainst, IsInOrder}
use Rattle.row_locks.proofs.Orders.{below_too, equal_first, equal_rows, first_not_less, held_total, neither_below, row_total}

-- no later row with its mode is below an earlier one
pub far : (rows : List (Row × Mode)) → IsInOrder rows → (i j : ℕ) (d : Row × Mode) → i ≤ j → j < length rows → is_lt (held_cmp (get_or rows j d) (get_or rows i d)) ≡ false
far rows up = sorted_far (λ a b. is_lt (held_cmp a b)) (ranks_by held_total (λ (h : Row × Mode). h)) rows up

-- the rows below another one come first
pub below_first : (rows : List (Row × Mode)) (r : Row) → IsInOrder rows → IsPartitionedBy (λ (h : Row × Mode). is_lt (row_cmp h.0 r)) rows
below_first rows r up i j d low high below =
    let a : Row × Mode = get_or rows i d in
    let b : Row × Mode = get_or rows j d in
    below_too a.0 b.0 r (first_not_less (row_cmp b.0 a.0) (nat_cmp (rank b.1) (rank a.1)) (far rows up i j d low high)) below

not_below_itself : (r : Row) → is_lt (row_cmp r r) ≡ true → ⊥
not_below_itself r e = false≢true (sym (ap is_lt (tied_itself row_total r)) ∙ e)

-- a row that is among these doesn't stand before the first that isn't below it
from_first : (rows : List (Row × Mode)) (r : Row) (held : Mode) (first : ℕ) → IsPartitionPoint (λ (h : Row × Mode). is_lt (row_cmp h.0 r) ≡ true) (λ (h : Row × Mode). is_lt (row_cmp h.0 r) ≡ false) rows first → (place : Contains rows (r, held)) → first ≤ place.0
from_first rows r held first point place =
    elim (cases_lt place.0 first) [
      | inl before ↦ absurd (not_below_itself r (subst (λ (h : Row × Mode). is_lt (row_cmp h.0 r) ≡ true) place.2 (point.0 place.0 (r, held) (omega arith) before)))
      | inr after ↦ after
    ]

-- what goes together with the mode that comes first goes together with a later one
fit_later : (first later mode : Mode) → is_lt (nat_cmp (rank later) (rank first)) ≡ false → FitTogether first mode → FitTogether later mode
fit_later Alone later mode up fit = absurd fit
fit_later Shared Shared mode up fit = fit
fit_later Shared Alone mode up fit = absurd (false≢true (sym up))

-- the first row that isn't below another one says whether that one is among these in a mode that doesn't go together
pub against_first : (rows : List (Row × Mode)) (r : Row) (mode : Mode) (first : ℕ) (x : Row × Mode) → IsInOrder rows
    → IsPartitionPoint (λ (h : Row × Mode). is_lt (row_cmp h.0 r) ≡ true) (λ (h : Row × Mode). is_lt (row_cmp h.0 r) ≡ false) rows first
    → first < length rows → x ≡ get_or rows first x → ((is_eq (row_cmp x.0 r) ≡ true) × ¬ FitTogether x.1 mode) ↔ IsAgainst rows r mode
against_first rows r mode first x up point within x_is = (
  λ unfit. (x.1, subst (λ row. Contains rows (row, x.1)) (equal_rows x.0 r unfit.0) (first, within, sym x_is), unfit.1),
  λ against.
      let place = against.1 in
      let h : Row × Mode = (r, against.0) in
      let after = from_first rows r against.0 first point place in
      let later : is_lt (held_cmp h x) ≡ false =
      subst (λ y. is_lt (held_cmp h y) ≡ false) (get_or_default rows first h x within ∙ sym x_is) (subst (λ y. is_lt (held_cmp y (get_or rows first h)) ≡ false) place.2 (far rows up first place.0 h after place.1)) in
      let not_above : is_lt (row_cmp r x.0) ≡ false = first_not_less (row_cmp r x.0) (nat_cmp (rank against.0) (rank x.1)) later in
      let not_below : is_lt (row_cmp x.0 r) ≡ false = subst (λ (y : Row × Mode). is_lt (row_cmp y.0 r) ≡ false) (sym x_is) (point.1 first x (omega arith) within) in
      let same : x.0 ≡ r = equal_rows x.0 r (neither_below x.0 r not_below not_above) in
      let tied : row_cmp r x.0 ≡ Equal = ap (row_cmp r) same ∙ tied_itself row_total r in
      (neither_below x.0 r not_below not_above, λ fit. against.2 (fit_later x.1 against.0 mode (equal_first (row_cmp r x.0) (nat_cmp (rank against.0) (rank x.1)) tied later) fit)),
)

-- where all rows are below another one, it isn't among them
pub against_none : (rows : List (Row × Mode)) (r : Row) (mode : Mode) (first : ℕ)
    → IsPartitionPoint (λ (h : Row × Mode). is_lt (row_cmp h.0 r) ≡ true) (λ (h : Row × Mode). is_lt (row_cmp h.0 r) ≡ false) rows first
    → length rows ≤ first → IsAgainst rows r mode → ⊥
against_none rows r mode first point past against =
    let place = against.1 in
    let after = from_first rows r against.0 first point place in
    omega (arith, after, past, place.1)
