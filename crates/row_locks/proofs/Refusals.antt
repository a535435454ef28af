-- The first of the rows in order that another seat holds is the first refusal.
use Rattle.std.proofs.Common.{◌≡◌, ℕ, false, List, get_or, sym, ◌∙◌, subst, arith, inl, inr, Some}
use Rattle.std.specs.Prelude.{All, Contains, IsPermutation}
use Rattle.std.specs.Ordering.{nat_cmp, is_lt}
use Rattle.std.specs.declared.cmp.Ordering.{Ordering}
use Rattle.std.specs.declared.cmp.Ordering.TheVariants.{Less, Equal, Greater}
use Rattle.std.proofs.lemmas.Bool.{cases_lt, false≢true}
use Rattle.std.proofs.lemmas.Cmp.{tied_itself}
use Rattle.std.proofs.lemmas.List.{get_or_default}
use Rattle.std.proofs.lemmas.List.Elements.{All-contains}
use Rattle.std.proofs.lemmas.List.Sorted.{Contains-permutation, IsPermutation-sym, ranks_by, sorted_far}
use Rattle.job_states.specs.RowOrder.{row_cmp}
use Rattle.job_states.specs.declared.row.Row.{Row}
use Rattle.job_states.specs.declared.row.Mode.{Mode}
use Rattle.job_states.specs.declared.row.Mode.TheVariants.{Alone, Shared}
use Rattle.row_locks.specs.Footprints.{FitTogether}
use Rattle.row_locks.specs.Locks.{AreFree, IsFirstRefusal, IsFree, IsHeldAgainst, Lock, held_cmp, rank}
use Rattle.row_locks.specs.Seats.{IsFirstHeld, IsInOrder, IsLeastHolder}
use Rattle.row_locks.proofs.Orders.{equal_first, first_not_less, held_total, row_total}

-- a mode that comes first fits with no more
FitTogether-later : (held first later : Mode) → is_lt (nat_cmp (rank later) (rank first)) ≡ false → FitTogether held first → FitTogether held later
FitTogether-later held Alone later behind fits = absurd (never held fits)
  where
    never : (held : Mode) → FitTogether held Alone → ⊥
    never Shared fits = fits
    never Alone fits = fits
FitTogether-later held Shared Shared behind fits = fits
FitTogether-later held Shared Alone behind fits = absurd (false≢true (sym behind))

-- one of the rows that is held against the seat doesn't stand before the first that the search found
not_before : (locks : List Lock) (seat : ℕ) (rows : List (Row × Mode)) (index by : ℕ) (asked : Row × Mode) → IsInOrder rows → IsFirstHeld locks seat rows index by → asked ≡ get_or rows index asked → (row : Row) (mode : Mode) (holder : ℕ) → Contains rows (row, mode) → IsHeldAgainst locks seat row mode holder → is_lt (held_cmp (row, mode) asked) ≡ false
not_before locks seat rows index by asked up first asked_is row mode holder place held =
    elim (cases_lt place.0 index) [
      | inl before ↦ absurd (subst (λ (other : Row × Mode). IsFree locks seat other.0 other.1) place.2 (first.before place.0 (row, mode) (omega arith) before) holder held)
      | inr after ↦
          let far = sorted_far (λ a b. is_lt (held_cmp a b)) (ranks_by held_total (λ (h : Row × Mode). h)) rows up index place.0 (row, mode) after place.1 in
          subst (λ first. is_lt (held_cmp (row, mode) first) ≡ false) (get_or_default rows index (row, mode) asked first.within ∙ sym asked_is)
          (subst (λ other. is_lt (held_cmp other (get_or rows index (row, mode))) ≡ false) place.2 far)
    ]

less_is : (o : Ordering) → is_lt o ≡ false → o ≡ Less → ⊥
less_is Less e f = false≢true (sym e)
less_is Equal e f = cc
less_is Greater e f = cc

pub first_refusal : (locks : List Lock) (seat : ℕ) (rows sorted : List (Row × Mode)) (index by : ℕ) (asked : Row × Mode) → IsPermutation rows sorted → IsInOrder sorted → IsFirstHeld locks seat sorted index by → asked ≡ get_or sorted index asked → IsFirstRefusal locks seat rows asked.0 by
first_refusal locks seat rows sorted index by asked moved up first asked_is =
    let least : IsLeastHolder locks seat asked.0 asked.1 (Some by) = subst (λ (a : Row × Mode). IsLeastHolder locks seat a.0 a.1 (Some by)) (sym asked_is) (first.held asked) in
    record {
      refused = (asked.1, Contains-permutation sorted rows asked (IsPermutation-sym rows sorted moved) (index, first.within, sym asked_is), least.0);
      first_row = λ other holder refused. less_is (row_cmp other asked.0)
          (first_not_less (row_cmp other asked.0) (nat_cmp (rank refused.0) (rank asked.1))
          (not_before locks seat sorted index by asked up first asked_is other refused.0 holder (Contains-permutation rows sorted (other, refused.0) moved refused.1) refused.2));
      least_seat = λ holder refused.
          let behind : is_lt (nat_cmp (rank refused.0) (rank asked.1)) ≡ false = equal_first (row_cmp asked.0 asked.0) (nat_cmp (rank refused.0) (rank asked.1)) (tied_itself row_total asked.0)
          (not_before locks seat sorted index by asked up first asked_is asked.0 refused.0 holder (Contains-permutation rows sorted (asked.0, refused.0) moved refused.1) refused.2) in
          least.1 holder (held_first asked.0 refused.0 asked.1 holder behind refused.2);
    }
  where
    held_first : (row : Row) (later first : Mode) (holder : ℕ) → is_lt (nat_cmp (rank later) (rank first)) ≡ false → IsHeldAgainst locks seat row later holder → IsHeldAgainst locks seat row first holder
    held_first row later first holder behind held = (held.0, held.1, held.2, λ fits. held.3 (FitTogether-later held.0 first later behind fits))

-- where the search of the rows, in order, found none
pub all_free : (locks now : List Lock) (seat : ℕ) (rows sorted searched : List (Row × Mode)) → locks ≡ now → searched ≡ sorted → IsPermutation rows sorted → All (λ asked. IsFree locks seat asked.0 asked.1) searched → AreFree now seat rows
all_free locks now seat rows sorted searched same whole moved free row mode asked =
    subst (λ (held : List Lock). IsFree held seat row mode) same
    (All-contains (λ asked. IsFree locks seat asked.0 asked.1) searched (row, mode) free (subst (λ (those : List (Row × Mode)). Contains those (row, mode)) (sym whole) (Contains-permutation rows sorted (row, mode) moved asked)))
