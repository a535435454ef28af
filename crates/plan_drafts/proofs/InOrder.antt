-- Rows of which the first one of each row is left, once they are sorted, are in order.
use Rattle.std.proofs.Common.{◌≡◌, ◌≤◌, ◌<◌, ℕ, suc, Bool, true, false, cond, ◌&&◌, T, List, [], ◌∷◌, length, get_or, Option, None, Some, ap, sym, ◌∙◌, refl, subst, arith, inl, inr}
use Rattle.std.proofs.lemmas.Bool.{false≢true, true_from_ne_false}
use Rattle.std.proofs.lemmas.Cmp.{tied_itself}
use Rattle.std.proofs.lemmas.List.Sorted.{Contains-permutation, IsPermutation-sym}
use Rattle.std.specs.FinMap.Entries.{below_all, is_sorted, same_entries}
use Rattle.std.specs.List.{dedup, dedup_from}
use Rattle.std.specs.Ordering.{is_eq, is_lt, eq_by_cmp, nat_cmp}
use Rattle.std.specs.Prelude.{Contains, IsPermutation}
use Rattle.job_states.specs.RowOrder.{row_cmp}
use Rattle.job_states.specs.declared.row.Mode.{Mode}
use Rattle.job_states.specs.declared.row.Mode.TheVariants.{Shared, Alone}
use Rattle.job_states.specs.declared.row.Row.{Row}
use Rattle.queue_model.specs.Map.{Map, get}
use Rattle.queue_model.proofs.Maps.{get-insert, same_entries_map, same_map}
use Rattle.queue_model.proofs.Steps.{same_Some}
use Rattle.row_locks.specs.Locks.{held_cmp, rank}
use Rattle.row_locks.specs.Seats.{IsInOrder}
use Rattle.row_locks.proofs.Against.{far}
use Rattle.row_locks.proofs.Membership.{Contains-head, Contains-tail, Contains-cons_cases}
use Rattle.row_locks.proofs.Orders.{below_too, equal_first, equal_rows, exact_rows, first_not_less, held_total, neither_below, row_total}
use Rattle.plan_model.specs.Rows.{stronger, hold, footprint, in_order}
use Rattle.plan_model.proofs.MapLemmas.{entry_found}
use Rattle.plan_model.proofs.RowLemmas.{found_there, from_in_order, held_in_order, in_order_again, in_order_is, rows_rise}

-- ---- rows with the same members

-- what one list says of a row, the other one says too
there_too : (xs ys : List (Row × Mode)) → ((x : Row × Mode) → Contains xs x → Contains ys x) → ((x : Row × Mode) → Contains ys x → Contains xs x) → (r : Row) (mode : Mode) → get (footprint xs) r ≡ Some mode → get (footprint ys) r ≡ Some mode
there_too xs ys into from r mode h =
    elim (held_in_order ys r mode (inl (into (r, mode) (from_in_order xs r mode (found_there exact_rows r mode (in_order xs) h))))) [
      | inl here ↦ found ys mode here
      | inr alone ↦ let is = same_Some Alone mode (sym (found xs Alone (alone_in (from (r, Alone) (from_in_order ys r Alone alone)))) ∙ h) in found ys Alone alone ∙ ap Some is
    ]
  where
    found : (zs : List (Row × Mode)) (m : Mode) → Contains (in_order zs) (r, m) → get (footprint zs) r ≡ Some m
    found zs m c = entry_found row_total (in_order zs) (r, m) (rows_rise zs) c

    alone_in : Contains xs (r, Alone) → Contains (in_order xs) (r, Alone)
    alone_in c = elim (held_in_order xs r Alone (inl c)) [ inl here ↦ here | inr here ↦ here ]

both_ways : {X : Type 0} (a b : Option X) → ((x : X) → a ≡ Some x → b ≡ Some x) → ((x : X) → b ≡ Some x → a ≡ Some x) → a ≡ b
both_ways (Some x) b f g = sym (f x refl)
both_ways None (Some x) f g = g x refl
both_ways None None f g = refl

pub same_rows : (xs ys : List (Row × Mode)) → IsPermutation xs ys → in_order xs ≡ in_order ys
same_rows xs ys p =
    let into = λ (x : Row × Mode). Contains-permutation xs ys x p in
    let from = λ (x : Row × Mode). Contains-permutation ys xs x (IsPermutation-sym xs ys p) in
    same_entries row_cmp row_total exact_rows (in_order xs) (in_order ys) (rows_rise xs) (rows_rise ys)
    (λ r. both_ways (get (footprint xs) r) (get (footprint ys) r) (there_too xs ys into from r) (there_too ys xs from into r))

-- ---- a row that comes twice

-- the mode that comes first is the stronger one
stronger_again : (old : Option Mode) (later first : Mode) → is_lt (nat_cmp (rank later) (rank first)) ≡ false → stronger (Some (stronger old later)) first ≡ stronger old first
stronger_again None Alone Alone up = refl
stronger_again None Alone Shared up = absurd (false≢true (sym up))
stronger_again None Shared first up = refl
stronger_again (Some Alone) later first up = refl
stronger_again (Some Shared) Alone Alone up = refl
stronger_again (Some Shared) Alone Shared up = absurd (false≢true (sym up))
stronger_again (Some Shared) Shared first up = refl

covered : {X : Type 0} (b : Bool) (x y z : X) (old : X) → x ≡ z → cond b x (cond b y old) ≡ cond b z old
covered true x y z old e = e
covered false x y z old e = refl

held_again : (held : Map row_cmp Mode) (r : Row) (later first : Mode) → is_lt (nat_cmp (rank later) (rank first)) ≡ false → hold (hold held (r, later)) (r, first) ≡ hold held (r, first)
held_again held r later first up = same_map row_total exact_rows (hold (hold held (r, later)) (r, first)) (hold held (r, first)) at
  where
    once : Map row_cmp Mode
    once = hold held (r, later)

    found : get once r ≡ Some (stronger (get held r) later)
    found = get-insert row_total held r (stronger (get held r) later) r ∙ ap (λ o. cond (is_eq o) (Some (stronger (get held r) later)) (get held r)) (tied_itself row_total r)

    mode : stronger (get once r) first ≡ stronger (get held r) first
    mode = ap (λ o. stronger o first) found ∙ stronger_again (get held r) later first up

    at : (q : Row) → get (hold once (r, first)) q ≡ get (hold held (r, first)) q
    at q =
        get-insert row_total once r (stronger (get once r) first) q
        ∙ ap (cond (eq_by_cmp row_cmp q r) (Some (stronger (get once r) first))) (get-insert row_total held r (stronger (get held r) later) q)
        ∙ covered (eq_by_cmp row_cmp q r) (Some (stronger (get once r) first)) (Some (stronger (get held r) later)) (Some (stronger (get held r) first)) (get held q) (ap Some mode)
        ∙ sym (get-insert row_total held r (stronger (get held r) first) q)

-- ---- sorted rows

abbrev pub same_row : Row × Mode → Row × Mode → Bool
same_row later first = is_eq (row_cmp later.0 first.0)

abbrev IsAfter : Row × Mode → Row × Mode → Type 0
IsAfter later first = is_lt (held_cmp later first) ≡ false

-- none stands before an earlier one
Rise : List (Row × Mode) → Type 0
Rise [] = Unit {0}
Rise (first ∷ rows) = ((later : Row × Mode) → Contains rows later → IsAfter later first) × Rise rows

rise : (rows : List (Row × Mode)) → ((i j : ℕ) (d : Row × Mode) → i ≤ j → j < length rows → IsAfter (get_or rows j d) (get_or rows i d)) → Rise rows
unfolding Rise
rise [] up = tt
rise (first ∷ rows) up = (
  λ later c. subst (λ x. IsAfter x first) c.2 (up 0 (suc c.0) later (omega arith) (let within = c.1 in omega (arith, within))),
  rise rows (λ i j d le within. up (suc i) (suc j) d (omega arith) (omega arith)),
)

-- of a row that comes twice the one that comes first is left
twice : (first later : Row × Mode) (rows : List (Row × Mode)) → same_row later first ≡ true → IsAfter later first → in_order (first ∷ later ∷ rows) ≡ in_order (first ∷ rows)
twice first later rows is up =
    let same = equal_rows later.0 first.0 is in
    let tied = ap (λ r. row_cmp r first.0) same ∙ tied_itself row_total first.0 in
    let up_mode = equal_first (row_cmp later.0 first.0) (nat_cmp (rank later.1) (rank first.1)) tied up in
    ap (λ (held : Map row_cmp Mode). held.entries) (ap (λ r. hold (hold (footprint rows) (r, later.1)) first) same ∙ held_again (footprint rows) first.0 later.1 first.1 up_mode)

-- a row that is below another one is below what doesn't stand before that
below : (first next later : Row × Mode) → same_row next first ≡ false → IsAfter next first → IsAfter later next → is_lt (row_cmp first.0 later.0) ≡ true
below first next later other up later_up = true_from_ne_false (is_lt (row_cmp first.0 later.0)) (λ not. false≢true (sym (first_not_less (row_cmp later.0 next.0) (nat_cmp (rank later.1) (rank next.1)) later_up) ∙ below_too later.0 first.0 next.0 not less))
  where
    not_above : is_lt (row_cmp next.0 first.0) ≡ false
    not_above = first_not_less (row_cmp next.0 first.0) (nat_cmp (rank next.1) (rank first.1)) up

    less : is_lt (row_cmp first.0 next.0) ≡ true
    less = true_from_ne_false (is_lt (row_cmp first.0 next.0)) (λ not. false≢true (sym other ∙ neither_below next.0 first.0 not_above not))

with_both : (a b : Bool) → T a → T b → T (a && b)
with_both true b p q = q
with_both false b p q = p

below_each : (r : Row) (rows : List (Row × Mode)) → ((x : Row × Mode) → Contains rows x → is_lt (row_cmp r x.0) ≡ true) → T (below_all row_cmp r rows)
below_each r [] h = tt
below_each r (x ∷ rows) h = with_both (is_lt (row_cmp r x.0)) (below_all row_cmp r rows) (subst T (sym (h x (Contains-head x rows))) tt) (below_each r rows (λ y c. h y (Contains-tail x rows y c)))

footprint_again : (rows : List (Row × Mode)) → footprint (in_order rows) ≡ footprint rows
footprint_again rows = same_entries_map (footprint (in_order rows)) (footprint rows) (in_order_again rows)

-- a row that is below all others comes first
comes_first : (first : Row × Mode) (rows : List (Row × Mode)) → T (below_all row_cmp first.0 (in_order rows)) → in_order (first ∷ rows) ≡ first ∷ in_order rows
comes_first first rows least =
    ap (λ held. (hold held first).entries) (sym (footprint_again rows))
    ∙ in_order_is (first ∷ in_order rows) (with_both (below_all row_cmp first.0 (in_order rows)) (is_sorted row_cmp (in_order rows)) least (rows_rise rows))

left_from : (first : Row × Mode) (rows : List (Row × Mode)) → Rise (first ∷ rows) → dedup_from same_row first rows ≡ in_order (first ∷ rows)
unfolding Rise
left_from first [] up = sym (in_order_is (first ∷ []) tt)
left_from first (next ∷ rows) up = by (same_row next first) refl (left_from first rows (λ later c. up.0 later (Contains-tail next rows later c), up.1.1)) (left_from next rows up.1)
  where
    later_up : (later : Row × Mode) → Contains (next ∷ rows) later → IsAfter later next
    later_up later c = elim (Contains-cons_cases next rows later c) [
      | inl is ↦ subst (λ x. IsAfter x next) is (ap is_lt (tied_itself held_total next))
      | inr c ↦ up.1.0 later c
    ]

    by : (b : Bool) → same_row next first ≡ b → dedup_from same_row first rows ≡ in_order (first ∷ rows) → dedup_from same_row next rows ≡ in_order (next ∷ rows) → cond b (dedup_from same_row first rows) (first ∷ dedup_from same_row next rows) ≡ in_order (first ∷ next ∷ rows)
    by true is skipped left = skipped ∙ sym (twice first next rows is (up.0 next (Contains-head next rows)))
    by false other skipped left =
        let least = below_each first.0 (in_order (next ∷ rows)) (λ x c. below first next x other (up.0 next (Contains-head next rows)) (later_up x (from_in_order (next ∷ rows) x.0 x.1 c))) in
        ap (λ rows. first ∷ rows) left ∙ sym (comes_first first (next ∷ rows) least)

pub left_is : (rows : List (Row × Mode)) → IsInOrder rows → dedup same_row rows ≡ in_order rows
left_is [] up = refl
left_is (first ∷ rows) up = left_from first rows (rise (first ∷ rows) (far (first ∷ rows) up))
