-- Rows in their order: they rise, they cover what the rows cover of which they were made, and there are no others.
use Rattle.std.proofs.Common.{◌≡◌, ◌⊎◌, ℕ, cond, T, List, [], ◌∷◌, Option, None, Some, Ordering, ap, sym, ◌∙◌, refl, subst, ⊎_elim, inl, inr, Contains, is_some}
use Rattle.std.proofs.lemmas.Bool.{true≢false}
use Rattle.std.specs.declared.cmp.Ordering.TheVariants.{Less, Equal, Greater}
use Rattle.std.specs.Ordering.{is_eq, is_lt, eq_by_cmp}
use Rattle.std.specs.Cmp.{tied_itself}
use Rattle.std.specs.FinMap.{IsAntisymmetric}
use Rattle.std.specs.FinMap.Entries.{find, put, is_sorted, below_all, by_order}
use Rattle.job_states.specs.RowOrder.{row_cmp}
use Rattle.job_states.specs.declared.row.Mode.{Mode}
use Rattle.job_states.specs.declared.row.Mode.TheVariants.{Shared, Alone}
use Rattle.job_states.specs.declared.row.Row.{Row}
use Rattle.job_states.specs.declared.transition.Transaction.{Transaction}
use Rattle.job_states.specs.declared.transition.Transition.{Transition}
use Rattle.queue_model.specs.Footprints.{IsHeldIn, Covers, CoversAll, IsPlanned}
use Rattle.queue_model.specs.Held.{Held, holds}
use Rattle.queue_model.specs.Map.{get}
use Rattle.queue_model.specs.World.{World}
use Rattle.queue_model.proofs.Maps.{get-insert, entries-insert}
use Rattle.queue_model.proofs.Steps.{same_Some}
use Rattle.row_locks.proofs.Membership.{none, Contains-head, Contains-tail, Contains-cons_cases}
use Rattle.row_locks.proofs.Orders.{row_total, exact_rows}
use Rattle.plan_model.specs.Rows.{stronger, footprint, in_order}
use Rattle.plan_model.proofs.MapLemmas.{entry_found, none_below, both}

-- what is found is an entry
pub found_there : {K X : Type 0} {R : K → K → Ordering} → IsAntisymmetric R → (k : K) (v : X) (es : List (K × X)) → find R k es ≡ Some v → Contains es (k, v)
found_there exact k v [] h = absurd (true≢false (ap is_some (sym h)))
found_there {K} {X} {R} exact k v (e ∷ es) h = by (R k e.0) refl h (found_there exact k v es)
  where
    by : (r : Ordering) → R k e.0 ≡ r → cond (is_eq r) (Some e.1) (find R k es) ≡ Some v → (find R k es ≡ Some v → Contains es (k, v)) → Contains (e ∷ es) (k, v)
    by Less is h later = Contains-tail e es (k, v) (later h)
    by Greater is h later = Contains-tail e es (k, v) (later h)
    by Equal is h later = subst (Contains (e ∷ es)) (λ i. (sym (exact k e.0 is) i, same_Some e.1 v h i)) (Contains-head e es)

-- ---- what stands at a row

-- a row more, at itself and at any other
at_row : (x : Row × Mode) (rows : List (Row × Mode)) (r : Row) (mode : Mode) → get (footprint (x ∷ rows)) r ≡ Some mode → ((r ≡ x.0) × (stronger (get (footprint rows) x.0) x.1 ≡ mode)) ⊎ (get (footprint rows) r ≡ Some mode)
at_row x rows r mode h = by (row_cmp r x.0) refl (sym (get-insert row_total (footprint rows) x.0 (stronger (get (footprint rows) x.0) x.1) r) ∙ h)
  where
    by : (o : Ordering) → row_cmp r x.0 ≡ o → cond (is_eq o) (Some (stronger (get (footprint rows) x.0) x.1)) (get (footprint rows) r) ≡ Some mode → ((r ≡ x.0) × (stronger (get (footprint rows) x.0) x.1 ≡ mode)) ⊎ (get (footprint rows) r ≡ Some mode)
    by Less is h = inr h
    by Greater is h = inr h
    by Equal is h = inl (exact_rows r x.0 is, same_Some (stronger (get (footprint rows) x.0) x.1) mode h)

-- the stronger mode is the new one or the old one
one_of : (old : Option Mode) (new mode : Mode) → stronger old new ≡ mode → (new ≡ mode) ⊎ (old ≡ Some mode)
one_of None new mode e = inl e
one_of (Some Alone) new mode e = inr (ap Some e)
one_of (Some Shared) new mode e = inl e

mode_from : (rows : List (Row × Mode)) (r : Row) (mode : Mode) → get (footprint rows) r ≡ Some mode → Contains rows (r, mode)
mode_from [] r mode h = absurd (true≢false (ap is_some (sym h)))
mode_from (x ∷ rows) r mode h = ⊎_elim (here (mode_from rows)) (λ old. Contains-tail x rows (r, mode) (mode_from rows r mode old)) (at_row x rows r mode h)
  where
    here : ((q : Row) (m : Mode) → get (footprint rows) q ≡ Some m → Contains rows (q, m)) → (r ≡ x.0) × (stronger (get (footprint rows) x.0) x.1 ≡ mode) → Contains (x ∷ rows) (r, mode)
    here from p = ⊎_elim
        (λ (new : x.1 ≡ mode). subst (Contains (x ∷ rows)) (λ i. (sym p.0 i, new i)) (Contains-head x rows))
        (λ old. Contains-tail x rows (r, mode) (from r mode (subst (λ q. get (footprint rows) q ≡ Some mode) (sym p.0) old)))
        (one_of (get (footprint rows) x.0) x.1 mode p.1)

-- a row is there in this mode or alone
abbrev HasMode : Option Mode → Mode → Type 0
HasMode found mode = (found ≡ Some mode) ⊎ (found ≡ Some Alone)

put_in : (old : Option Mode) (mode : Mode) → HasMode (Some (stronger old mode)) mode
put_in None mode = inl refl
put_in (Some Alone) mode = inr refl
put_in (Some Shared) mode = inl refl

still_in : (old : Option Mode) (new mode : Mode) → HasMode old mode → HasMode (Some (stronger old new)) mode
still_in None new mode h = absurd (⊎_elim (λ e. true≢false (ap is_some (sym e))) (λ e. true≢false (ap is_some (sym e))) h)
still_in (Some Alone) new mode h = inr refl
still_in (Some Shared) Alone mode h = inr refl
still_in (Some Shared) Shared mode h = h

mode_of : (rows : List (Row × Mode)) (r : Row) (mode : Mode) → Contains rows (r, mode) → HasMode (get (footprint rows) r) mode
mode_of [] r mode h = absurd (none (r, mode) h)
mode_of (x ∷ rows) r mode h = subst (λ o. HasMode o mode) (sym (get-insert row_total (footprint rows) x.0 new r)) (⊎_elim first (λ c. by (row_cmp r x.0) refl (mode_of rows r mode c)) (Contains-cons_cases x rows (r, mode) h))
  where
    new : Mode
    new = stronger (get (footprint rows) x.0) x.1

    first : x ≡ (r, mode) → HasMode (cond (eq_by_cmp row_cmp r x.0) (Some new) (get (footprint rows) r)) mode
    first is = subst (λ (y : Row × Mode). HasMode (cond (eq_by_cmp row_cmp r y.0) (Some (stronger (get (footprint rows) y.0) y.1)) (get (footprint rows) r)) mode) (sym is)
        (subst (λ o. HasMode (cond (is_eq o) (Some (stronger (get (footprint rows) r) mode)) (get (footprint rows) r)) mode) (sym (tied_itself row_total r)) (put_in (get (footprint rows) r) mode))

    by : (o : Ordering) → row_cmp r x.0 ≡ o → HasMode (get (footprint rows) r) mode → HasMode (cond (is_eq o) (Some new) (get (footprint rows) r)) mode
    by Less is old = old
    by Greater is old = old
    by Equal is old = still_in (get (footprint rows) x.0) x.1 mode (subst (λ q. HasMode (get (footprint rows) q) mode) (exact_rows r x.0 is) old)

-- ---- rows in order

-- a row is there in a mode only where the list has it so
pub from_in_order : (rows : List (Row × Mode)) (r : Row) (mode : Mode) → Contains (in_order rows) (r, mode) → Contains rows (r, mode)
from_in_order rows r mode h = mode_from rows r mode (entry_found row_total (in_order rows) (r, mode) (footprint rows).sorted h)

there : (rows : List (Row × Mode)) (r : Row) (mode : Mode) → HasMode (get (footprint rows) r) mode → IsHeldIn (in_order rows) r mode
there rows r mode h = ⊎_elim (λ e. inl (found_there exact_rows r mode (in_order rows) e)) (λ e. inr (found_there exact_rows r Alone (in_order rows) e)) h

pub held_in_order : (rows : List (Row × Mode)) (r : Row) (mode : Mode) → IsHeldIn rows r mode → IsHeldIn (in_order rows) r mode
held_in_order rows r mode h = ⊎_elim (λ c. there rows r mode (mode_of rows r mode c)) (λ c. there rows r mode (inr (⊎_elim (λ e. e) (λ e. e) (mode_of rows r Alone c)))) h

pub covers_in_order : (rows : List (Row × Mode)) (h : Held) → Covers rows h → Covers (in_order rows) h
covers_in_order rows h c = λ r mode e. held_in_order rows r mode (c r mode e)

pub covers_all_in_order : (rows : List (Row × Mode)) (w : World) (m : ℕ) (ts : List Transition) → CoversAll rows w m ts → CoversAll (in_order rows) w m ts
covers_all_in_order rows w m [] c = tt
covers_all_in_order rows w m (t ∷ ts) c = (covers_in_order rows (holds w t) c.0, λ v e. covers_all_in_order rows v m ts (c.1 v e))

pub planned_in_order : (w end : World) (tx : Transaction) (rows : List (Row × Mode)) → IsPlanned w tx rows end → IsPlanned w tx (in_order rows) end
planned_in_order w end tx rows p = record { legal = p.legal; covered = covers_all_in_order rows w tx.moment tx.steps p.covered }

-- ---- their order

pub rows_rise : (rows : List (Row × Mode)) → T (is_sorted row_cmp (in_order rows))
rows_rise rows = (footprint rows).sorted

put_first : (k : Row) (mode : Mode) (rows : List (Row × Mode)) → T (below_all row_cmp k rows) → put row_cmp k mode rows ≡ (k, mode) ∷ rows
put_first k mode [] s = refl
put_first k mode (x ∷ rows) s = by (row_cmp k x.0) (both (is_lt (row_cmp k x.0)) (below_all row_cmp k rows) s).0
  where
    by : (o : Ordering) → T (is_lt o) → by_order o ((k, mode) ∷ x ∷ rows) ((x.0, mode) ∷ rows) (x ∷ put row_cmp k mode rows) ≡ (k, mode) ∷ x ∷ rows
    by Less s = refl
    by Equal s = absurd s
    by Greater s = absurd s

-- rows that rise are in order
pub in_order_is : (rows : List (Row × Mode)) → T (is_sorted row_cmp rows) → in_order rows ≡ rows
in_order_is [] s = refl
in_order_is (x ∷ rows) s =
    let q = both (below_all row_cmp x.0 rows) (is_sorted row_cmp rows) s in
    entries-insert row_total (footprint rows) x.0 (stronger (get (footprint rows) x.0) x.1)
    ∙ ap (λ es. put row_cmp x.0 (stronger (find row_cmp x.0 es) x.1) es) (in_order_is rows q.1)
    ∙ ap (λ o. put row_cmp x.0 (stronger o x.1) rows) (none_below row_total x.0 rows q.0)
    ∙ put_first x.0 x.1 rows q.0

pub in_order_again : (rows : List (Row × Mode)) → in_order (in_order rows) ≡ in_order rows
in_order_again rows = in_order_is (in_order rows) (rows_rise rows)
