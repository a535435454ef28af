-- What open plans leave free, and what locks refuse: the same rows, and the same first refusal.
use Rattle.std.proofs.Common.{◌≡◌, ◌≢◌, ◌==◌, ◌&&◌, ◌||◌, ◌<◌, ℕ, not, Bool, true, false, cond, T, List, [], ◌∷◌, map, filter, Option, None, Some, IsSome, is_some, ap, sym, ◌∙◌, refl, subst, arith, inl, inr}
use Rattle.std.specs.Prelude.{Contains, IsTrue}
use Rattle.std.specs.List.{AllByRecursion, list_all}
use Rattle.std.specs.Ordering.{is_eq, is_lt, nat_cmp}
use Rattle.std.specs.declared.cmp.Ordering.{Ordering}
use Rattle.std.specs.declared.cmp.Ordering.TheVariants.{Less, Equal, Greater}
use Rattle.std.specs.Cmp.{nat_cmp_total, tied_itself}
use Rattle.std.specs.FinMap.{nat_cmp-IsAntisymmetric}
use Rattle.std.specs.FinMap.Entries.{below_all, find, is_sorted}
use Rattle.std.proofs.lemmas.Bool.{eqb-true, eq-eqb, true≢false}
use Rattle.std.proofs.lemmas.Bool.Decides.{nat_tests}
use Rattle.std.proofs.lemmas.List.Elements.{All-contains, filter_passes}
use Rattle.job_states.specs.RowOrder.{row_cmp}
use Rattle.job_states.specs.declared.answer.Refused.{Refused}
use Rattle.job_states.specs.declared.answer.Refused.TheVariants.{Locked}
use Rattle.job_states.specs.declared.row.Mode.{Mode}
use Rattle.job_states.specs.declared.row.Mode.TheVariants.{Alone, Shared}
use Rattle.job_states.specs.declared.row.Row.{Row}
use Rattle.queue_model.specs.Map.{Map, get}
use Rattle.queue_model.proofs.Steps.{same_Some}
use Rattle.row_locks.specs.Footprints.{FitTogether}
use Rattle.row_locks.specs.Locks.{AreFree, Holds, IsFirstRefusal, IsFree, IsHeldAgainst, Lock, lock}
use Rattle.row_locks.proofs.Membership.{none, Contains-cons_cases, Contains-filter, Contains-from_filter, Contains-from_map, Contains-head, Contains-map, Contains-tail}
use Rattle.row_locks.proofs.Orders.{equal_rows, row_total}
use Rattle.plan_model.specs.Begins.{locked}
use Rattle.plan_model.specs.Books.{Book}
use Rattle.plan_model.specs.Plans.{Plan}
use Rattle.plan_model.specs.Refusals.{first_met, refuse}
use Rattle.plan_model.specs.Scenes.{are_free, fit_together, is_free, leaves_free}
use Rattle.plan_model.proofs.MapLemmas as map_lemmas
use Rattle.book_core.specs.Seen.{row_held, rows_at}
use Rattle.book_core.proofs.EntryMaps.{all_found, below_before, each_found}
use Rattle.book_core.proofs.SeatRows.{less_than}

both : (a b : Bool) → (a && b) ≡ true → (a ≡ true) × (b ≡ true)
both true b e = (refl, e)
both false b e = absurd (true≢false (sym e))

true_unless : (b : Bool) → (b ≡ false → ⊥) → b ≡ true
true_unless true never = refl
true_unless false never = absurd (never refl)

false_unless : (b : Bool) → (b ≡ true → ⊥) → b ≡ false
false_unless false never = refl
false_unless true never = absurd (never refl)

greater : (a b : ℕ) → nat_cmp a b ≡ Greater → b < a
greater a b e = grind (arith, nat_tests)

-- ---- rows at a seat and locks

pub holds_row : (locks : List Lock) (seat : ℕ) (row : Row) (mode : Mode) → Holds locks seat row mode → Contains (rows_at locks seat) (row, mode)
holds_row locks seat row mode held = Contains-map row_held (filter (λ l. l.seat == seat) locks) (lock seat row mode) (Contains-filter (λ l. l.seat == seat) locks (lock seat row mode) held (eq-eqb seat seat refl))

pub row_holds : (locks : List Lock) (seat : ℕ) (row : Row) (mode : Mode) → Contains (rows_at locks seat) (row, mode) → Holds locks seat row mode
row_holds locks seat row mode here =
    let there = Contains-from_map row_held (filter (λ l. l.seat == seat) locks) (row, mode) here in
    let l = there.0 in
    let at : l.seat ≡ seat = eqb-true l.seat seat (All-contains (λ l. (l.seat == seat) ≡ true) (filter (λ l. l.seat == seat) locks) l (filter_passes (λ l. l.seat == seat) locks) there.1) in
    subst (λ (r : Row × Mode). Contains locks (lock seat r.0 r.1)) there.2
    (subst (λ s. Contains locks (lock s l.row l.mode)) at (Contains-from_filter (λ l. l.seat == seat) locks l there.1))

-- ---- the rows of one seat

-- they leave the row free in this mode
abbrev pub leave : Row → Mode → List (Row × Mode) → Bool
leave row mode rows = list_all (leaves_free row mode) rows

unfit_row : (row : Row) (mode : Mode) (r : Row × Mode) → leaves_free row mode r ≡ false → (r.0 ≡ row) × ¬ FitTogether r.1 mode
unfit_row row mode r e = by (is_eq (row_cmp r.0 row)) refl (fit_together r.1 mode) refl e
  where
    never : (held mode : Mode) → fit_together held mode ≡ false → ¬ FitTogether held mode
    never Shared Shared f = absurd (true≢false f)
    never Shared Alone f = λ fits. fits
    never Alone mode f = λ fits. fits

    by : (a : Bool) → is_eq (row_cmp r.0 row) ≡ a → (b : Bool) → fit_together r.1 mode ≡ b → (not a || b) ≡ false → (r.0 ≡ row) × ¬ FitTogether r.1 mode
    by true f false g e = (equal_rows r.0 row f, never r.1 mode g)
    by true f true g e = absurd (true≢false e)
    by false f b g e = absurd (true≢false e)

pub unfit : (row : Row) (mode : Mode) (rows : List (Row × Mode)) → leave row mode rows ≡ false → (held : Mode) × Contains rows (row, held) × ¬ FitTogether held mode
unfit row mode [] e = absurd (true≢false e)
unfit row mode (r ∷ rows) e = by (leaves_free row mode r) refl e (unfit row mode rows)
  where
    by : (b : Bool) → leaves_free row mode r ≡ b → (b && leave row mode rows) ≡ false → (leave row mode rows ≡ false → (held : Mode) × Contains rows (row, held) × ¬ FitTogether held mode) → (held : Mode) × Contains (r ∷ rows) (row, held) × ¬ FitTogether held mode
    by true f e rest = let found = rest e in (found.0, Contains-tail r rows (row, found.0) found.1, found.2)
    by false f e rest = let here = unfit_row row mode r f in (r.1, subst (λ x. Contains (r ∷ rows) (x, r.1)) here.0 (Contains-head r rows), here.1)

fits : (row : Row) (mode held : Mode) → leaves_free row mode (row, held) ≡ true → FitTogether held mode
fits row mode held e = means held mode (subst (λ o. (not (is_eq o) || fit_together held mode) ≡ true) (tied_itself row_total row) e)
  where
    means : (held mode : Mode) → fit_together held mode ≡ true → FitTogether held mode
    means Shared Shared e = tt
    means Shared Alone e = true≢false (sym e)
    means Alone mode e = true≢false (sym e)

pub left_free : (row : Row) (mode : Mode) (rows : List (Row × Mode)) (held : Mode) → leave row mode rows ≡ true → Contains rows (row, held) → FitTogether held mode
left_free row mode [] held e here = absurd (none (row, held) here)
left_free row mode (r ∷ rows) held e here =
    let each = both (leaves_free row mode r) (leave row mode rows) e in
    elim (Contains-cons_cases r rows (row, held) here) [
      | inl is ↦ fits row mode held (subst (λ x. leaves_free row mode x ≡ true) is each.0)
      | inr later ↦ left_free row mode rows held each.1 later
    ]

-- ---- the seats

-- each plan has the rows that its seat holds, and who holds a row has a plan
pub record AreRowsOf (locks : List Lock) (plans : Map nat_cmp Plan) : Type 0 where
  pub rows : (seat : ℕ) (plan : Plan) → get plans seat ≡ Some plan → plan.rows ≡ rows_at locks seat
  pub holders : (seat : ℕ) (row : Row) (mode : Mode) → Holds locks seat row mode → IsSome (get plans seat)

module _ (locks : List Lock) (b : Book) (seen : AreRowsOf locks b.open_plans) (seat : ℕ) (vacant : get b.open_plans seat ≡ None) where
  -- a plan that doesn't leave the row free holds it against this seat
  against : (row : Row) (mode : Mode) (by : ℕ) (plan : Plan) → get b.open_plans by ≡ Some plan → leave row mode plan.rows ≡ false → IsHeldAgainst locks seat row mode by
  against row mode by plan found e =
      let here = unfit row mode (rows_at locks by) (subst (λ rows. leave row mode rows ≡ false) (seen.rows by plan found) e) in
      (here.0, row_holds locks by row here.0 here.1, λ same. true≢false (sym (ap is_some found) ∙ ap (λ s. is_some (get b.open_plans s)) same ∙ ap is_some vacant), here.2)

  not_left : (row : Row) (mode : Mode) (by : ℕ) (plan : Plan) → get b.open_plans by ≡ Some plan → IsHeldAgainst locks seat row mode by → leave row mode plan.rows ≡ true → ⊥
  not_left row mode by plan found held e = held.3 (left_free row mode (rows_at locks by) held.0 (subst (λ rows. leave row mode rows ≡ true) (seen.rows by plan found) e) (holds_row locks by row held.0 held.1))

  each_leaves : (row : Row) (mode : Mode) → IsFree locks seat row mode → AllByRecursion (λ e. leave row mode e.1.rows ≡ true) b.open_plans.entries
  each_leaves row mode free = all_found (λ by plan. leave row mode plan.rows ≡ true) b.open_plans.entries b.open_plans.sorted (λ by plan found.
      true_unless (leave row mode plan.rows) (λ e. free by (against row mode by plan found e)))

  all_pass : (p : Plan → Bool) (es : List (ℕ × Plan)) → AllByRecursion (λ e. p e.1 ≡ true) es → list_all p (map (λ e. e.1) es) ≡ true
  all_pass p [] all = refl
  all_pass p (e ∷ es) all = (λ i. all.0 i && list_all p (map (λ e. e.1) es)) ∙ all_pass p es all.1

  pass_all : (p : Plan → Bool) (es : List (ℕ × Plan)) → list_all p (map (λ e. e.1) es) ≡ true → AllByRecursion (λ e. p e.1 ≡ true) es
  pass_all p [] e = tt
  pass_all p (x ∷ es) e = let each = both (p x.1) (list_all p (map (λ e. e.1) es)) e in (each.0, pass_all p es each.1)

  pub is_free_where : (row : Row) (mode : Mode) → IsFree locks seat row mode → is_free b row mode ≡ true
  is_free_where row mode free = all_pass (λ plan. leave row mode plan.rows) b.open_plans.entries (each_leaves row mode free)

  pub free_where : (row : Row) (mode : Mode) → is_free b row mode ≡ true → IsFree locks seat row mode
  free_where row mode e by held = at (get b.open_plans by) refl (seen.holders by row held.0 held.1)
    where
      at : (o : Option Plan) → get b.open_plans by ≡ o → IsSome o → ⊥
      at None found some = true≢false (sym some)
      at (Some plan) found some = not_left row mode by plan found held
          (each_found (λ by plan. leave row mode plan.rows ≡ true) b.open_plans.entries by plan (pass_all (λ plan. leave row mode plan.rows) b.open_plans.entries e) found)

  -- ---- the first refusal

  -- the first seat that holds a row
  abbrev holder : Row × Mode → List (ℕ × Plan) → Option Refused
  holder r seats = first_met (map (λ seat. refuse (not (leave r.0 r.1 seat.1.rows)) (Locked r.0 seat.0)) seats)

  no_holder : (r : Row × Mode) (es : List (ℕ × Plan)) → AllByRecursion (λ e. leave r.0 r.1 e.1.rows ≡ true) es → holder r es ≡ None
  no_holder r [] all = refl
  no_holder r (e ∷ es) all = (λ i. first_met (refuse (not (all.0 i)) (Locked r.0 e.0) ∷ map (λ seat. refuse (not (leave r.0 r.1 seat.1.rows)) (Locked r.0 seat.0)) es)) ∙ no_holder r es all.1

  -- the least seat that doesn't leave the row free
  abbrev after_first : Row × Mode → ℕ → List (ℕ × Plan) → Bool → Option Refused
  after_first r first es left = first_met (refuse (not left) (Locked r.0 first) ∷ map (λ seat. refuse (not (leave r.0 r.1 seat.1.rows)) (Locked r.0 seat.0)) es)

  least_holder : (r : Row × Mode) (by : ℕ) (plan : Plan) (es : List (ℕ × Plan)) → T (is_sorted nat_cmp es) → find nat_cmp by es ≡ Some plan → leave r.0 r.1 plan.rows ≡ false
      → AllByRecursion (λ e. e.0 < by → leave r.0 r.1 e.1.rows ≡ true) es → holder r es ≡ Some (Locked r.0 by)
  least_holder r by plan [] s found e all = absurd (true≢false (sym (ap is_some found)))
  least_holder r by plan (x ∷ es) s found e all = at (nat_cmp by x.0) refl found (λ found. least_holder r by plan es (map_lemmas.both (below_all nat_cmp x.0 es) (is_sorted nat_cmp es) s).1 found e all.1)
    where
      at : (o : Ordering) → nat_cmp by x.0 ≡ o → cond (is_eq o) (Some x.1) (find nat_cmp by es) ≡ Some plan → (find nat_cmp by es ≡ Some plan → holder r es ≡ Some (Locked r.0 by)) → after_first r x.0 es (leave r.0 r.1 x.1.rows) ≡ Some (Locked r.0 by)
      at Equal is found later = ap (after_first r x.0 es) (ap (λ p. leave r.0 r.1 p.rows) (same_Some x.1 plan found) ∙ e) ∙ ap (λ k. Some (Locked r.0 k)) (sym (nat_cmp-IsAntisymmetric by x.0 is))
      at Less is found later = absurd (true≢false (sym (ap is_some found) ∙ ap is_some (map_lemmas.none_below nat_cmp_total by es (below_before by x.0 es is (map_lemmas.both (below_all nat_cmp x.0 es) (is_sorted nat_cmp es) s).0))))
      at Greater is found later = ap (after_first r x.0 es) (all.0 (greater by x.0 is)) ∙ later found

  -- rows in turn
  below_first : (first row : Row) (mode : Mode) (rows : List (Row × Mode)) → below_all row_cmp first rows ≡ true → Contains rows (row, mode) → row_cmp first row ≡ Less
  below_first first row mode [] e here = absurd (none (row, mode) here)
  below_first first row mode (r ∷ rows) e here =
      let each = both (is_lt (row_cmp first r.0)) (below_all row_cmp first rows) e in
      elim (Contains-cons_cases r rows (row, mode) here) [
        | inl is ↦ less_than (row_cmp first row) (subst (λ x. is_lt (row_cmp first x) ≡ true) (ap (λ x. x.0) is) each.0)
        | inr later ↦ below_first first row mode rows each.1 later
      ]

  first_row : (row : Row) (mode : Mode) (refused : Refused) (rows : List (Row × Mode)) → is_sorted row_cmp rows ≡ true → Contains rows (row, mode) → holder (row, mode) b.open_plans.entries ≡ Some refused
      → ((r : Row × Mode) → Contains rows r → row_cmp r.0 row ≡ Less → holder r b.open_plans.entries ≡ None) → first_met (map (λ r. holder r b.open_plans.entries) rows) ≡ Some refused
  first_row row mode refused [] up here held before = absurd (none (row, mode) here)
  first_row row mode refused (r ∷ rows) up here held before =
      let each = both (below_all row_cmp r.0 rows) (is_sorted row_cmp rows) up in
      let later : Option Refused → Option Refused = λ o. first_met (o ∷ map (λ r. holder r b.open_plans.entries) rows) in
      elim (Contains-cons_cases r rows (row, mode) here) [
        | inl is ↦ ap later (ap (λ r. holder r b.open_plans.entries) is ∙ held)
        | inr there ↦ ap later (before r (Contains-head r rows) (below_first r.0 row mode rows each.0 there))
            ∙ first_row row mode refused rows each.1 there held (λ x inside. before x (Contains-tail r rows x inside))
      ]

  -- the first row that the locks refuse, and the least seat that holds it, are those that the book names
  pub locked_first : (rows : List (Row × Mode)) (row : Row) (by : ℕ) → IsTrue (is_sorted row_cmp rows) → IsFirstRefusal locks seat rows row by → locked b rows ≡ Some (Locked row by)
  locked_first rows row by up first =
      let mode = first.refused.0 in
      first_row row mode (Locked row by) rows up first.refused.1 (at (get b.open_plans by) refl (seen.holders by row first.refused.2.0 first.refused.2.1))
      (λ r inside less. no_holder r b.open_plans.entries (all_found (λ k plan. leave r.0 r.1 plan.rows ≡ true) b.open_plans.entries b.open_plans.sorted (λ k plan found.
      true_unless (leave r.0 r.1 plan.rows) (λ e. first.first_row r.0 k (r.1, inside, against r.0 r.1 k plan found e) less))))
    where
      at : (o : Option Plan) → get b.open_plans by ≡ o → IsSome o → holder (row, first.refused.0) b.open_plans.entries ≡ Some (Locked row by)
      at None found some = absurd (true≢false (sym some))
      at (Some plan) found some =
          least_holder (row, first.refused.0) by plan b.open_plans.entries b.open_plans.sorted found
          (false_unless (leave row first.refused.0 plan.rows) (λ e. not_left row first.refused.0 by plan found first.refused.2 e))
          (all_found (λ k plan. k < by → leave row first.refused.0 plan.rows ≡ true) b.open_plans.entries b.open_plans.sorted (λ k plan there below.
          true_unless (leave row first.refused.0 plan.rows) (λ e. omega (arith, below, first.least_seat k (first.refused.0, first.refused.1, against row first.refused.0 k plan there e)))))

  -- where the locks leave all rows free, so does the book
  pub are_free_where : (rows : List (Row × Mode)) → AreFree locks seat rows → are_free b rows ≡ true
  are_free_where [] free = refl
  are_free_where (r ∷ rows) free =
      (λ i. is_free_where r.0 r.1 (free r.0 r.1 (Contains-head r rows)) i && are_free b rows)
      ∙ are_free_where rows (λ row mode inside. free row mode (Contains-tail r rows (row, mode) inside))
