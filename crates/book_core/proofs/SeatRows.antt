-- What each seat holds, as a list.
use Rattle.std.proofs.Common.{◌≡◌, ◌≢◌, ◌==◌, ◌+◌, ℕ, not, Bool, true, false, cond, filter, map, List, [], ◌∷◌, ◌++◌, refl, sym, ◌∙◌, ap, subst, ◌&&◌, arith, append-nil}
use Rattle.std.specs.Prelude.{Contains, IsPermutation, IsTrue}
use Rattle.std.specs.List.{AllByRecursion, count_by}
use Rattle.std.specs.Ordering.{is_lt, nat_cmp, ordering_reverse, ordering_then}
use Rattle.std.specs.declared.cmp.Ordering.{Ordering}
use Rattle.std.specs.declared.cmp.Ordering.TheVariants.{Less, Equal, Greater}
use Rattle.std.specs.Cmp.{IsTotalOrder, tied_itself}
use Rattle.std.specs.FinMap.{IsAntisymmetric}
use Rattle.std.specs.FinMap.Entries.{below_all, is_sorted}
use Rattle.std.proofs.lemmas.Bool.{true≢false, eqb-true, eq-eqb, ne_eqb}
use Rattle.std.proofs.lemmas.Cmp.{nat_cmp_total, on_total, then_total}
use Rattle.std.proofs.lemmas.List.{map-append}
use Rattle.std.proofs.lemmas.List.Elements.{filter-append}
use Rattle.std.proofs.lemmas.List.Sorted.{sum_by-IsPermutation}
use Rattle.job_states.specs.RowOrder.{row_cmp}
use Rattle.job_states.specs.declared.row.Mode.{Mode}
use Rattle.job_states.specs.declared.row.Mode.TheVariants.{Alone, Shared}
use Rattle.job_states.specs.declared.row.Row.{Row}
use Rattle.row_locks.specs.Locks.{AreSoundLocks, Holds, Lock, held_cmp, lock, lock_cmp, locks_of, rank}
use Rattle.row_locks.proofs.Membership.{Contains-head, Contains-tail}
use Rattle.row_locks.proofs.Orders.{equal_first, exact_rows, held_total, row_total}
use Rattle.book_core.specs.Seen.{row_held, rows_at}
use Rattle.book_core.proofs.Ordered.{AreUp, count_first, one, same_ordered, sorted_up}

-- ---- the order of rows with their modes

both_equal : (o p : Ordering) → ordering_then o p ≡ Equal → (o ≡ Equal) × (p ≡ Equal)
both_equal Less p e = cc
both_equal Equal p e = (refl, e)
both_equal Greater p e = cc

same_mode : (m n : Mode) → nat_cmp (rank m) (rank n) ≡ Equal → m ≡ n
same_mode Alone Alone e = refl
same_mode Alone Shared e = cc
same_mode Shared Alone e = cc
same_mode Shared Shared e = refl

exact_held : IsAntisymmetric held_cmp
exact_held a b e =
    let both = both_equal (row_cmp a.0 b.0) (nat_cmp (rank a.1) (rank b.1)) e in
    let row = exact_rows a.0 b.0 both.0 in
    let mode = same_mode a.1 b.1 both.1 in
    (λ i. (row i, mode i))

lock_total : IsTotalOrder lock_cmp
lock_total = then_total (on_total (λ (l : Lock). l.seat) nat_cmp_total) (on_total (λ (l : Lock). row_held l) held_total)

-- ---- counts at a seat

-- a lock at the seat whose row passes
abbrev passes_at : (seat : ℕ) → (Row × Mode → Bool) → Lock → Bool
passes_at seat p l = (l.seat == seat) && p (row_held l)

counted_at : (p : Row × Mode → Bool) (locks : List Lock) (seat : ℕ) → count_by p (rows_at locks seat) ≡ count_by (passes_at seat p) locks
counted_at p [] seat = refl
counted_at p (l ∷ locks) seat = by (l.seat == seat) refl (counted_at p locks seat)
  where
    by : (b : Bool) → (l.seat == seat) ≡ b → count_by p (rows_at locks seat) ≡ count_by (passes_at seat p) locks → count_by p (map row_held (cond b (l ∷ filter (λ l. l.seat == seat) locks) (filter (λ l. l.seat == seat) locks))) ≡ count_by (passes_at seat p) (l ∷ locks)
    by true e rest =
        let here : one (passes_at seat p l) ≡ one (p (row_held l)) = ap (λ b. one (b && p (row_held l))) e in
        omega (arith, here, count_first p (row_held l) (rows_at locks seat), count_first (passes_at seat p) l locks, rest)
    by false e rest =
        let here : one (passes_at seat p l) ≡ one false = ap (λ b. one (b && p (row_held l))) e in
        omega (arith, here, count_first (passes_at seat p) l locks, rest)

counted_moved : (p : Row × Mode → Bool) (locks new : List Lock) (seat : ℕ) → IsPermutation locks new → count_by p (rows_at new seat) ≡ count_by p (rows_at locks seat)
counted_moved p locks new seat moved = counted_at p new seat ∙ sum_by-IsPermutation (λ l. one (passes_at seat p l)) locks new moved ∙ sym (counted_at p locks seat)

-- ---- the rows of a seat are in order

later_up : (seat : ℕ) (l : Lock) (locks : List Lock) → l.seat ≡ seat → AllByRecursion (λ m. is_lt (lock_cmp m l) ≡ false) locks → AllByRecursion (λ r. is_lt (held_cmp r (row_held l)) ≡ false) (rows_at locks seat)
later_up seat l [] here all = tt
later_up seat l (m ∷ locks) here all = by (m.seat == seat) refl (later_up seat l locks here all.1)
  where
    by : (b : Bool) → (m.seat == seat) ≡ b → AllByRecursion (λ r. is_lt (held_cmp r (row_held l)) ≡ false) (rows_at locks seat)
        → AllByRecursion (λ r. is_lt (held_cmp r (row_held l)) ≡ false) (map row_held (cond b (m ∷ filter (λ l. l.seat == seat) locks) (filter (λ l. l.seat == seat) locks)))
    by true e rest = (
      equal_first (nat_cmp m.seat l.seat) (held_cmp (row_held m) (row_held l))
          (ap (nat_cmp m.seat) (here ∙ sym (eqb-true m.seat seat e)) ∙ tied_itself nat_cmp_total m.seat) all.0,
      rest,
    )
    by false e rest = rest

seat_up : (locks : List Lock) (seat : ℕ) → AreUp lock_cmp locks → AreUp held_cmp (rows_at locks seat)
seat_up [] seat up = tt
seat_up (l ∷ locks) seat up = by (l.seat == seat) refl (seat_up locks seat up.1)
  where
    by : (b : Bool) → (l.seat == seat) ≡ b → AreUp held_cmp (rows_at locks seat) → AreUp held_cmp (map row_held (cond b (l ∷ filter (λ l. l.seat == seat) locks) (filter (λ l. l.seat == seat) locks)))
    by true e rest = (later_up seat l locks (eqb-true l.seat seat e) up.0, rest)
    by false e rest = rest

rows_up : (locks : List Lock) (seat : ℕ) → AreSoundLocks locks → AreUp held_cmp (rows_at locks seat)
rows_up locks seat sound = seat_up locks seat (sorted_up lock_total locks sound.in_order)

both : (a b : Bool) → (a && b) ≡ true → (a ≡ true) × (b ≡ true)
both true b e = (refl, e)
both false b e = absurd (true≢false (sym e))

pub less_than : (o : Ordering) → is_lt o ≡ true → o ≡ Less
less_than Less e = refl
less_than Equal e = absurd (true≢false (sym e))
less_than Greater e = absurd (true≢false (sym e))

-- rows that strictly rise
rising_up : (rows : List (Row × Mode)) → IsTrue (is_sorted row_cmp rows) → AreUp held_cmp rows
rising_up [] up = tt
rising_up (r ∷ rows) up = let each = both (below_all row_cmp r.0 rows) (is_sorted row_cmp rows) up in (above rows each.0, rising_up rows each.1)
  where
    above : (rows : List (Row × Mode)) → below_all row_cmp r.0 rows ≡ true → AllByRecursion (λ x. is_lt (held_cmp x r) ≡ false) rows
    above [] below = tt
    above (x ∷ rows) below =
        let each = both (is_lt (row_cmp r.0 x.0)) (below_all row_cmp r.0 rows) below in (
          ap (λ o. is_lt (ordering_then o (nat_cmp (rank x.1) (rank r.1)))) (row_total.antisymm x.0 r.0 ∙ ap ordering_reverse (less_than (row_cmp r.0 x.0) each.0)),
          above rows each.1,
        )

-- ---- what a taking and a freeing do

none_held : (locks : List Lock) (seat : ℕ) → ((row : Row) (mode : Mode) → ¬ Holds locks seat row mode) → rows_at locks seat ≡ []
none_held [] seat none = refl
none_held (l ∷ locks) seat none = by (l.seat == seat) refl (none_held locks seat (λ row mode held. none row mode (Contains-tail l locks (lock seat row mode) held)))
  where
    by : (b : Bool) → (l.seat == seat) ≡ b → rows_at locks seat ≡ [] → map row_held (cond b (l ∷ filter (λ l. l.seat == seat) locks) (filter (λ l. l.seat == seat) locks)) ≡ []
    by true e rest = absurd (none l.row l.mode (subst (λ s. Contains (l ∷ locks) (lock s l.row l.mode)) (eqb-true l.seat seat e) (Contains-head l locks)))
    by false e rest = rest

rows_at-append : (xs ys : List Lock) (seat : ℕ) → rows_at (xs ++ ys) seat ≡ rows_at xs seat ++ rows_at ys seat
rows_at-append xs ys seat = ap (map row_held) (filter-append (λ l. l.seat == seat) xs ys) ∙ map-append row_held (filter (λ l. l.seat == seat) xs) (filter (λ l. l.seat == seat) ys)

own_rows : (seat : ℕ) (rows : List (Row × Mode)) → rows_at (locks_of seat rows) seat ≡ rows
own_rows seat [] = refl
own_rows seat (r ∷ rows) =
    ap (λ b. map row_held (cond b (lock seat r.0 r.1 ∷ filter (λ l. l.seat == seat) (locks_of seat rows)) (filter (λ l. l.seat == seat) (locks_of seat rows)))) (eq-eqb seat seat refl)
    ∙ ap (λ rs. r ∷ rs) (own_rows seat rows)

no_rows : (seat other : ℕ) (rows : List (Row × Mode)) → seat ≢ other → rows_at (locks_of seat rows) other ≡ []
no_rows seat other [] differ = refl
no_rows seat other (r ∷ rows) differ =
    ap (λ b. map row_held (cond b (lock seat r.0 r.1 ∷ filter (λ l. l.seat == other) (locks_of seat rows)) (filter (λ l. l.seat == other) (locks_of seat rows)))) (ne_eqb seat other differ)
    ∙ no_rows seat other rows differ

-- a seat that held nothing holds what it took
pub taken_rows : (old new : List Lock) (seat : ℕ) (rows : List (Row × Mode)) → AreSoundLocks new → IsPermutation (old ++ locks_of seat rows) new → IsTrue (is_sorted row_cmp rows) → ((row : Row) (mode : Mode) → ¬ Holds old seat row mode) → rows_at new seat ≡ rows
taken_rows old new seat rows sound taken rising none = same_ordered held_total exact_held (rows_at new seat) rows (rows_up new seat sound) (rising_up rows rising) (λ p.
    counted_moved p (old ++ locks_of seat rows) new seat taken
    ∙ ap (count_by p) (rows_at-append old (locks_of seat rows) seat ∙ ap (λ xs. xs ++ rows_at (locks_of seat rows) seat) (none_held old seat none) ∙ own_rows seat rows))

-- any other seat holds what it held
pub others_rows : (old new : List Lock) (seat other : ℕ) (rows : List (Row × Mode)) → AreSoundLocks old → AreSoundLocks new → IsPermutation (old ++ locks_of seat rows) new → seat ≢ other → rows_at new other ≡ rows_at old other
others_rows old new seat other rows was_sound sound taken differ = same_ordered held_total exact_held (rows_at new other) (rows_at old other) (rows_up new other sound) (rows_up old other was_sound) (λ p.
    counted_moved p (old ++ locks_of seat rows) new other taken
    ∙ ap (count_by p) (rows_at-append old (locks_of seat rows) other ∙ ap (λ xs. rows_at old other ++ xs) (no_rows seat other rows differ) ∙ append-nil (rows_at old other)))

pub freed_rows : (locks : List Lock) (seat other : ℕ) → seat ≢ other → rows_at (filter (λ l. not (l.seat == seat)) locks) other ≡ rows_at locks other
freed_rows [] seat other differ = refl
freed_rows (l ∷ locks) seat other differ = by (l.seat == seat) refl (freed_rows locks seat other differ)
  where
    left : List Lock
    left = filter (λ l. not (l.seat == seat)) locks

    by : (b : Bool) → (l.seat == seat) ≡ b → rows_at left other ≡ rows_at locks other → rows_at (cond (not b) (l ∷ left) left) other ≡ rows_at (l ∷ locks) other
    by true e rest =
        rest
        ∙ ap (λ b. map row_held (cond b (l ∷ filter (λ l. l.seat == other) locks) (filter (λ l. l.seat == other) locks))) (sym (ne_eqb l.seat other (λ same. differ (sym (eqb-true l.seat seat e) ∙ same))))
    by false e rest = at (l.seat == other)
      where
        at : (b : Bool) → map row_held (cond b (l ∷ filter (λ l. l.seat == other) left) (filter (λ l. l.seat == other) left)) ≡ map row_held (cond b (l ∷ filter (λ l. l.seat == other) locks) (filter (λ l. l.seat == other) locks))
        at true = ap (λ rs. (row_held l) ∷ rs) rest
        at false = rest
