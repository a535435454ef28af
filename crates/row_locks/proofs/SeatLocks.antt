-- What one more taking and one let go do to the locks seat by seat.
use Rattle.std.proofs.Common.{◌≡◌, ◌≢◌, ℕ, ◌+◌, ◌==◌, not, Bool, true, false, cond, filter, List, [], ◌∷◌, ◌++◌, map, refl, sym, ◌∙◌, ap, ap₂, subst, arith, Some, None, append-nil, append_assoc, suc}
use Rattle.std.specs.Prelude.{All, AllPairs, IsPermutation, IsSorted}
use Rattle.std.specs.Map.{keys_of, lookup, remove_entry, set_value}
use Rattle.std.specs.List.Sorted.{IsStrictlySortedBy}
use Rattle.std.specs.BTreeMap.{insert_entry, is_at}
use Rattle.std.specs.Ordering.{is_eq, is_lt, match_ordering, nat_cmp, ordering_reverse, ordering_then}
use Rattle.std.specs.declared.cmp.Ordering.{Ordering}
use Rattle.std.specs.declared.cmp.Ordering.TheVariants.{Less, Equal, Greater}
use Rattle.std.proofs.lemmas.Bool.{cond-true, cond-false, eq-eqb, ne_eqb}
use Rattle.std.proofs.lemmas.Bool.Decides.{nat_tests}
use Rattle.std.proofs.lemmas.Cmp.{nat_cmp_total, tied_itself}
use Rattle.std.proofs.lemmas.List.{map-append}
use Rattle.std.proofs.lemmas.List.Elements.{All-append, All-cons, All-head, All-map, All-nil, All-tail, All-weaker, filter-append}
use Rattle.std.proofs.lemmas.List.Kept.{AllPairs-cons}
use Rattle.std.proofs.lemmas.List.Sorted.{IsPermutation-append_comm, IsPermutation-append_left, IsPermutation-append_right, IsPermutation-map, IsPermutation-refl, IsPermutation-trans}
use Rattle.std.proofs.lemmas.Map.Keys.{sorted_tail}
use Rattle.std.proofs.lemmas.Map.Made.{keys_of-map_values}
use Rattle.std.proofs.lemmas.Option.{none-some, same_Some}
use Rattle.job_states.specs.declared.row.Row.{Row}
use Rattle.job_states.specs.declared.row.Mode.{Mode}
use Rattle.row_locks.specs.Locks.{Lock, held_cmp, lock, lock_cmp, locks_of}
use Rattle.row_locks.specs.Seats.{AreSeatsInOrder, BySeat, IsInOrder, locks_in}
use Rattle.row_locks.proofs.Against.{far}
use Rattle.row_locks.proofs.Holders.{after_head}

-- the entries of a map, with each value seen as a list
abbrev pub seen : {V : Type 0} → (V → List (Row × Mode)) → List (ℕ × V) → BySeat
seen items es = map (λ e. (e.0, items e.1)) es

in_order_seen : {V : Type 0} (items : V → List (Row × Mode)) (es : List (ℕ × V)) → IsStrictlySortedBy nat_cmp (keys_of es) → All (λ s. IsInOrder s.1) (seen items es) → AreSeatsInOrder (seen items es)
in_order_seen items es seats_up rows_up = record {
  seats_up = subst (λ keys. IsStrictlySortedBy nat_cmp keys) (sym (keys_of-map_values items es)) seats_up;
  rows_up = rows_up;
}

pub tail_in_order : (s : ℕ × List (Row × Mode)) (seats : BySeat) → AreSeatsInOrder (s ∷ seats) → AreSeatsInOrder seats
tail_in_order s seats up = record {
  seats_up = sorted_tail nat_cmp s.0 (keys_of seats) up.seats_up;
  rows_up = All-tail (λ s. IsInOrder s.1) s seats up.rows_up;
}

-- ---- a new seat

pub added : {V : Type 0} (items : V → List (Row × Mode)) (seat : ℕ) (v : V) (es : List (ℕ × V)) → lookup (is_at (nat_cmp seat)) es ≡ None → IsPermutation (locks_in (seen items es) ++ locks_of seat (items v)) (locks_in (seen items (insert_entry nat_cmp es seat v)))
added items seat v [] absent = subst (λ new. IsPermutation (locks_of seat (items v)) new) (sym (append-nil (locks_of seat (items v)))) (IsPermutation-refl (locks_of seat (items v)))
added {V} items seat v (e ∷ es) absent = step (nat_cmp seat e.0) absent (added items seat v es)
  where
    step : (o : Ordering) → cond (is_eq o) (Some e.1) (lookup (is_at (nat_cmp seat)) es) ≡ None → (lookup (is_at (nat_cmp seat)) es ≡ None → IsPermutation (locks_in (seen items es) ++ locks_of seat (items v)) (locks_in (seen items (insert_entry nat_cmp es seat v))))
        → IsPermutation ((locks_of e.0 (items e.1) ++ locks_in (seen items es)) ++ locks_of seat (items v)) (locks_in (seen items (match_ordering o ((seat, v) ∷ e ∷ es) ((e.0, v) ∷ es) (e ∷ insert_entry nat_cmp es seat v))))
    step Less absent rest = IsPermutation-append_comm (locks_of e.0 (items e.1) ++ locks_in (seen items es)) (locks_of seat (items v))
    step Equal absent rest = absurd (none-some e.1 (sym absent))
    step Greater absent rest =
        subst (λ old. IsPermutation old (locks_of e.0 (items e.1) ++ locks_in (seen items (insert_entry nat_cmp es seat v)))) (sym (append_assoc (locks_of e.0 (items e.1)) (locks_in (seen items es)) (locks_of seat (items v))))
        (IsPermutation-append_right (locks_of e.0 (items e.1)) (locks_in (seen items es) ++ locks_of seat (items v)) (locks_in (seen items (insert_entry nat_cmp es seat v))) (rest absent))

rows_inserted : {V : Type 0} (items : V → List (Row × Mode)) (seat : ℕ) (v : V) (es : List (ℕ × V)) → IsInOrder (items v) → All (λ s. IsInOrder s.1) (seen items es) → All (λ s. IsInOrder s.1) (seen items (insert_entry nat_cmp es seat v))
rows_inserted items seat v [] up all = All-cons (λ s. IsInOrder s.1) (seat, items v) [] up (All-nil (λ s. IsInOrder s.1))
rows_inserted {V} items seat v (e ∷ es) up all = step (nat_cmp seat e.0) (rows_inserted items seat v es up (All-tail (λ s. IsInOrder s.1) (e.0, items e.1) (seen items es) all))
  where
    step : (o : Ordering) → All (λ s. IsInOrder s.1) (seen items (insert_entry nat_cmp es seat v)) → All (λ s. IsInOrder s.1) (seen items (match_ordering o ((seat, v) ∷ e ∷ es) ((e.0, v) ∷ es) (e ∷ insert_entry nat_cmp es seat v)))
    step Less rest = All-cons (λ s. IsInOrder s.1) (seat, items v) (seen items (e ∷ es)) up all
    step Equal rest = All-cons (λ s. IsInOrder s.1) (e.0, items v) (seen items es) up (All-tail (λ s. IsInOrder s.1) (e.0, items e.1) (seen items es) all)
    step Greater rest = All-cons (λ s. IsInOrder s.1) (e.0, items e.1) (seen items (insert_entry nat_cmp es seat v)) (All-head (λ s. IsInOrder s.1) (e.0, items e.1) (seen items es) all) rest

-- ---- a seat that holds rows already

same_seat : (a b : ℕ) → is_eq (nat_cmp a b) ≡ true → a ≡ b
same_seat a b e = grind (arith, nat_tests)

other_seat : (a b : ℕ) → is_eq (nat_cmp a b) ≡ false → b ≢ a
other_seat a b e = λ same. grind (arith, nat_tests)

pub merged : {V : Type 0} (items : V → List (Row × Mode)) (seat : ℕ) (v w : V) (rows : List (Row × Mode)) (es : List (ℕ × V)) → lookup (is_at (nat_cmp seat)) es ≡ Some v → IsPermutation (items v ++ rows) (items w) → IsPermutation (locks_in (seen items es) ++ locks_of seat rows) (locks_in (seen items (set_value (is_at (nat_cmp seat)) es w)))
merged items seat v w rows [] found moved = absurd (none-some v found)
merged {V} items seat v w rows (e ∷ es) found moved = step (is_eq (nat_cmp seat e.0)) refl found (λ f. merged items seat v w rows es f moved)
  where
    step : (b : Bool) → is_eq (nat_cmp seat e.0) ≡ b → cond b (Some e.1) (lookup (is_at (nat_cmp seat)) es) ≡ Some v → (lookup (is_at (nat_cmp seat)) es ≡ Some v → IsPermutation (locks_in (seen items es) ++ locks_of seat rows) (locks_in (seen items (set_value (is_at (nat_cmp seat)) es w))))
        → IsPermutation ((locks_of e.0 (items e.1) ++ locks_in (seen items es)) ++ locks_of seat rows) (locks_in (seen items (cond b ((e.0, w) ∷ es) (e ∷ set_value (is_at (nat_cmp seat)) es w))))
    step true same found rest =
        let mine : List Lock = locks_of e.0 (items e.1) in
        let others : List Lock = locks_in (seen items es) in
        let more : List Lock = locks_of e.0 rows in
        let swapped = IsPermutation-append_right mine (others ++ more) (more ++ others) (IsPermutation-append_comm others more) in
        let joined : mine ++ (more ++ others) ≡ locks_of e.0 (items v ++ rows) ++ others =
        sym (append_assoc mine more others) ∙ ap (λ (front : List Lock). front ++ others) (sym (map-append (λ r. lock e.0 r.0 r.1) (items e.1) rows) ∙ ap (λ u. locks_of e.0 (items u ++ rows)) (same_Some e.1 v found)) in
        let put = IsPermutation-append_left others (locks_of e.0 (items v ++ rows)) (locks_of e.0 (items w)) (IsPermutation-map (λ r. lock e.0 r.0 r.1) (items v ++ rows) (items w) moved) in
        subst (λ s. IsPermutation ((mine ++ others) ++ locks_of s rows) (locks_of e.0 (items w) ++ others)) (sym (same_seat seat e.0 same))
        (subst (λ old. IsPermutation old (locks_of e.0 (items w) ++ others)) (sym (append_assoc mine others more))
        (IsPermutation-trans (mine ++ (others ++ more)) (locks_of e.0 (items v ++ rows) ++ others) (locks_of e.0 (items w) ++ others)
        (subst (λ new. IsPermutation (mine ++ (others ++ more)) new) joined swapped) put))
    step false other found rest =
        subst (λ old. IsPermutation old (locks_of e.0 (items e.1) ++ locks_in (seen items (set_value (is_at (nat_cmp seat)) es w)))) (sym (append_assoc (locks_of e.0 (items e.1)) (locks_in (seen items es)) (locks_of seat rows)))
        (IsPermutation-append_right (locks_of e.0 (items e.1)) (locks_in (seen items es) ++ locks_of seat rows) (locks_in (seen items (set_value (is_at (nat_cmp seat)) es w))) (rest found))

rows_set : {V : Type 0} (items : V → List (Row × Mode)) (seat : ℕ) (w : V) (es : List (ℕ × V)) → IsInOrder (items w) → All (λ s. IsInOrder s.1) (seen items es) → All (λ s. IsInOrder s.1) (seen items (set_value (is_at (nat_cmp seat)) es w))
rows_set items seat w [] up all = all
rows_set {V} items seat w (e ∷ es) up all = step (is_eq (nat_cmp seat e.0)) (rows_set items seat w es up (All-tail (λ s. IsInOrder s.1) (e.0, items e.1) (seen items es) all))
  where
    step : (b : Bool) → All (λ s. IsInOrder s.1) (seen items (set_value (is_at (nat_cmp seat)) es w)) → All (λ s. IsInOrder s.1) (seen items (cond b ((e.0, w) ∷ es) (e ∷ set_value (is_at (nat_cmp seat)) es w)))
    step true rest = All-cons (λ s. IsInOrder s.1) (e.0, items w) (seen items es) up (All-tail (λ s. IsInOrder s.1) (e.0, items e.1) (seen items es) all)
    step false rest = All-cons (λ s. IsInOrder s.1) (e.0, items e.1) (seen items (set_value (is_at (nat_cmp seat)) es w)) (All-head (λ s. IsInOrder s.1) (e.0, items e.1) (seen items es) all) rest

-- the same rows written back
pub unchanged : {V : Type 0} (items : V → List (Row × Mode)) (seat : ℕ) (v w : V) (es : List (ℕ × V)) → lookup (is_at (nat_cmp seat)) es ≡ Some v → items w ≡ items v → seen items (set_value (is_at (nat_cmp seat)) es w) ≡ seen items es
unchanged items seat v w [] found same = refl
unchanged {V} items seat v w (e ∷ es) found same = step (is_eq (nat_cmp seat e.0)) found (λ f. unchanged items seat v w es f same)
  where
    step : (b : Bool) → cond b (Some e.1) (lookup (is_at (nat_cmp seat)) es) ≡ Some v → (lookup (is_at (nat_cmp seat)) es ≡ Some v → seen items (set_value (is_at (nat_cmp seat)) es w) ≡ seen items es) → seen items (cond b ((e.0, w) ∷ es) (e ∷ set_value (is_at (nat_cmp seat)) es w)) ≡ seen items (e ∷ es)
    step true found rest = ap (λ rows. (e.0, rows) ∷ seen items es) (same ∙ ap items (sym (same_Some e.1 v found)))
    step false found rest = ap (λ others. (e.0, items e.1) ∷ others) (rest found)

-- a seat that is found has its rows in order
pub found_in_order : {V : Type 0} (items : V → List (Row × Mode)) (seat : ℕ) (v : V) (es : List (ℕ × V)) → lookup (is_at (nat_cmp seat)) es ≡ Some v → All (λ s. IsInOrder s.1) (seen items es) → IsInOrder (items v)
found_in_order items seat v [] found all = absurd (none-some v found)
found_in_order {V} items seat v (e ∷ es) found all = step (is_eq (nat_cmp seat e.0)) found (λ f. found_in_order items seat v es f (All-tail (λ s. IsInOrder s.1) (e.0, items e.1) (seen items es) all))
  where
    step : (b : Bool) → cond b (Some e.1) (lookup (is_at (nat_cmp seat)) es) ≡ Some v → (lookup (is_at (nat_cmp seat)) es ≡ Some v → IsInOrder (items v)) → IsInOrder (items v)
    step true found rest = subst (λ u. IsInOrder (items u)) (same_Some e.1 v found) (All-head (λ s. IsInOrder s.1) (e.0, items e.1) (seen items es) all)
    step false found rest = rest found

-- ---- what a map's change leaves in order

pub inserted_in_order : {V : Type 0} (items : V → List (Row × Mode)) (seat : ℕ) (v : V) (es new : List (ℕ × V)) → new ≡ insert_entry nat_cmp es seat v → IsStrictlySortedBy nat_cmp (keys_of new) → IsInOrder (items v) → All (λ s. IsInOrder s.1) (seen items es) → AreSeatsInOrder (seen items new)
inserted_in_order items seat v es new is ordered up all = in_order_seen items new ordered (subst (λ es. All (λ s. IsInOrder s.1) (seen items es)) (sym is) (rows_inserted items seat v es up all))

pub set_in_order : {V : Type 0} (items : V → List (Row × Mode)) (seat : ℕ) (w : V) (es new : List (ℕ × V)) → new ≡ set_value (is_at (nat_cmp seat)) es w → IsStrictlySortedBy nat_cmp (keys_of new) → IsInOrder (items w) → All (λ s. IsInOrder s.1) (seen items es) → AreSeatsInOrder (seen items new)
set_in_order items seat w es new is ordered up all = in_order_seen items new ordered (subst (λ es. All (λ s. IsInOrder s.1) (seen items es)) (sym is) (rows_set items seat w es up all))

-- ---- a seat that lets go

abbrev others_of : ℕ → List Lock → List Lock
others_of seat locks = filter (λ l. not (l.seat == seat)) locks

filter_seat : (seat by : ℕ) (rows : List (Row × Mode)) (b : Bool) → not (by == seat) ≡ b → others_of seat (locks_of by rows) ≡ cond b (locks_of by rows) []
filter_seat seat by [] true e = refl
filter_seat seat by [] false e = refl
filter_seat seat by (r ∷ rows) true e = cond-true (not (by == seat)) (lock by r.0 r.1 ∷ others_of seat (locks_of by rows)) (others_of seat (locks_of by rows)) e ∙ ap (λ rest. lock by r.0 r.1 ∷ rest) (filter_seat seat by rows true e)
filter_seat seat by (r ∷ rows) false e = cond-false (not (by == seat)) (lock by r.0 r.1 ∷ others_of seat (locks_of by rows)) (others_of seat (locks_of by rows)) e ∙ filter_seat seat by rows false e

filter_kept : {X : Type 0} (p : X → Bool) (xs : List X) → All (λ x. p x ≡ true) xs → filter p xs ≡ xs
filter_kept p [] all = refl
filter_kept p (x ∷ xs) all = cond-true (p x) (x ∷ filter p xs) (filter p xs) (All-head (λ x. p x ≡ true) x xs all) ∙ ap (λ rest. x ∷ rest) (filter_kept p xs (All-tail (λ x. p x ≡ true) x xs all))

later_is_other : (seat by : ℕ) → nat_cmp seat by ≡ Less → not (by == seat) ≡ true
later_is_other seat by less = grind (arith, nat_tests)

pub left : {V : Type 0} (items : V → List (Row × Mode)) (seat : ℕ) (es : List (ℕ × V)) → AreSeatsInOrder (seen items es) → locks_in (seen items (remove_entry (is_at (nat_cmp seat)) es)) ≡ others_of seat (locks_in (seen items es))
left items seat [] up = refl
left {V} items seat (e ∷ es) up =
    step (is_eq (nat_cmp seat e.0)) refl (left items seat es (tail_in_order (e.0, items e.1) (seen items es) up))
    ∙ sym (filter-append (λ l. not (l.seat == seat)) (locks_of e.0 (items e.1)) (locks_in (seen items es)))
  where
    step : (b : Bool) → is_eq (nat_cmp seat e.0) ≡ b → locks_in (seen items (remove_entry (is_at (nat_cmp seat)) es)) ≡ others_of seat (locks_in (seen items es))
        → locks_in (seen items (cond b es (e ∷ remove_entry (is_at (nat_cmp seat)) es))) ≡ others_of seat (locks_of e.0 (items e.1)) ++ others_of seat (locks_in (seen items es))
    step true same rest =
        let is : seat ≡ e.0 = same_seat seat e.0 same in
        sym (
        ap (λ front. front ++ others_of seat (locks_in (seen items es))) (filter_seat seat e.0 (items e.1) false (ap not (eq-eqb e.0 seat (sym is))))
        ∙ filter_kept (λ l. not (l.seat == seat)) (locks_in (seen items es)) (All-weaker (λ l. nat_cmp e.0 l.seat ≡ Less) (λ l. not (l.seat == seat) ≡ true)
        (λ l less. later_is_other seat l.seat (ap (λ s. nat_cmp s l.seat) is ∙ less)) (locks_in (seen items es)) (after_head (e.0, items e.1) (seen items es) up))
        )
    step false other rest =
        ap₂ (λ front others. front ++ others) (sym (filter_seat seat e.0 (items e.1) true (ap not (ne_eqb e.0 seat (other_seat seat e.0 other))))) rest

rows_left : {V : Type 0} (items : V → List (Row × Mode)) (seat : ℕ) (es : List (ℕ × V)) → All (λ s. IsInOrder s.1) (seen items es) → All (λ s. IsInOrder s.1) (seen items (remove_entry (is_at (nat_cmp seat)) es))
rows_left items seat [] all = all
rows_left {V} items seat (e ∷ es) all = step (is_eq (nat_cmp seat e.0)) (rows_left items seat es (All-tail (λ s. IsInOrder s.1) (e.0, items e.1) (seen items es) all))
  where
    step : (b : Bool) → All (λ s. IsInOrder s.1) (seen items (remove_entry (is_at (nat_cmp seat)) es)) → All (λ s. IsInOrder s.1) (seen items (cond b es (e ∷ remove_entry (is_at (nat_cmp seat)) es)))
    step true rest = All-tail (λ s. IsInOrder s.1) (e.0, items e.1) (seen items es) all
    step false rest = All-cons (λ s. IsInOrder s.1) (e.0, items e.1) (seen items (remove_entry (is_at (nat_cmp seat)) es)) (All-head (λ s. IsInOrder s.1) (e.0, items e.1) (seen items es) all) rest

pub left_in_order : {V : Type 0} (items : V → List (Row × Mode)) (seat : ℕ) (es new : List (ℕ × V)) → new ≡ remove_entry (is_at (nat_cmp seat)) es → IsStrictlySortedBy nat_cmp (keys_of new) → All (λ s. IsInOrder s.1) (seen items es) → AreSeatsInOrder (seen items new)
left_in_order items seat es new is ordered all = in_order_seen items new ordered (subst (λ es. All (λ s. IsInOrder s.1) (seen items es)) (sym is) (rows_left items seat es all))

-- ---- the order of the locks

AllPairs-head : {X : Type 0} (R : X → X → Type 0) (x : X) (xs : List X) → AllPairs R (x ∷ xs) → All (R x) xs
AllPairs-head R x xs pairs = λ k d low. pairs 0 (suc k) d (omega arith) (omega (arith, low))

AllPairs-tail : {X : Type 0} (R : X → X → Type 0) (x : X) (xs : List X) → AllPairs R (x ∷ xs) → AllPairs R xs
AllPairs-tail R x xs pairs = λ i j d less within. pairs (suc i) (suc j) d (omega arith) (omega (arith, within))

before_later : (a b : Lock) → nat_cmp a.seat b.seat ≡ Less → is_lt (lock_cmp b a) ≡ false
before_later a b less =
    let back : nat_cmp b.seat a.seat ≡ Greater = nat_cmp_total.antisymm b.seat a.seat ∙ ap ordering_reverse less in
    ap (λ o. is_lt (ordering_then o (held_cmp (b.row, b.mode) (a.row, a.mode)))) back

same_seat_rows : (seat : ℕ) (x y : Row × Mode) → is_lt (held_cmp y x) ≡ false → is_lt (lock_cmp (lock seat y.0 y.1) (lock seat x.0 x.1)) ≡ false
same_seat_rows seat x y up = ap (λ o. is_lt (ordering_then o (held_cmp y x))) (tied_itself nat_cmp_total seat) ∙ up

-- rows of one seat in front of locks of later ones
pairs_in_order : (seat : ℕ) (rows : List (Row × Mode)) (behind : List Lock) → AllPairs (λ x y. is_lt (held_cmp y x) ≡ false) rows → All (λ l. nat_cmp seat l.seat ≡ Less) behind → AllPairs (λ a b. is_lt (lock_cmp b a) ≡ false) behind → AllPairs (λ a b. is_lt (lock_cmp b a) ≡ false) (locks_of seat rows ++ behind)
pairs_in_order seat [] behind up later pairs = pairs
pairs_in_order seat (r ∷ rows) behind up later pairs =
    let follows : Lock → Type 0 = λ l. is_lt (lock_cmp l (lock seat r.0 r.1)) ≡ false in
    AllPairs-cons (λ a b. is_lt (lock_cmp b a) ≡ false) (lock seat r.0 r.1) (locks_of seat rows ++ behind)
    (All-append follows (locks_of seat rows) behind
    (All-map follows (λ x. lock seat x.0 x.1) rows (All-weaker (λ y. is_lt (held_cmp y r) ≡ false) (λ y. is_lt (lock_cmp (lock seat y.0 y.1) (lock seat r.0 r.1)) ≡ false) (λ y. same_seat_rows seat r y) rows (AllPairs-head (λ x y. is_lt (held_cmp y x) ≡ false) r rows up)))
    (All-weaker (λ l. nat_cmp seat l.seat ≡ Less) follows (λ l. before_later (lock seat r.0 r.1) l) behind later))
    (pairs_in_order seat rows behind (AllPairs-tail (λ x y. is_lt (held_cmp y x) ≡ false) r rows up) later pairs)

all_in_order : (seats : BySeat) → AreSeatsInOrder seats → AllPairs (λ a b. is_lt (lock_cmp b a) ≡ false) (locks_in seats)
all_in_order [] up = λ i j d less within. absurd (omega (arith, within))
all_in_order (s ∷ seats) up =
    pairs_in_order s.0 s.1 (locks_in seats) (λ i j d less within. far s.1 (All-head (λ s. IsInOrder s.1) s seats up.rows_up) i j d (omega (arith, less)) within)
    (after_head s seats up) (all_in_order seats (tail_in_order s seats up))

-- seats in order are the locks' order
pub locks_in_order : (seats : BySeat) → AreSeatsInOrder seats → IsSorted lock_cmp (locks_in seats)
locks_in_order seats up = λ k d low within. all_in_order seats up k (k + 1) d (omega arith) within
