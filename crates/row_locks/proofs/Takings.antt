-- What one more taking, and one let go, change.
use Rattle.std.proofs.Common.{◌≡◌, ◌≢◌, ◌⊎◌, ℕ, ◌↔◌, ◌==◌, not, Bool, true, filter, List, ◌++◌, sym, ◌∙◌, ap, subst, inl, inr}
use Rattle.std.specs.Prelude.{Contains, IsPermutation}
use Rattle.std.proofs.lemmas.Bool.{eq-eqb, ne_eqb, true≢false}
use Rattle.std.proofs.lemmas.List.Elements.{Contains-append_cases, Contains-append_left, Contains-append_right, All-contains, filter_passes}
use Rattle.std.proofs.lemmas.List.Sorted.{Contains-permutation, IsPermutation-append_right, IsPermutation-map, IsPermutation-sym, IsPermutation-trans}
use Rattle.job_states.specs.declared.row.Row.{Row}
use Rattle.job_states.specs.declared.row.Mode.{Mode}
use Rattle.job_states.specs.declared.row.Mode.TheVariants.{Alone, Shared}
use Rattle.row_locks.specs.Footprints.{AreCompatible, FitTogether}
use Rattle.row_locks.specs.Locks.{AreExclusive, AreFree, Holds, HoldsAll, Lock, TakesRows, lock, locks_of}
use Rattle.row_locks.proofs.Membership.{Contains-filter, Contains-from_filter, Contains-from_map, Contains-map}

-- a seat holds by a taking what it took
pub taken_holds : (seat : ℕ) (rows : List (Row × Mode)) (row : Row) (mode : Mode) → Contains rows (row, mode) → Holds (locks_of seat rows) seat row mode
taken_holds seat rows row mode asked = Contains-map (λ r. lock seat r.0 r.1) rows (row, mode) asked

pub holds_taken : (seat : ℕ) (rows : List (Row × Mode)) (by : ℕ) (row : Row) (mode : Mode) → Holds (locks_of seat rows) by row mode → (by ≡ seat) × Contains rows (row, mode)
holds_taken seat rows by row mode held =
    let from = Contains-from_map (λ r. lock seat r.0 r.1) rows (lock by row mode) held in
    (sym (ap (λ l. l.seat) from.2), subst (λ r. Contains rows r) (ap (λ l. (l.row, l.mode)) from.2) from.1)

fits_or_not : (m n : Mode) → FitTogether m n ⊎ ¬ FitTogether m n
fits_or_not Shared Shared = inl tt
fits_or_not Shared Alone = inr (λ fits. fits)
fits_or_not Alone n = inr (λ fits. fits)

FitTogether-sym : (m n : Mode) → FitTogether m n → FitTogether n m
FitTogether-sym Shared Shared fits = fits
FitTogether-sym Shared Alone fits = absurd fits
FitTogether-sym Alone n fits = absurd fits

-- what a seat takes free fits with what others hold
pub fits_free : (locks : List Lock) (seat : ℕ) (rows : List (Row × Mode)) → AreFree locks seat rows → (by : ℕ) → by ≢ seat → (row : Row) (m n : Mode) → Holds locks by row m → Contains rows (row, n) → FitTogether m n
fits_free locks seat rows are_free by other row m n held asked =
    elim (fits_or_not m n) [
      | inl fits ↦ fits
      | inr unfit ↦ absurd (are_free row n asked by (m, held, other, unfit))
    ]

-- the rows may be taken in another order
pub taken_moved : (locks new : List Lock) (seat : ℕ) (rows sorted : List (Row × Mode)) → IsPermutation rows sorted → IsPermutation (locks ++ locks_of seat sorted) new → IsPermutation (locks ++ locks_of seat rows) new
taken_moved locks new seat rows sorted moved taken =
    IsPermutation-trans (locks ++ locks_of seat rows) (locks ++ locks_of seat sorted) new
    (IsPermutation-append_right locks (locks_of seat rows) (locks_of seat sorted) (IsPermutation-map (λ r. lock seat r.0 r.1) rows sorted moved)) taken

-- who holds which row after one more taking
pub holds_more : (locks new : List Lock) (seat : ℕ) (rows : List (Row × Mode)) → IsPermutation (locks ++ locks_of seat rows) new → (by : ℕ) (row : Row) (mode : Mode) → Holds new by row mode ↔ (Holds locks by row mode ⊎ ((by ≡ seat) × Contains rows (row, mode)))
holds_more locks new seat rows taken by row mode =
    let all = locks ++ locks_of seat rows in (
      λ held. elim (Contains-append_cases locks (locks_of seat rows) (lock by row mode) (Contains-permutation new all (lock by row mode) (IsPermutation-sym all new taken) held)) [
        | inl old ↦ inl old
        | inr added ↦ inr (holds_taken seat rows by row mode added)
      ],
      λ either. Contains-permutation all new (lock by row mode) taken (elim either [
        | inl old ↦ Contains-append_left locks (locks_of seat rows) (lock by row mode) old
        | inr added ↦ Contains-append_right locks (locks_of seat rows) (lock by row mode) (subst (λ s. Holds (locks_of seat rows) s row mode) (sym added.0) (taken_holds seat rows row mode added.1))
      ]),
    )

pub exclusive_more : (locks new : List Lock) (seat : ℕ) (rows : List (Row × Mode)) → IsPermutation (locks ++ locks_of seat rows) new → AreExclusive locks → AreFree locks seat rows → AreExclusive new
exclusive_more locks new seat rows taken exclusive are_free a b row m n differ held_a held_b =
    elim ((holds_more locks new seat rows taken a row m).0 held_a) [
      | inl old_a ↦ elim ((holds_more locks new seat rows taken b row n).0 held_b) [
        | inl old_b ↦ exclusive a b row m n differ old_a old_b
        | inr new_b ↦ fits_free locks seat rows are_free a (λ e. differ (e ∙ sym new_b.0)) row m n old_a new_b.1
      ]
      | inr new_a ↦ elim ((holds_more locks new seat rows taken b row n).0 held_b) [
        | inl old_b ↦ FitTogether-sym n m (fits_free locks seat rows are_free b (λ e. differ (new_a.0 ∙ sym e)) row n m old_b new_a.1)
        | inr new_b ↦ absurd (differ (new_a.0 ∙ sym new_b.0))
      ]
    ]

pub exclusive_filter : (p : Lock → Bool) (locks : List Lock) → AreExclusive locks → AreExclusive (filter p locks)
exclusive_filter p locks exclusive a b row m n differ held_a held_b = exclusive a b row m n differ (Contains-from_filter p locks (lock a row m) held_a) (Contains-from_filter p locks (lock b row n) held_b)

-- who holds which row after a seat let go
pub holds_filter : (seat : ℕ) (locks : List Lock) (by : ℕ) (row : Row) (mode : Mode) → Holds (filter (λ l. not (l.seat == seat)) locks) by row mode ↔ (Holds locks by row mode × (by ≢ seat))
holds_filter seat locks by row mode =
    let keeps : Lock → Bool = λ l. not (l.seat == seat) in (
      λ held. (
        Contains-from_filter keeps locks (lock by row mode) held,
        λ same. true≢false (sym (All-contains (λ l. keeps l ≡ true) (filter keeps locks) (lock by row mode) (filter_passes keeps locks) held) ∙ ap not (eq-eqb by seat same)),
      ),
      λ held. Contains-filter keeps locks (lock by row mode) held.0 (ap not (ne_eqb by seat held.1)),
    )

-- what a seat takes goes together with what any other seat holds
pub compatible : (locks new : List Lock) (seat : ℕ) (rows : List (Row × Mode)) → TakesRows locks new seat rows → (by : ℕ) (theirs : List (Row × Mode)) → by ≢ seat → HoldsAll locks by theirs → AreCompatible theirs rows
compatible locks new seat rows takes by theirs other held row m n in_theirs asked = fits_free locks seat rows takes.free by other row m n (held row m in_theirs) asked
