-- The smallest seat that holds a row is found seat by seat.
use Rattle.std.proofs.Common.{◌≡◌, ◌≢◌, ◌↔◌, ℕ, ◌≤◌, not, Bool, true, false, List, [], ◌∷◌, refl, ◌∙◌, arith, inl, inr, Option, Some, None}
use Rattle.std.specs.Prelude.{All, is_some}
use Rattle.std.specs.Map.{keys_of}
use Rattle.std.specs.Ordering.{nat_cmp}
use Rattle.std.specs.declared.cmp.Ordering.TheVariants.{Less}
use Rattle.std.proofs.lemmas.Bool.{false≢true}
use Rattle.std.proofs.lemmas.Bool.Decides.{nat_tests}
use Rattle.std.proofs.lemmas.List.Elements.{All-append, All-contains, All-from_recursion, All-head, All-map, All-nil, All-tail, Contains-append_cases, Contains-append_left, Contains-append_right}
use Rattle.std.proofs.lemmas.Map.Keys.{sorted_head}
use Rattle.job_states.specs.declared.row.Row.{Row}
use Rattle.job_states.specs.declared.row.Mode.{Mode}
use Rattle.row_locks.specs.Locks.{IsFree, IsHeldAgainst, Lock, lock, locks_of}
use Rattle.row_locks.specs.Seats.{AreSeatsInOrder, BySeat, IsAgainst, IsLeastHolder, locks_in}
use Rattle.row_locks.proofs.Membership.{none}
use Rattle.row_locks.proofs.Takings.{holds_taken, taken_holds}

-- the locks of later seats
pub seats_after : (seat : ℕ) (seats : BySeat) → All (λ other. nat_cmp seat other ≡ Less) (keys_of seats) → All (λ l. nat_cmp seat l.seat ≡ Less) (locks_in seats)
seats_after seat [] later = All-nil (λ l. nat_cmp seat l.seat ≡ Less)
seats_after seat (s ∷ seats) later =
    All-append (λ l. nat_cmp seat l.seat ≡ Less) (locks_of s.0 s.1) (locks_in seats)
    (All-map (λ l. nat_cmp seat l.seat ≡ Less) (λ r. lock s.0 r.0 r.1) s.1 (λ k d low. All-head (λ other. nat_cmp seat other ≡ Less) s.0 (keys_of seats) later))
    (seats_after seat seats (All-tail (λ other. nat_cmp seat other ≡ Less) s.0 (keys_of seats) later))

pub after_head : (s : ℕ × List (Row × Mode)) (seats : BySeat) → AreSeatsInOrder (s ∷ seats) → All (λ l. nat_cmp s.0 l.seat ≡ Less) (locks_in seats)
after_head s seats up = seats_after s.0 seats (All-from_recursion (λ other. nat_cmp s.0 other ≡ Less) (keys_of seats) (sorted_head nat_cmp s.0 (keys_of seats) up.seats_up))

below : (a b : ℕ) → nat_cmp a b ≡ Less → a ≤ b
below a b less = grind (arith, nat_tests)

-- the first seat holds the row against this one
pub least_first : (s : ℕ × List (Row × Mode)) (seats : BySeat) (seat : ℕ) (row : Row) (mode : Mode) → AreSeatsInOrder (s ∷ seats) → s.0 ≢ seat → IsAgainst s.1 row mode → IsLeastHolder (locks_in (s ∷ seats)) seat row mode (Some s.0)
least_first s seats seat row mode up other against = (
  (against.0, Contains-append_left (locks_of s.0 s.1) (locks_in seats) (lock s.0 row against.0) (taken_holds s.0 s.1 row against.0 against.1), other, against.2),
  λ by held. elim (Contains-append_cases (locks_of s.0 s.1) (locks_in seats) (lock by row held.0) held.1) [
    | inl here ↦ let same : by ≡ s.0 = (holds_taken s.0 s.1 by row held.0 here).0 in omega arith
    | inr later ↦ below s.0 by (All-contains (λ l. nat_cmp s.0 l.seat ≡ Less) (locks_in seats) (lock by row held.0) (after_head s seats up) later)
  ],
)

-- the first seat doesn't
against_later : (s : ℕ × List (Row × Mode)) (seats : BySeat) (seat : ℕ) (row : Row) (mode : Mode) → (s.0 ≢ seat → ¬ IsAgainst s.1 row mode) → (by : ℕ) → IsHeldAgainst (locks_in (s ∷ seats)) seat row mode by → IsHeldAgainst (locks_in seats) seat row mode by
against_later s seats seat row mode misses by held =
    elim (Contains-append_cases (locks_of s.0 s.1) (locks_in seats) (lock by row held.0) held.1) [
      | inl here ↦
          let from = holds_taken s.0 s.1 by row held.0 here in
          absurd (misses (λ same. held.2 (from.0 ∙ same)) (held.0, from.1, held.3))
      | inr later ↦ (held.0, later, held.2, held.3)
    ]

against_more : (s : ℕ × List (Row × Mode)) (seats : BySeat) (seat : ℕ) (row : Row) (mode : Mode) (by : ℕ) → IsHeldAgainst (locks_in seats) seat row mode by → IsHeldAgainst (locks_in (s ∷ seats)) seat row mode by
against_more s seats seat row mode by held = (held.0, Contains-append_right (locks_of s.0 s.1) (locks_in seats) (lock by row held.0) held.1, held.2, held.3)

pub least_later : (s : ℕ × List (Row × Mode)) (seats : BySeat) (seat : ℕ) (row : Row) (mode : Mode) (least : Option ℕ) → (s.0 ≢ seat → ¬ IsAgainst s.1 row mode) → IsLeastHolder (locks_in seats) seat row mode least → IsLeastHolder (locks_in (s ∷ seats)) seat row mode least
least_later s seats seat row mode None misses is_free = λ by held. is_free by (against_later s seats seat row mode misses by held)
least_later s seats seat row mode (Some least) misses is_least = (
  against_more s seats seat row mode least is_least.0,
  λ by held. is_least.1 by (against_later s seats seat row mode misses by held),
)

-- no seat is the smallest of none
pub least_none : (seat : ℕ) (row : Row) (mode : Mode) → IsFree [] seat row mode
least_none seat row mode by against = none (lock by row against.0) against.1

-- there is no such seat exactly where the row is free
pub least_none_iff : (locks : List Lock) (seat : ℕ) (row : Row) (mode : Mode) (least : Option ℕ) (b : Bool) → is_some least ≡ not b → IsLeastHolder locks seat row mode least → (b ≡ true) ↔ IsFree locks seat row mode
least_none_iff locks seat row mode None true e is_free = (λ _. is_free, λ _. refl)
least_none_iff locks seat row mode None false e is_free = cc
least_none_iff locks seat row mode (Some by) true e is_least = cc
least_none_iff locks seat row mode (Some by) false e is_least = (λ same. absurd (false≢true same), λ is_free. absurd (is_free by is_least.0))
