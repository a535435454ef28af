-- What is true of the parts of a book at each time.
use Rattle.std.specs.Prelude.{ℕ, ◌<◌, ◌≤◌, ◌^◌, List, IsSome}
use Rattle.std.specs.List.Sorted.{IsStrictlySortedBy}
use Rattle.std.specs.Map.{keys_of}
use Rattle.std.specs.Ordering.{nat_cmp}
use Rattle.job_states.specs.declared.row.Mode.{Mode}
use Rattle.job_states.specs.declared.row.Row.{Row}
use Rattle.queue_model.specs.Map as map
use Rattle.queue_model.specs.World.{World}
use Rattle.queue_model.specs.declared.Numbers.{Numbers}
use Rattle.row_locks.specs.Locks.{AreSoundLocks, Holds, Lock}
use Rattle.plan_model.specs.GoodBook.{IsGoodBook}
use Rattle.book_core.specs.Counts.{planned_in}
use Rattle.book_core.specs.Seen.{book_of, plans_of}
use Rattle.book_core.specs.declared.opened.Opened.{Opened}

-- a seat that holds a row has a plan open
abbrev pub AreHeldByPlans : List Lock → List (ℕ × Opened) → Type 0
AreHeldByPlans locks opened = (seat : ℕ) (row : Row) (mode : Mode) → Holds locks seat row mode → IsSome (map.get (plans_of locks opened) seat)

pub record IsKept (w : World) (locks : List Lock) (opened : List (ℕ × Opened)) (given : Numbers) (spare : ℕ) : Type 0 where
  pub good : IsGoodBook (book_of w locks opened given)
  pub sound : AreSoundLocks locks
  pub seats_up : IsStrictlySortedBy nat_cmp (keys_of opened)
  pub seats : (seat : ℕ) → IsSome (map.get (plans_of locks opened) seat) → seat < 64
  pub holders : AreHeldByPlans locks opened
  -- in the tables there is room for all that is planned
  pub room : planned_in opened ≤ spare
  pub few : planned_in opened < 2 ^ 63
