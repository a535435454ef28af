-- How a book is seen: the locks have the rows of its open plans.
use Rattle.std.specs.Prelude.{ℕ, ◌==◌, List, map, filter}
use Rattle.std.specs.Ordering.{nat_cmp}
use Rattle.job_states.specs.declared.row.Mode.{Mode}
use Rattle.job_states.specs.declared.row.Row.{Row}
use Rattle.queue_model.specs.Map as finite
use Rattle.queue_model.specs.World.{World}
use Rattle.queue_model.specs.declared.Numbers.{Numbers}
use Rattle.row_locks.specs.Locks.{Lock}
use Rattle.plan_model.specs.Books.{Book}
use Rattle.plan_model.specs.Plans.{Plan}
use Rattle.book_core.specs.declared.opened.Opened.{Opened}

abbrev pub row_held : Lock → Row × Mode
row_held l = (l.row, l.mode)

-- the rows that a seat holds
abbrev pub rows_at : List Lock → (seat : ℕ) → List (Row × Mode)
rows_at locks seat = map row_held (filter (λ l. l.seat == seat) locks)

abbrev pub plan_at : List Lock → (seat : ℕ) → Opened → Plan
plan_at locks seat opened = record { tx = opened.tx; rows = rows_at locks seat; answer = opened.answer }

abbrev pub plans_of : List Lock → List (ℕ × Opened) → finite.Map nat_cmp Plan
plans_of locks opened = finite.from_entries (map (λ e. (e.0, plan_at locks e.0 e.1)) opened)

abbrev pub book_of : World → List Lock → List (ℕ × Opened) → Numbers → Book
book_of w locks opened given = record { world = w; open_plans = plans_of locks opened; given = given }
