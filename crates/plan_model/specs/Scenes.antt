-- What a command is planned in.
use Rattle.std.specs.Prelude.{ℕ, Bool, true, false, not, ◌||◌, List}
use Rattle.std.specs.List.{list_all}
use Rattle.std.specs.Ordering.{eq_by_cmp}
use Rattle.job_states.specs.RowOrder.{row_cmp}
use Rattle.job_states.specs.declared.row.Mode.{Mode}
use Rattle.job_states.specs.declared.row.Mode.TheVariants.{Shared}
use Rattle.job_states.specs.declared.row.Row.{Row}
use Rattle.queue_config.specs.declared.config.Config.{Config}
use Rattle.queue_model.specs.Map as map
use Rattle.plan_model.specs.Books.{Book}

-- The command's seat has nothing open, so each open plan is one of another seat.
pub record Scene : Type 0 where
  pub book : Book
  pub settings : Config
  pub moment : ℕ

abbrev pub scene : Book → Config → (moment : ℕ) → Scene
scene b settings m = record { book = b; settings = settings; moment = m }

-- ---- free rows

abbrev pub fit_together : Mode → Mode → Bool
fit_together Shared Shared = true
fit_together mode other = false

-- a row that is held leaves this one free
abbrev pub leaves_free : Row → Mode → Row × Mode → Bool
leaves_free r mode held = not (eq_by_cmp row_cmp held.0 r) || fit_together held.1 mode

-- no open plan holds the row in a mode that doesn't fit
abbrev pub is_free : Book → Row → Mode → Bool
is_free b r mode = list_all (λ plan. list_all (leaves_free r mode) plan.rows) (map.values b.open_plans)

abbrev pub are_free : Book → List (Row × Mode) → Bool
are_free b rows = list_all (λ r. is_free b r.0 r.1) rows
