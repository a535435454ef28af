-- Footprints: the rows that a transaction holds, each with its mode.
use Rattle.std.specs.Prelude.{List, Contains}
use Rattle.job_states.specs.declared.row.Row.{Row}
use Rattle.job_states.specs.declared.row.Mode.{Mode}
use Rattle.job_states.specs.declared.row.Mode.TheVariants.{Alone, Shared}

-- two transactions can hold one row in these modes
abbrev pub FitTogether : Mode → Mode → Type 0
FitTogether Shared Shared = Unit {0}
FitTogether Shared Alone = ⊥
FitTogether Alone mode = ⊥

-- each row that is in both is shared in both
abbrev pub AreCompatible : List (Row × Mode) → List (Row × Mode) → Type 0
AreCompatible xs ys = (row : Row) (m n : Mode) → Contains xs (row, m) → Contains ys (row, n) → FitTogether m n
