-- The rows of a plan in one form: in their order, each once.
use Rattle.std.specs.Prelude.{List, [], ◌∷◌, Option, None, Some}
use Rattle.job_states.specs.RowOrder.{row_cmp}
use Rattle.job_states.specs.declared.row.Mode.{Mode}
use Rattle.job_states.specs.declared.row.Mode.TheVariants.{Shared, Alone}
use Rattle.job_states.specs.declared.row.Row.{Row}
use Rattle.queue_model.specs.Map as finite

-- a row that is in both modes is held alone
abbrev pub stronger : Option Mode → Mode → Mode
stronger None mode = mode
stronger (Some Alone) mode = Alone
stronger (Some Shared) mode = mode

abbrev pub hold : finite.Map row_cmp Mode → Row × Mode → finite.Map row_cmp Mode
hold held r = finite.insert held r.0 (stronger (finite.get held r.0) r.1)

-- the mode of each row
abbrev pub footprint : List (Row × Mode) → finite.Map row_cmp Mode
footprint [] = finite.empty
footprint (r ∷ rows) = hold (footprint rows) r

-- the rows in their order, each in one mode
abbrev pub in_order : List (Row × Mode) → List (Row × Mode)
in_order rows = (footprint rows).entries
