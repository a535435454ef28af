-- What comes of beginning a command: its plan, unless another seat holds one of the rows.
use Rattle.std.specs.Prelude.{not, List, map, Option, None, Some, Result, Ok, Err}
use Rattle.std.specs.List.{list_all}
use Rattle.job_states.specs.declared.answer.Refused.{Refused}
use Rattle.job_states.specs.declared.answer.Refused.TheVariants.{Locked}
use Rattle.job_states.specs.declared.row.Mode.{Mode}
use Rattle.job_states.specs.declared.row.Row.{Row}
use Rattle.plan_model.specs.Books.{Book}
use Rattle.plan_model.specs.Plans.{Plan}
use Rattle.plan_model.specs.Refusals.{first_met, refuse}
use Rattle.plan_model.specs.Scenes.{leaves_free}

-- the first of the rows that isn't free, which stand in order, and the first seat that holds it so
abbrev pub locked : Book → List (Row × Mode) → Option Refused
locked b rows = first_met (map at_row rows)
  where
    at_row : Row × Mode → Option Refused
    at_row r = first_met (map (λ seat. refuse (not (list_all (leaves_free r.0 r.1) seat.1.rows)) (Locked r.0 seat.0)) b.open_plans.entries)

abbrev pub unless_locked : Book → Result Plan Refused → Result Plan Refused
unless_locked b (Err refused) = Err refused
unless_locked b (Ok plan) = by (locked b plan.rows)
  where
    by : Option Refused → Result Plan Refused
    by None = Ok plan
    by (Some refused) = Err refused
