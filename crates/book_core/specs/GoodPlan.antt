-- What is true of every plan that the code makes.
use Rattle.std.specs.Prelude.{List, IsTrue}
use Rattle.std.specs.FinMap.Entries.{is_sorted}
use Rattle.job_states.specs.RowOrder.{row_cmp}
use Rattle.job_states.specs.declared.answer.Answer.{Answer}
use Rattle.job_states.specs.declared.row.Mode.{Mode}
use Rattle.job_states.specs.declared.row.Row.{Row}
use Rattle.job_states.specs.declared.transition.Transaction.{Transaction}
use Rattle.plan_model.specs.Plans.{Plan, IsTold}

abbrev pub plan : Transaction → List (Row × Mode) → Answer → Plan
plan tx rows answer = record { tx = tx; rows = rows; answer = answer }

pub record IsGoodPlan (p : Plan) : Type 0 where
  pub told : IsTold p
  -- the rows stand in their order, each once
  pub in_order : IsTrue (is_sorted row_cmp p.rows)
