-- Jobs that are asked for, as a draft takes them.
use Rattle.std.specs.Prelude.{ℕ, List, [], fold}
use Rattle.job_states.specs.declared.answer.Made.{Made}
use Rattle.job_states.specs.declared.command.NewJob.{NewJob}
use Rattle.plan_model.specs.Drafts.{Draft, enqueue}
use Rattle.plan_model.specs.JobCommands.{and_made, new_row}
use Rattle.plan_model.specs.Scenes.{Scene}
use Rattle.job_plans.specs.declared.enqueue.New.{New}

abbrev pub new_of : Scene → NewJob → New
new_of s new = record { row = new_row s new; at = new.at }

abbrev pub enqueue_one : (moment : ℕ) → Draft × List Made → New → Draft × List Made
enqueue_one m done new = and_made done.1 (enqueue m new.row new.at done.0)

-- the jobs in turn
abbrev pub enqueue_each : (moment : ℕ) → List New → Draft → Draft × List Made
enqueue_each m news d = fold (enqueue_one m) (d, []) news
