-- What is true of a scene in which plans are made, and of the commands that are planned.
use Rattle.std.specs.Prelude.{◌≤◌, length, All, IsTrue, Some}
use Rattle.std.specs.Option.{ForSome}
use Rattle.job_states.specs.Length.{is_name}
use Rattle.job_states.specs.Moment.{IsMoment}
use Rattle.job_states.specs.Ranges.{is_row}
use Rattle.job_states.specs.declared.command.Command.{Command}
use Rattle.job_states.specs.declared.command.Command.TheVariants as command
use Rattle.job_states.specs.declared.command.NewJob.{NewJob}
use Rattle.queue_config.specs.Ranges.{IsConfig}
use Rattle.queue_selector.specs.Items.{IsQueueList}
use Rattle.plan_model.specs.GoodBook.{IsGoodBook}
use Rattle.plan_model.specs.JobCommands.{new_row, may_discard}
use Rattle.plan_model.specs.Scenes.{Scene}

pub record IsGoodScene (s : Scene) : Type 0 where
  pub book : IsGoodBook s.book
  pub settings : IsConfig s.settings
  pub moment : IsMoment s.moment

-- a job that is asked for is within its ranges
pub record IsNewJob (s : Scene) (new : NewJob) : Type 0 where
  pub row : IsTrue (is_row (record (new_row s new) { id = 1 }))
  pub at : ForSome new.at IsMoment

-- what the command names is within its ranges
abbrev pub IsWithinRanges : Scene → Command → Type 0
IsWithinRanges s (command.Enqueue new) = IsNewJob s new
IsWithinRanges s (command.Bulk news) = All (IsNewJob s) news × (length news ≤ 100)
IsWithinRanges s (command.Poll pid items limit) = IsQueueList items × (limit ≤ 100)
IsWithinRanges s (command.Raised pid id error message) = IsTrue (is_name error)
IsWithinRanges s (command.DiscardMany status queue class) = IsTrue (may_discard (Some status))
IsWithinRanges s (command.Pause queue) = IsTrue (is_name queue)
IsWithinRanges s (command.Resume queue) = IsTrue (is_name queue)
IsWithinRanges s (command.Register kind name) = IsTrue (is_name name)
IsWithinRanges s c = Unit {0}
