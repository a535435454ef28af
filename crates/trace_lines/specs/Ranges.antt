-- What holds of each line that is read.
use Rattle.std.specs.Prelude.{ℕ, ◌≤◌, List, length, All, IsTrue}
use Rattle.job_states.specs.Length.{is_name, IsName}
use Rattle.job_states.specs.Moment.{IsMoment}
use Rattle.job_states.specs.Ranges.{is_priority}
use Rattle.job_states.specs.declared.command.Command.{Command}
use Rattle.job_states.specs.declared.command.Command.TheVariants as command
use Rattle.job_states.specs.declared.command.NewJob.{NewJob}
use Rattle.job_envelope.specs.Ranges.{IsInRange}
use Rattle.trace_lines.specs.declared.line.Line.{Line}
use Rattle.trace_lines.specs.declared.line.Line.TheVariants as line

-- a job with the columns that its row takes from it
pub record IsFitJob (job : NewJob) : Type 0 where
  pub class : IsTrue (is_name job.class)
  pub queue : IsTrue (is_name job.queue)
  pub active_id : IsTrue (is_name job.active_id)
  pub priority : IsTrue (is_priority job.priority)
  pub rest : IsInRange job

-- 1 to 64 items of 1 to 128 bytes
pub record IsFitList (items : List (List ℕ)) : Type 0 where
  pub some : 1 ≤ length items
  pub few : length items ≤ 64
  pub names : All IsName items

-- no line asks for a bulk
abbrev pub IsFit : Command → Type 0
IsFit (command.Enqueue job) = IsFitJob job
IsFit (command.Bulk jobs) = ⊥
IsFit (command.Poll pid list limit) = IsFitList list × (1 ≤ limit) × (limit ≤ 100)
IsFit (command.Raised pid id error message) = IsTrue (is_name error)
IsFit (command.Pause queue) = IsTrue (is_name queue)
IsFit (command.Resume queue) = IsTrue (is_name queue)
IsFit (command.Register kind name) = IsTrue (is_name name)
IsFit (command.Tick pid task) = IsTrue (is_name task)
IsFit (command.RunNow task) = IsTrue (is_name task)
IsFit asked = Unit {0}

abbrev pub IsFitLine : Line → Type 0
IsFitLine (line.Begin moment seat asked) = IsMoment moment × (seat ≤ 63) × IsFit asked
IsFitLine (line.Do moment seat asked) = IsMoment moment × (seat ≤ 63) × IsFit asked
IsFitLine (line.Commit seat) = seat ≤ 63
IsFitLine (line.Rollback seat) = seat ≤ 63
IsFitLine line.Reopen = Unit {0}
