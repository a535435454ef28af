-- What holds of every job that an envelope asks for: its own ranges, and those of the columns that a row takes from it.
use Rattle.std.specs.Prelude.{◌≤◌, List, length, IfSome, IsTrue}
use Rattle.std.specs.Cmp.Lexicographic.{slice_cmp}
use Rattle.std.specs.List.Sorted.{IsStrictlySortedBy}
use Rattle.std.specs.Ordering.{nat_cmp}
use Rattle.job_states.specs.Moment.{IsMoment}
use Rattle.job_states.specs.Ranges.{is_count, are_counts, is_envelope, texts_of_counts}
use Rattle.job_states.specs.declared.job.Counted.{Counted}
use Rattle.job_states.specs.declared.command.NewJob.{NewJob}

-- at most 16 counts that a row can have, their lists in byte order
pub record AreEnvelopeCounts (counts : List Counted) : Type 0 where
  pub few : length counts ≤ 16
  pub row : IsTrue (are_counts counts)
  pub ordered : IsStrictlySortedBy (slice_cmp nat_cmp) (texts_of_counts counts)

pub record IsInRange (job : NewJob) : Type 0 where
  pub envelope : IsTrue (is_envelope job.envelope)
  pub executions : IsTrue (is_count job.executions)
  pub counts : AreEnvelopeCounts job.counts
  pub at : IfSome job.at IsMoment
  pub args : length job.args ≤ 16
