use Rattle.std.proofs.Common.{◌≡◌, ◌+◌, count_by}
use Rattle.std.specs.Map.{values_of}
use Rattle.exec_tables.specs.Jobs.{is_at}
use Rattle.exec_tables.proofs.jobs.Jobs.at_stage.Given as goal

-- those that were passed over, and those that are left
abbrev pub invariant-loop-job : goal.invariant-loop-job
invariant-loop-job l = l.there + count_by (is_at l.stage) (values_of l.job-iterator) ≡ count_by (is_at l.stage) (values_of l.initial.job-iterator)
