use Rattle.std.proofs.Common.{◌≡◌, ◌+◌, count_by}
use Rattle.std.specs.Map.{values_of}
use Rattle.queue_model.specs.World.{is_holder}
use Rattle.exec_tables.proofs.jobs.Jobs.holders.Given as goal

-- those that were passed over, and those that are left
abbrev pub invariant-loop-job : goal.invariant-loop-job
invariant-loop-job l = l.holders + count_by (is_holder l.key l.generation) (values_of l.job-iterator) ≡ count_by (is_holder l.key l.generation) (values_of l.initial.job-iterator)
