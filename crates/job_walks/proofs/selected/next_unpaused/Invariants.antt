use Rattle.std.proofs.Common.{◌≡◌, length}
use Rattle.exec_tables.specs.Next.{is_any_ready}
use Rattle.job_walks.specs.Left.{every_left, past_place}
use Rattle.job_walks.proofs.selected.next_unpaused.Given as goal

abbrev pub invariant-loop-place : goal.invariant-loop-place
invariant-loop-place l = every_left l.tables.world l.past ≡ every_left l.tables.world l.initial.past

abbrev pub decreases-loop-place : goal.decreases-loop-place
decreases-loop-place l = length (past_place l.tables.world is_any_ready l.past)
