use Rattle.std.proofs.Common.{◌≡◌, length}
use Rattle.upkeep_plans.specs.Left.{over_left}
use Rattle.upkeep_plans.proofs.KeyWalks.{all_jobs_left}
use Rattle.upkeep_plans.proofs.walks.over.next_over.Given as goal

abbrev pub invariant-loop-id : goal.invariant-loop-id
invariant-loop-id l = over_left l.scene l.past ≡ over_left l.scene l.initial.past

abbrev pub decreases-loop-id : goal.decreases-loop-id
decreases-loop-id l = length (all_jobs_left l.scene.book.world l.past)
