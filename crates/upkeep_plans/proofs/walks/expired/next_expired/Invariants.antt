use Rattle.std.proofs.Common.{◌≡◌, length}
use Rattle.std.specs.Option.{option_copied}
use Rattle.upkeep_plans.specs.Left.{expired_left}
use Rattle.upkeep_plans.proofs.KeyWalks.{semaphores_left}
use Rattle.upkeep_plans.proofs.walks.expired.next_expired.Given as goal

abbrev pub invariant-loop-key : goal.invariant-loop-key
invariant-loop-key l = expired_left l.tables.world l.moment (option_copied l.past) ≡ expired_left l.tables.world l.moment (option_copied l.initial.past)

abbrev pub decreases-loop-key : goal.decreases-loop-key
decreases-loop-key l = length (semaphores_left l.tables.world (option_copied l.past))
