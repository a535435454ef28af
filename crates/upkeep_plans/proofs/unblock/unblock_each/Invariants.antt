use Rattle.std.proofs.Common.{filter, length}
use Rattle.std.specs.Option.{option_copied}
use Rattle.queue_model.specs.Map as map
use Rattle.plan_model.specs.UpkeepCommands.{overdue, unblock_case}
use Rattle.upkeep_plans.specs.Left.{late_left}
use Rattle.upkeep_plans.specs.SoFar.{IsSoFar}
use Rattle.upkeep_plans.specs.Standing.{StandLate}
use Rattle.upkeep_plans.proofs.LateWalk.{waits_past}
use Rattle.upkeep_plans.proofs.unblock.unblock_each.Given as goal

abbrev pub invariant-loop-key : goal.invariant-loop-key
invariant-loop-key l =
    let s = l.initial.cases.scene in
    IsSoFar unblock_case StandLate l.initial.cases (overdue s.book.world s.moment) l.cases (late_left s.book.world s.moment (option_copied l.past))

abbrev pub decreases-loop-key : goal.decreases-loop-key
decreases-loop-key l = length (filter (waits_past (option_copied l.past)) (map.values l.tables.world.jobs))
