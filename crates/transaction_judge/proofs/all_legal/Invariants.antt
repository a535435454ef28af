use Rattle.std.proofs.Common.{IsSome, take}
use Rattle.queue_model.specs.Replay.{steps}
use Rattle.transaction_judge.proofs.all_legal.Given as goal

abbrev pub invariant-loop-at : goal.invariant-loop-at
invariant-loop-at l = IsSome (steps l.tables.world l.moment (take l.at l.steps))
