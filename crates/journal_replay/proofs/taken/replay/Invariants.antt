use Rattle.std.proofs.Common.{◌≡◌}
use Rattle.std.specs.Vec.Iter.{into_iter_items}
use Rattle.queue_model.specs.Replay.{replay}
use Rattle.journal_replay.proofs.taken.replay.Given as goal

abbrev pub invariant-loop-tx : goal.invariant-loop-tx
invariant-loop-tx l = replay l.tables.world (into_iter_items l.tx-iterator) ≡ replay l.initial.tables.world (into_iter_items l.initial.tx-iterator)
