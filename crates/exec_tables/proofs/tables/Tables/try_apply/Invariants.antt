use Rattle.std.proofs.Common.{◌≡◌, ◌+◌, ◌≤◌, length}
use Rattle.std.specs.Vec.Iter.{into_iter_items}
use Rattle.queue_model.specs.Replay.{steps}
use Rattle.exec_tables.proofs.tables.Tables.try_apply.Given as goal

abbrev pub invariant-loop-step : goal.invariant-loop-step
invariant-loop-step l = record {
  legal : steps l.self.world l.moment (into_iter_items l.step-iterator) ≡ steps l.initial.self.world l.moment (into_iter_items l.initial.step-iterator);
  room : length (into_iter_items l.step-iterator) ≤ l.self.spare;
  count : l.self.spare + length (into_iter_items l.initial.step-iterator) ≡ l.initial.self.spare + length (into_iter_items l.step-iterator);
}
