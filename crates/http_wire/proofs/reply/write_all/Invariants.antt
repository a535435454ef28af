use Rattle.std.proofs.Common.{◌-◌, ◌≤◌, length, take}
use Rattle.std.specs.Io.KnownBytes.{Appends}
use Rattle.http_wire.proofs.reply.write_all.Given as goal

abbrev pub invariant-loop-done : goal.invariant-loop-done
invariant-loop-done g l = record {
  within : l.done ≤ length l.piece;
  added : Appends (g.K.Sink.sink_state l.fn.sink).written (g.K.Sink.sink_state l.sink).written (take l.done l.piece);
  count : (g.K.Sink.sink_state l.fn.sink).faults ≤ (g.K.Sink.sink_state l.sink).faults;
}

abbrev pub decreases-loop-done : goal.decreases-loop-done
decreases-loop-done g l = length l.piece - l.done
