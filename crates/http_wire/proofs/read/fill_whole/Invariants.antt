use Rattle.std.proofs.Common.{◌+◌, ◌-◌, ◌<◌, ◌≤◌, length, take}
use Rattle.http_wire.specs.Limits.{input_limit}
use Rattle.http_wire.specs.Stream.{HasRead}
use Rattle.http_wire.proofs.read.fill_whole.Given as goal

abbrev pub invariant-loop-done : goal.invariant-loop-done
invariant-loop-done g l = record {
  within : l.done ≤ length l.buf;
  room : l.taken + l.done ≤ input_limit;
  read : HasRead (g.S.Source.source_state l.fn.source) (take l.done l.buf) (g.S.Source.source_state l.source) (0 < length l.buf);
}

abbrev pub decreases-loop-done : goal.decreases-loop-done
decreases-loop-done g l = length l.buf - l.done
