use Rattle.std.proofs.Common.{◌-◌, ◌≤◌, length}
use Rattle.std.specs.Io.KnownBytes.{Consumes}
use Rattle.queue_cli.proofs.settings.read_prefix.Given as goal

abbrev pub invariant-loop-chunk : goal.invariant-loop-chunk
invariant-loop-chunk g l = record {
  short : length l.bytes.items ≤ l.most;
  taken : Consumes ((g.S.Source.source_state l.fn.source).left) ((g.S.Source.source_state l.source).left) l.bytes.items;
  count : (g.S.Source.source_state l.fn.source).faults ≤ (g.S.Source.source_state l.source).faults;
}

abbrev pub decreases-loop-chunk : goal.decreases-loop-chunk
decreases-loop-chunk g l = l.most - length l.bytes.items
