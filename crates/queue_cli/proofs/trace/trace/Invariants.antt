use Rattle.std.proofs.Common.{◌-◌, ◌≤◌, ℕ, List, Option, None}
use Rattle.queue_engine.specs.Running.{running}
use Rattle.queue_http.specs.Service.{disk_state, service}
use Rattle.queue_cli.specs.Answering.{session}
use Rattle.queue_cli.specs.Trace.{lines}
use Rattle.queue_cli.proofs.Lines.{ahead_of}
use Rattle.queue_cli.proofs.Serving.{ServingOn}
use Rattle.queue_cli.proofs.trace.trace.Given as goal

abbrev pub invariant-trace : goal.invariant-trace
invariant-trace g l = record {
  within : l.lines.at ≤ 1073741824;
  on : (moments : Option (List ℕ)) → ServingOn lines
      (session (service (running l.fn.engine None) moments (disk_state (g.D.Disk.history l.fn.disk) (g.D.Disk.faults l.fn.disk))) (g.S.Source.source_state l.fn.input) (g.K.Sink.sink_state l.fn.output))
      l.engine moments (disk_state (g.D.Disk.history l.disk) (g.D.Disk.faults l.disk)) (g.S.Source.source_state l.input) (g.K.Sink.sink_state l.output) (ahead_of l.lines);
}

abbrev pub decreases-trace : goal.decreases-trace
decreases-trace g l = 1073741824 - l.lines.at
