use Rattle.std.proofs.Common.{◌-◌, ◌≤◌, ◌≡◌, None}
use Rattle.queue_engine.specs.Running.{running}
use Rattle.queue_http.specs.Service.{disk_state, service, IsIdle}
use Rattle.queue_cli.specs.Answering.{session}
use Rattle.queue_cli.specs.Exec.{requests}
use Rattle.queue_cli.proofs.Requests.{ahead_of}
use Rattle.queue_cli.proofs.Serving.{ServingOn}
use Rattle.queue_cli.proofs.exec.exec.Given as goal

abbrev pub invariant-requests : goal.invariant-requests
invariant-requests g l = record {
  within : l.carry.at ≤ 1073741824;
  goes_on : l.carry.over ≡ None;
  idle : IsIdle l.engine.book;
  on : ServingOn requests
      (session (service (running l.fn.engine None) (g.C.Clock.moments l.fn.clock) (disk_state (g.D.Disk.history l.fn.disk) (g.D.Disk.faults l.fn.disk))) (g.S.Source.source_state l.fn.input) (g.K.Sink.sink_state l.fn.output))
      l.engine (g.C.Clock.moments l.clock) (disk_state (g.D.Disk.history l.disk) (g.D.Disk.faults l.disk)) (g.S.Source.source_state l.input) (g.K.Sink.sink_state l.output) (ahead_of l.carry);
}

abbrev pub decreases-requests : goal.decreases-requests
decreases-requests g l = 1073741824 - l.carry.at
