use Rattle.std.proofs.Common.{inr, refl}
use Rattle.queue_http.specs.Service.{disk_state}
use Rattle.queue_cli.specs.Outside.{Outside, outside}
use Rattle.queue_cli.proofs.Ends.{without_engine}
use Rattle.queue_cli.proofs.command.perform.Goals as goal

pub returns-in-Ok : goal.returns-in-Ok
returns-in-Ok g c =
    let opened = c.in-Ok.ensures.opened in
    rw c.in-Some.is (inr (inr (record {
      settings = opened.0;
      accepted = opened.1;
      engine = c.in-Ok.engine;
      disk = disk_state (g.D.Disk.history c.open.new.disk) (g.D.Disk.faults c.open.new.disk);
      opened = opened.2;
      runs = c.perform_over-end.ensures (g.S1.Source.source_state c.args.config.now) (g.S1.Source.source_state c.open.new.config)
          (disk_state (g.D.Disk.history c.args.disk.now) (g.D.Disk.faults c.args.disk.now));
    })))

pub returns-in-Err : goal.returns-in-Err
returns-in-Err g c =
    let old : Outside = outside (g.S1.Source.source_state c.args.config.now) (g.S2.Source.source_state c.args.input.now) (g.K.Sink.sink_state c.args.output.now)
    (disk_state (g.D.Disk.history c.args.disk.now) (g.D.Disk.faults c.args.disk.now)) (g.C.Clock.moments c.args.clock.now) in
    let new : Outside = outside (g.S1.Source.source_state c.open.new.config) (g.S2.Source.source_state c.args.input.now) (g.K.Sink.sink_state c.report-in-Err.new.output)
    (disk_state (g.D.Disk.history c.open.new.disk) (g.D.Disk.faults c.open.new.disk)) (g.C.Clock.moments c.args.clock.now) in
    rw c.in-Some.is (without_engine c.in-Some.command old new c.in-Err.end c.report-in-Err.result c.in-Err.ensures.unopened refl refl c.report-in-Err.ensures.reports)
