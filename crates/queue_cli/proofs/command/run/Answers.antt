use Rattle.std.proofs.Common.{map, string_bytes, Option, subst}
use Rattle.queue_http.specs.Service.{disk_state}
use Rattle.queue_cli.specs.declared.command.Command.{Command}
use Rattle.queue_cli.specs.Outside.{Outside, outside}
use Rattle.queue_cli.specs.Run.{Performs}
use Rattle.queue_cli.proofs.Reading.{one_verdict, runs}
use Rattle.queue_cli.proofs.command.run.Goals as goal

pub returns : goal.returns
returns g c =
    let old : Outside = outside (g.S1.Source.source_state c.args.config.now) (g.S2.Source.source_state c.args.input.now) (g.K.Sink.sink_state c.args.output.now)
    (disk_state (g.D.Disk.history c.args.disk.now) (g.D.Disk.faults c.args.disk.now)) (g.C.Clock.moments c.args.clock.now) in
    let new : Outside = outside (g.S1.Source.source_state c.perform-end.new.config) (g.S2.Source.source_state c.perform-end.new.input) (g.K.Sink.sink_state c.perform-end.new.output)
    (disk_state (g.D.Disk.history c.perform-end.new.disk) (g.D.Disk.faults c.perform-end.new.disk)) (g.C.Clock.moments c.perform-end.new.clock) in
    let P : Option Command → Type 0 = λ command. Performs command old new c.perform-end.result in
    let laws = c.one_verdict.ensures in
    record {
      runs = runs (one_verdict laws.foreign laws.version laws.refused) (map string_bytes c.args.words.now) old new c.perform-end.result c.exit_status.result
          (subst P c.of_words.ensures c.perform-end.ensures) c.exit_status.ensures;
    }
