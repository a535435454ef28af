use Rattle.std.proofs.Common.{inl}
use Rattle.queue_http.specs.Service.{disk_state}
use Rattle.trace_lines.specs.Printed.{printed_text}
use Rattle.trace_lines.specs.declared.line.Line.TheVariants.{Do}
use Rattle.queue_trace.proofs.LineLemmas.{done, untouched}
use Rattle.queue_trace.proofs.traced.begin_and_commit.Goals as goal

pub returns-in-Ok-clause-performs : goal.returns-in-Ok-clause-performs
returns-in-Ok-clause-performs g c =
    let before = disk_state (g.D.Disk.history c.args.disk.now) (g.D.Disk.faults c.args.disk.now) in
    let after = disk_state (g.D.Disk.history c.commit.new.disk) (g.D.Disk.faults c.commit.new.disk) in
    done c.args.seat c.args.now c.args.engine.now c.opened.new.engine c.commit.new.engine before after c.args.command (printed_text c.commit.result)
    c.in-Ok.ensures.begins c.in-Ok.ensures.standing c.commit.ensures.performs

pub returns-in-Err-clause-performs : goal.returns-in-Err-clause-performs
returns-in-Err-clause-performs g c =
    let disk = disk_state (g.D.Disk.history c.args.disk.now) (g.D.Disk.faults c.args.disk.now) in
    untouched c.args.engine.now c.opened.new.engine disk (Do c.args.now c.args.seat c.args.command) (printed_text c.in-Err.printed)
    c.in-Err.ensures.standing (λ moments doubt. inl (c.in-Err.ensures.begins moments doubt disk))
