use Rattle.std.proofs.Common.{refl}
use Rattle.queue_http.specs.Service.{disk_state}
use Rattle.trace_lines.specs.Printed.{answer_text, printed_text}
use Rattle.trace_lines.specs.declared.printed.Printed.TheVariants.{DiskFault}
use Rattle.queue_trace.proofs.LineLemmas.{committed, lost, printed_or}
use Rattle.queue_trace.proofs.traced.commit.Goals as goal

pub returns-in-Ok-clause-performs : goal.returns-in-Ok-clause-performs
returns-in-Ok-clause-performs g c =
    let before = disk_state (g.D.Disk.history c.args.disk.now) (g.D.Disk.faults c.args.disk.now) in
    let after = disk_state (g.D.Disk.history c.commit.new.disk) (g.D.Disk.faults c.commit.new.disk) in
    let answer = c.in-Ok.answer in
    committed c.args.seat c.args.engine.now c.commit.new.self before after (printed_text c.unwrap_or.result) answer c.in-Ok.ensures.ends
    (printed_or (answer_text answer) c.answer.result c.unwrap_or.result c.unwrap_or.ensures c.answer.ensures)

pub returns-in-Err-clause-performs : goal.returns-in-Err-clause-performs
returns-in-Err-clause-performs g c =
    let before = disk_state (g.D.Disk.history c.args.disk.now) (g.D.Disk.faults c.args.disk.now) in
    let after = disk_state (g.D.Disk.history c.commit.new.disk) (g.D.Disk.faults c.commit.new.disk) in
    lost c.args.seat c.args.engine.now c.commit.new.self before after (printed_text DiskFault) c.in-Err.field-0 c.in-Err.ensures.ends
    c.in-Err.ensures.cause.failed refl
