use Rattle.std.proofs.Common.{rules}
use Rattle.queue_engine.specs.Running.{running}
use Rattle.trace_lines.specs.Printed.{printed_text, refused_text}
use Rattle.queue_trace.proofs.LineLemmas.{printed_or, refuses}
use Rattle.queue_trace.proofs.traced.opened.Goals as goal

pub returns-in-Ok-clause-begins : goal.returns-in-Ok-clause-begins
returns-in-Ok-clause-begins c = λ doubt.
    let begins = c.in-Ok.ensures.begins doubt in
    record { may = record { empty = search rules; built = search rules }; begins = begins.opens; settings = begins.settings }

pub returns-in-Err-clause-begins : goal.returns-in-Err-clause-begins
returns-in-Err-clause-begins c = λ moments doubt disk.
    let begins = c.in-Err.ensures.begins doubt in
    let refused = c.in-Err.refused in
    let printed = c.unwrap_or.result in
    refuses c.args.seat c.args.now (running c.args.engine.now doubt) (running c.begin.new.self doubt) c.args.command refused (printed_text printed)
    moments disk (record { empty = search rules; built = search rules }) begins.kept begins.refused
    (printed_or (refused_text refused) c.refused.result printed c.unwrap_or.ensures c.refused.ensures)
