use Rattle.std.proofs.Common.{inl, inr, refl}
use Rattle.trace_lines.specs.Printed.{printed_text}
use Rattle.trace_lines.specs.declared.line.Line.TheVariants.{Begin}
use Rattle.trace_lines.specs.declared.printed.Printed.TheVariants.{Open}
use Rattle.queue_trace.proofs.LineLemmas.{untouched}
use Rattle.queue_trace.proofs.traced.begin.Goals as goal

pub returns-in-Ok : goal.returns-in-Ok
returns-in-Ok c = λ disk.
    untouched c.args.engine.now c.opened.new.engine disk (Begin c.args.now c.args.seat c.args.command) (printed_text Open) c.in-Ok.ensures.standing
    (λ moments doubt. inr (record { begun = c.in-Ok.ensures.begins doubt; disk = refl; printed_is = refl }))

pub returns-in-Err : goal.returns-in-Err
returns-in-Err c = λ disk.
    untouched c.args.engine.now c.opened.new.engine disk (Begin c.args.now c.args.seat c.args.command) (printed_text c.in-Err.printed)
    c.in-Err.ensures.standing (λ moments doubt. inl (c.in-Err.ensures.begins moments doubt disk))
