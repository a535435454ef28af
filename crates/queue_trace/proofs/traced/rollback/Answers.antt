use Rattle.std.proofs.Common.{inr, refl}
use Rattle.trace_lines.specs.Printed.{printed_text}
use Rattle.trace_lines.specs.declared.line.Line.TheVariants.{Rollback}
use Rattle.trace_lines.specs.declared.printed.Printed.TheVariants.{RolledBack}
use Rattle.queue_trace.proofs.LineLemmas.{untouched}
use Rattle.queue_trace.proofs.traced.rollback.Goals as goal

pub returns : goal.returns
returns c = λ disk.
    untouched c.args.engine.now c.rollback.new.self disk (Rollback c.args.seat) (printed_text RolledBack) c.rollback.ensures.standing
    (λ moments doubt. inr (record { rolls_back = c.rollback.ensures.gone doubt; disk = refl; printed_is = refl }))
