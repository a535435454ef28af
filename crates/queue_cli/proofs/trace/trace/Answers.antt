use Rattle.std.proofs.Common.{◌≡◌, ℕ, List, None, true, false, is_err, ◌∙◌, ap, sym, subst, refl, arith}
use Rattle.std.specs.Io.KnownBytes.{Appends}
use Rattle.http_wire.specs.Reply.{AppendsPrefix}
use Rattle.queue_http.specs.Service.{disk_state}
use Rattle.trace_lines.specs.Input as trace
use Rattle.trace_lines.specs.Printed.{printed_text}
use Rattle.queue_cli.specs.Answering.{Exchange}
use Rattle.queue_cli.specs.declared.end.End.{End}
use Rattle.queue_cli.specs.LastText.{Reports, printed_line}
use Rattle.queue_cli.specs.Trace.{lines}
use Rattle.queue_cli.proofs.Ends.{err_known, ok_known}
use Rattle.queue_cli.proofs.Lines.{line_exchanged, lines_one_way, takes_end, takes_line, takes_none}
use Rattle.queue_cli.proofs.Serving.{at_start, done_on, ends_on, unwritten_on, written_on}
use Rattle.queue_cli.proofs.trace.trace.Goals as goal

pub trace-init : goal.trace-init
trace-init g c =
    let first = ap (λ (ahead : trace.Ahead). ahead.at) c.new-lines.ensures in
    record {
      within = omega (arith, first);
      on = λ moments. record {
        doubt = None;
        stands = c.requires;
        serving = at_start lines _ _ (ap (λ (ahead : trace.Ahead). ahead.bytes) c.new-lines.ensures) first c.requires.kept;
      };
    }

pub perform-printed-requires-clause-fit : goal.perform-printed-requires-clause-fit
perform-printed-requires-clause-fit g c = let takes = rw c.in-Ok-Some.field-0-is at c.in-Ok-Some.ensures in takes.fit

pub perform-printed-requires-clause-standing : goal.perform-printed-requires-clause-standing
perform-printed-requires-clause-standing g c = let on = c.trace.invariant.on None in (on.doubt, on.stands)

pub returns-then-is_err : goal.returns-then-is_err
returns-then-is_err g c = λ moments.
    let on = c.trace.invariant.on moments in
    let exchange : Exchange lines = record { item = c.in-Ok-Some.line; reply = printed_text c.perform-printed.result } in
    let old = disk_state (g.D.Disk.history c.trace.disk) (g.D.Disk.faults c.trace.disk) in
    let new = disk_state (g.D.Disk.history c.perform-printed.new.disk) (g.D.Disk.faults c.perform-printed.new.disk) in
    let next = line_exchanged c.worlds_are_replays.ensures c.trace.engine on.doubt moments old exchange c.perform-printed.new.engine new
    c.perform-printed.ensures.performs on.stands c.perform-printed.ensures.good.situation.book.world c.perform-printed.ensures.faults in
    let takes = rw c.in-Ok-Some.field-0-is at c.in-Ok-Some.ensures in
    let err : is_err c.write_two.result ≡ true = sym c.is_err.ensures.value ∙ c.if-is_err.true in
    let P : List ℕ → Type 0 = λ text. AppendsPrefix (g.K.Sink.sink_state c.trace.output).written (g.K.Sink.sink_state c.write_two.new.sink).written (printed_line text) in
    unwritten_on lines lines_one_way _ _ _ _ _ _ _ _ _ on exchange _ _ _ _ (takes_line _ _ _ _ _ takes) next
    (subst P c.as_slice.ensures (err_known c.write_two.result _ err c.write_two.ensures.prefix)) (err_known c.write_two.result _ err c.write_two.ensures.cause)

-- with a printed text that is let go, and without

pub trace-preserved : goal.trace-preserved
trace-preserved g c =
    let takes = rw c.in-Ok-Some.field-0-is at c.in-Ok-Some.ensures in
    let ok : is_err c.write_two.result ≡ false = sym c.is_err.ensures.value ∙ c.if-is_err.false in
    let P : List ℕ → Type 0 = λ text. Appends (g.K.Sink.sink_state c.trace.output).written (g.K.Sink.sink_state c.write_two.new.sink).written (printed_line text) in
    record {
      within = (let within = takes.within in omega (arith, within));
      on = λ moments. (
          let on = c.trace.invariant.on moments in
          let exchange : Exchange lines = record { item = c.in-Ok-Some.line; reply = printed_text c.perform-printed.result } in
          let old = disk_state (g.D.Disk.history c.trace.disk) (g.D.Disk.faults c.trace.disk) in
          let new = disk_state (g.D.Disk.history c.perform-printed.new.disk) (g.D.Disk.faults c.perform-printed.new.disk) in
          let next = line_exchanged c.worlds_are_replays.ensures c.trace.engine on.doubt moments old exchange c.perform-printed.new.engine new
          c.perform-printed.ensures.performs on.stands c.perform-printed.ensures.good.situation.book.world c.perform-printed.ensures.faults in
          written_on lines lines_one_way _ _ _ _ _ _ _ _ _ on exchange _ _ _ _ (takes_line _ _ _ _ _ takes) next
          (subst P c.as_slice.ensures (ok_known c.write_two.result _ ok c.write_two.ensures.whole)) c.write_two.ensures.count
          );
    }

pub trace-preserved-else-is_err : goal.trace-preserved-else-is_err
trace-preserved-else-is_err g c =
    let takes = rw c.in-Ok-Some.field-0-is at c.in-Ok-Some.ensures in
    let ok : is_err c.write_two.result ≡ false = sym c.is_err.ensures.value ∙ c.if-is_err.false in
    let P : List ℕ → Type 0 = λ text. Appends (g.K.Sink.sink_state c.trace.output).written (g.K.Sink.sink_state c.write_two.new.sink).written (printed_line text) in
    record {
      within = (let within = takes.within in omega (arith, within));
      on = λ moments. (
          let on = c.trace.invariant.on moments in
          let exchange : Exchange lines = record { item = c.in-Ok-Some.line; reply = printed_text c.perform-printed.result } in
          let old = disk_state (g.D.Disk.history c.trace.disk) (g.D.Disk.faults c.trace.disk) in
          let new = disk_state (g.D.Disk.history c.perform-printed.new.disk) (g.D.Disk.faults c.perform-printed.new.disk) in
          let next = line_exchanged c.worlds_are_replays.ensures c.trace.engine on.doubt moments old exchange c.perform-printed.new.engine new
          c.perform-printed.ensures.performs on.stands c.perform-printed.ensures.good.situation.book.world c.perform-printed.ensures.faults in
          written_on lines lines_one_way _ _ _ _ _ _ _ _ _ on exchange _ _ _ _ (takes_line _ _ _ _ _ takes) next
          (subst P c.as_slice.ensures (ok_known c.write_two.result _ ok c.write_two.ensures.whole)) c.write_two.ensures.count
          );
    }

pub returns-in-Ok-None : goal.returns-in-Ok-None
returns-in-Ok-None g c = λ moments.
    done_on lines lines_one_way _ _ _ _ _ _ _ _ _ (c.trace.invariant.on moments) (takes_end _ _ _ _ (rw c.in-Ok-None.field-0-is at c.in-Ok-None.ensures)) refl

pub returns-in-Err : goal.returns-in-Err
returns-in-Err g c = λ moments.
    let P : End → Type 0 = λ end. Reports (g.K.Sink.sink_state c.trace.output) (g.K.Sink.sink_state c.report.new.output) end c.report.result in
    ends_on lines lines_one_way _ _ _ _ _ _ _ _ _ (c.trace.invariant.on moments) c.report.result _ (takes_none _ _ _ _ c.in-Err.fault c.in-Err.ensures) (subst P c.of_input_fault.ensures c.report.ensures.reports)
