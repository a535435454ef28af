use Rattle.std.proofs.Common.{◌<◌, ◌≤◌, length, arith}
use Rattle.std.proofs.lemmas.Result.{err_from_is_err_and}
use Rattle.http_wire.proofs.ReadLemmas.{more_read, whole_stops, filled_within}
use Rattle.http_wire.proofs.read.fill_whole.Goals as goal

pub returns-in_err-n-clause-fault : goal.returns-in_err-n-clause-fault
returns-in_err-n-clause-fault g c =
    let p = err_from_is_err_and c.from_residual.result c.from_residual.ensures.1 in
    rw (p.1, p.2) (whole_stops c.args.taken c.loop-done.done _ (g.S.Source.source_state c.args.source.now) (g.S.Source.source_state c.loop-done.source) (g.S.Source.source_state c.read_some.new.source) c.loop-done.buf _
    c.loop-done.invariant.read c.loop-done-test.true c.loop-done.auto.buf c.in_err-n.ensures.fault)

pub loop-done-preserved : goal.loop-done-preserved
loop-done-preserved g c =
    let fits : c.in_ok-n.n ≤ length c.read_some.new.buf = omega (arith, c.in_ok-n.ensures.within.0, c.read_some.auto.buf) in
    let within = filled_within c.loop-done.done _ c.in_ok-n.n c.loop-done.buf c.read_some.new.buf c.loop-done.invariant.within fits in
    record {
      within = within;
      room = omega (arith, c.in_ok-n.ensures.within.1);
      read = more_read (g.S.Source.source_state c.args.source.now) (g.S.Source.source_state c.loop-done.source) (g.S.Source.source_state c.read_some.new.source) c.loop-done.done _ c.in_ok-n.n c.loop-done.buf c.read_some.new.buf
          (0 < length c.loop-done.buf) _ c.loop-done.invariant.within fits c.loop-done.invariant.read c.in_ok-n.ensures.bytes c.in_ok-n.ensures.count (omega (arith, within, c.if-n-eq0.false));
    }
