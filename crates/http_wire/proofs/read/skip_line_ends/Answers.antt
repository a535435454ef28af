use Rattle.std.proofs.Common.{arith, rules}
use Rattle.std.proofs.lemmas.Result.{err_from_is_err_and}
use Rattle.http_wire.proofs.ReadLemmas.{passes_more, lines_end, lines_other, lines_stop}
use Rattle.http_wire.proofs.read.skip_line_ends.Goals as goal

pub returns-in_err-n : goal.returns-in_err-n
returns-in_err-n g c =
    let p = err_from_is_err_and c.from_residual.result c.from_residual.ensures.1 in
    rw (p.1, p.2) (lines_stop c.args.taken c.line_ends.taken (g.S.Source.source_state c.args.source.now) (g.S.Source.source_state c.line_ends.source) (g.S.Source.source_state c.read_some.new.source) _ c.line_ends.invariant c.in_err-n.ensures.fault)

pub returns-then-n-eq0 : goal.returns-then-n-eq0
returns-then-n-eq0 g c =
    lines_end c.args.taken c.line_ends.taken c.in_ok-n.n (g.S.Source.source_state c.args.source.now) (g.S.Source.source_state c.line_ends.source) (g.S.Source.source_state c.read_some.new.source) _
    c.line_ends.invariant c.if-n-eq0.true c.in_ok-n.ensures.bytes c.in_ok-n.ensures.count (c.in_ok-n.ensures.end c.if-n-eq0.true)

pub returns-then-not-is_blank : goal.returns-then-not-is_blank
returns-then-not-is_blank g c =
    lines_other c.args.taken c.line_ends.taken c.in_ok-n.n (g.S.Source.source_state c.args.source.now) (g.S.Source.source_state c.line_ends.source) (g.S.Source.source_state c.read_some.new.source) _
    c.line_ends.invariant (omega (arith, c.in_ok-n.ensures.within.0, c.read_some.auto.buf)) c.in_ok-n.ensures.within.1 c.in_ok-n.ensures.bytes c.in_ok-n.ensures.count (search rules)

pub line_ends-preserved : goal.line_ends-preserved
line_ends-preserved g c =
    passes_more c.args.taken c.line_ends.taken c.in_ok-n.n (g.S.Source.source_state c.args.source.now) (g.S.Source.source_state c.line_ends.source) (g.S.Source.source_state c.read_some.new.source) _
    c.line_ends.invariant (omega (arith, c.in_ok-n.ensures.within.0, c.read_some.auto.buf)) c.in_ok-n.ensures.within.1 c.in_ok-n.ensures.bytes c.in_ok-n.ensures.count (search rules)
