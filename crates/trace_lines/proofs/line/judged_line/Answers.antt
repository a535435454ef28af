use Rattle.std.proofs.Common.{inr, arith}
use Rattle.trace_lines.proofs.LineLemmas.{judged_line-words, judged_line-other}
use Rattle.trace_lines.proofs.line.judged_line.Goals as goal

pub returns-in_default-clause-exact : goal.returns-in_default-clause-exact
returns-in_default-clause-exact c = inr (judged_line-other c.args.bytes.now c.in_default.ensures.cases.0)

pub returns-clause-exact : goal.returns-clause-exact
returns-clause-exact c =
    let words = rw (c.deref.ensures.value, c.in_ok-parts_of.ensures, c.in-Ok.ensures.cases.0) at c.line_of_words.ensures.exact in
    rw (judged_line-words c.args.bytes.now (omega arith) c.in-Ok.ensures.cases.1) words
