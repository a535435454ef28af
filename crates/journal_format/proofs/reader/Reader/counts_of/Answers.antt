use Rattle.std.proofs.Common.{[]}
use Rattle.std.proofs.lemmas.Result.{err_from_is_err_and}
use Rattle.journal_format.specs.Grammar.{counts_after}
use Rattle.journal_format.proofs.LoopLaws.{counts_on, counts_fail, counts_done}
use Rattle.journal_format.proofs.reader.Reader.counts_of.Goals as goal

pub returns-in_err-counted : goal.returns-in_err-counted
returns-in_err-counted c =
    let p = err_from_is_err_and c.from_residual.result c.from_residual.ensures.1 in
    rw (p.1, p.2) (counts_fail c.deref.result.now c.loop.counts.items c.deref.ensures.value c.args.len c.loop.counter c.loop.self.rest.now c.counted.new.self.rest.now (counts_after [] c.args.len c.args.self.now.rest.now) c.in_err-counted.field-0.0 c.loop-test.true c.in_err-counted.ensures c.loop.invariant)

pub loop-preserved : goal.loop-preserved
loop-preserved c = rw c.in_ok-push.ensures.items (counts_on c.deref.result.now c.loop.counts.items c.deref.ensures.value c.args.len c.loop.counter c.loop.self.rest.now c.in_ok-counted.counted c.counted.new.self.rest.now (counts_after [] c.args.len c.args.self.now.rest.now) c.loop-test.true c.in_ok-counted.ensures c.loop.invariant)

pub returns : goal.returns
returns c = counts_done c.loop.counts.items c.args.len c.loop.counter c.loop.self.rest.now (counts_after [] c.args.len c.args.self.now.rest.now) c.loop-test.false c.loop.invariant
