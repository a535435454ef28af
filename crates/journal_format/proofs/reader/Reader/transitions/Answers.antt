use Rattle.std.proofs.lemmas.Result.{err_from_is_err_and}
use Rattle.journal_format.specs.Reading.{items}
use Rattle.journal_format.specs.Grammar.{transition_at}
use Rattle.journal_format.proofs.LoopLaws.{items_on, items_fail, items_done}
use Rattle.journal_format.proofs.reader.Reader.transitions.Goals as goal

pub returns-in_err-step : goal.returns-in_err-step
returns-in_err-step c =
    let p = err_from_is_err_and c.from_residual.result c.from_residual.ensures.1 in
    rw (p.1, p.2) (items_fail transition_at c.loop.steps.items c.args.count c.loop.counter c.loop.self.rest.now c.transition.new.self.rest.now (items transition_at c.args.count c.args.self.now.rest.now) c.in_err-step.field-0.0 c.loop-test.true c.in_err-step.ensures c.loop.invariant)

pub loop-preserved : goal.loop-preserved
loop-preserved c = rw c.in_ok-push.ensures.items (items_on transition_at c.loop.steps.items c.args.count c.loop.counter c.loop.self.rest.now c.in_ok-step.step c.transition.new.self.rest.now (items transition_at c.args.count c.args.self.now.rest.now) c.loop-test.true c.in_ok-step.ensures c.loop.invariant)

pub returns : goal.returns
returns c = items_done transition_at c.loop.steps.items c.args.count c.loop.counter c.loop.self.rest.now (items transition_at c.args.count c.args.self.now.rest.now) c.loop-test.false c.loop.invariant
