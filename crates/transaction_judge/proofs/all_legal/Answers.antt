use Rattle.std.proofs.Common.{◌+◌, ◌∙◌}
use Rattle.transaction_judge.proofs.Trail.{judged_next, judged_no}
use Rattle.transaction_judge.proofs.all_legal.Goals as goal

pub loop-at-preserved : goal.loop-at-preserved
loop-at-preserved c =
    judged_next c.args.tables.now.world c.args.moment c.args.steps.now c.loop-at.at c.index-steps-at.result c.allows_after.result c.loop-at-test.true c.index-steps-at.is c.loop-at.invariant c.allows_after.ensures ∙ c.if-not-allows_after.false

pub returns-then-not-allows_after : goal.returns-then-not-allows_after
returns-then-not-allows_after c =
    judged_no c.args.tables.now.world c.args.moment c.args.steps.now (c.loop-at.at + 1)
    (judged_next c.args.tables.now.world c.args.moment c.args.steps.now c.loop-at.at c.index-steps-at.result c.allows_after.result c.loop-at-test.true c.index-steps-at.is c.loop-at.invariant c.allows_after.ensures ∙ c.if-not-allows_after.true)
