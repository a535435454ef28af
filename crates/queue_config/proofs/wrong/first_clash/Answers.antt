use Rattle.std.proofs.Common.{◌≡◌, ◌+◌, true, false, cond, Some, take, drop, sym, ap, ◌∙◌}
use Rattle.std.specs.List.{list_any}
use Rattle.queue_config.specs.Named.{first_clash}
use Rattle.queue_config.specs.Wrong.{clash}
use Rattle.queue_config.proofs.ClashLemmas.{clash_step, clash_end}
use Rattle.queue_config.proofs.wrong.first_clash.Goals as goal

pub returns-then-clashes : goal.returns-then-clashes
returns-then-clashes c =
    let xs = c.args.classes.now in
    let x = c.index-classes-i.result in
    let among : list_any (λ earlier. clash earlier x) (take c.loop-i.i xs) ≡ true = sym c.clashes.ensures ∙ c.if-clashes.true in
    sym (clash_step clash xs c.loop-i.i x x c.loop-i-test.true c.index-classes-i.is ∙ ap (λ b. cond b (Some c.loop-i.i) (first_clash clash (take (c.loop-i.i + 1) xs) (drop (c.loop-i.i + 1) xs))) among) ∙ c.loop-i.invariant

pub loop-i-preserved : goal.loop-i-preserved
loop-i-preserved c =
    let xs = c.args.classes.now in
    let x = c.index-classes-i.result in
    let among : list_any (λ earlier. clash earlier x) (take c.loop-i.i xs) ≡ false = sym c.clashes.ensures ∙ c.if-clashes.false in
    sym (clash_step clash xs c.loop-i.i x x c.loop-i-test.true c.index-classes-i.is ∙ ap (λ b. cond b (Some c.loop-i.i) (first_clash clash (take (c.loop-i.i + 1) xs) (drop (c.loop-i.i + 1) xs))) among) ∙ c.loop-i.invariant

pub returns : goal.returns
returns c = sym (clash_end clash c.args.classes.now c.loop-i.i c.loop-i-test.false) ∙ c.loop-i.invariant
