use Rattle.std.proofs.Common.{ap, sym, ◌∙◌}
use Rattle.std.specs.Vec.Iter.{into_iter_items}
use Rattle.queue_model.specs.Replay.{steps}
use Rattle.exec_tables.proofs.Judging.{stops}
use Rattle.exec_tables.proofs.tables.Tables.try_apply.Goals as goal

pub returns-then-not-take_in-clause-legal : goal.returns-then-not-take_in-clause-legal
returns-then-not-take_in-clause-legal c =
    let m = c.args.tx.moment in
    let w = c.args.self.now.world in
    let all = c.into_iter-step-iterator.ensures.into_iter_gives.0 ∙ c.into_vec-step-items.ensures in
    stops w c.loop-step.self.world m c.in-Some.step (into_iter_items c.next.new.self) (into_iter_items c.loop-step.step-iterator) c.args.tx.steps
    (c.loop-step.invariant.legal ∙ ap (steps w m) all) c.in-Some.ensures.steps.0 (sym c.if-not-take_in.true ∙ c.take_in.ensures.legal)
