use Rattle.std.proofs.Common.{None, ap, is_some, sym, ◌∙◌, subst}
use Rattle.job_states.specs.declared.transition.Transaction.{Transaction}
use Rattle.plan_model.specs.Books.{Book}
use Rattle.queue_engine.specs.Recorded.{AreRecorded, IsRecordOf}
use Rattle.queue_engine.proofs.Recording.{recorded_still, recorded_with}
use Rattle.queue_model.specs.Replay.{after}
use Rattle.queue_engine.proofs.engine.open_plan.Goals as goal

pub record_of-requires-clause-legal : goal.record_of-requires-clause-legal
record_of-requires-clause-legal c = let w = c.args.book.now.world in (w, ap (λ (tx : Transaction). is_some (after w tx)) c.tx.ensures ∙ ap is_some c.requires.plan.legal.1.legal)

pub returns-in-Ok-open_plan-clause-recorded : goal.returns-in-Ok-open_plan-clause-recorded
returns-in-Ok-open_plan-clause-recorded c =
    let is = subst (λ (tx : Transaction). IsRecordOf tx c.in-Ok.record) c.tx.ensures c.in-Ok.ensures in
    subst (λ (b : Book). AreRecorded b c.put.new.records) (sym c.in-Ok-open_plan.ensures.opened)
    (recorded_with c.args.book.now c.args.records.now c.put.new.records c.args.seat c.in-Ok.record c.in-Ok-put.ensures.kept c.requires.recorded c.requires.plan.vacant c.args.plan is)

pub returns-in-Err-clause-recorded : goal.returns-in-Err-clause-recorded
returns-in-Err-clause-recorded c =
    let b = c.args.book.now in
    let vacant = c.requires.plan.vacant in
    let kept = recorded_still b c.args.records.now c.put.new.records c.args.seat c.in-Ok.record c.in-Ok-put.ensures.kept c.requires.recorded vacant in
    subst (λ (n : Book). AreRecorded n c.remove.new.self) (sym c.in-Err.ensures.kept) (recorded_still b c.put.new.records c.remove.new.self c.args.seat None c.remove.ensures.updates kept vacant)
