use Rattle.std.proofs.Common.{add-one, length-append, arith}
use Rattle.std.proofs.lemmas.List.Elements.{All-push}
use Rattle.std.proofs.lemmas.Result.{err_from_is_err_and}
use Rattle.job_states.specs.Length.{IsName}
use Rattle.queue_routes.specs.Bodies.{queue_in}
use Rattle.queue_routes.proofs.EachLemmas.{goes_on, ends, is_done}
use Rattle.queue_routes.proofs.bodies.queues_in.Goals as goal

pub returns-in_err-queue_in-clause-exact : goal.returns-in_err-queue_in-clause-exact
returns-in_err-queue_in-clause-exact c =
    let p = err_from_is_err_and c.from_residual.result c.from_residual.ensures.1 in
    rw (p.1, p.2) (ends queue_in c.args.items.now c.item-item.result c.loop-item.item-index c.loop-item.queues.items _ c.in_err-queue_in.field-0.0 (omega arith) (rw (← c.item-item.is) c.in_err-queue_in.ensures.exact) c.loop-item.invariant.0)

pub loop-item-preserved : goal.loop-item-preserved
loop-item-preserved c = (
  rw (c.in_ok-push.ensures.items, add-one) (goes_on queue_in c.args.items.now c.item-item.result c.loop-item.item-index c.loop-item.queues.items _ c.in_ok-queue_in.field-0 (omega arith) (rw (← c.item-item.is) c.in_ok-queue_in.ensures.exact) c.loop-item.invariant.0),
  rw (c.in_ok-push.ensures.items, length-append) (omega arith),
  rw c.in_ok-push.ensures.items (All-push IsName c.loop-item.queues.items c.in_ok-queue_in.field-0 c.loop-item.invariant.2 c.in_ok-queue_in.ensures.name),
)

pub returns-clause-exact : goal.returns-clause-exact
returns-clause-exact c =
    rw c.of.ensures (is_done queue_in c.args.items.now c.loop-item.item-index c.loop-item.queues.items _ (omega arith) c.loop-item.invariant.0)
