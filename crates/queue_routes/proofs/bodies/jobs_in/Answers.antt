use Rattle.std.proofs.Common.{add-one, length-append, arith}
use Rattle.std.proofs.lemmas.List.Elements.{All-push}
use Rattle.std.proofs.lemmas.Result.{err_from_is_err_and}
use Rattle.job_envelope.specs.Ranges.{IsInRange}
use Rattle.queue_routes.specs.Bodies.{job_in}
use Rattle.queue_routes.proofs.EachLemmas.{goes_on, ends, is_done}
use Rattle.queue_routes.proofs.bodies.jobs_in.Goals as goal

pub returns-in_err-job_in-clause-exact : goal.returns-in_err-job_in-clause-exact
returns-in_err-job_in-clause-exact c =
    let p = err_from_is_err_and c.from_residual.result c.from_residual.ensures.1 in
    rw (p.1, p.2) (ends job_in c.args.items.now c.index-items-index.result c.loop-index.index c.loop-index.jobs.items _ c.in_err-job_in.field-0.0 (omega arith) (rw (← c.index-items-index.is) c.in_err-job_in.ensures.exact) c.loop-index.invariant.0)

pub loop-index-preserved : goal.loop-index-preserved
loop-index-preserved c = (
  rw (c.in_ok-push.ensures.items, add-one) (goes_on job_in c.args.items.now c.index-items-index.result c.loop-index.index c.loop-index.jobs.items _ c.in_ok-job_in.field-0 (omega arith) (rw (← c.index-items-index.is) c.in_ok-job_in.ensures.exact) c.loop-index.invariant.0),
  rw (c.in_ok-push.ensures.items, length-append) (omega arith),
  rw c.in_ok-push.ensures.items (All-push IsInRange c.loop-index.jobs.items c.in_ok-job_in.field-0 c.loop-index.invariant.2 c.in_ok-job_in.ensures.range),
)

pub returns-clause-exact : goal.returns-clause-exact
returns-clause-exact c =
    rw c.of.ensures (is_done job_in c.args.items.now c.loop-index.index c.loop-index.jobs.items _ (omega arith) c.loop-index.invariant.0)
