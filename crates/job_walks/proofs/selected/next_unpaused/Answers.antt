use Rattle.std.proofs.Common.{◌≡◌, rules, true, false, None, Some, ap, sym, ◌∙◌}
use Rattle.std.specs.Prelude.{drop, is_some}
use Rattle.queue_model.specs.Map as map
use Rattle.plan_model.specs.Orders.{first_of}
use Rattle.job_walks.proofs.Steps.{every_ends, every_takes, every_skips, fewer}
use Rattle.job_walks.proofs.selected.next_unpaused.Goals as goal

pub returns-then-not-is_paused-clause-first : goal.returns-then-not-is_paused-clause-first
returns-then-not-is_paused-clause-first c =
    let there : map.get c.args.tables.now.world.jobs c.in-Some.place.1 ≡ Some c.in_ok-job.job.now = search rules in
    let paused : false ≡ is_some (map.get c.args.tables.now.world.paused c.in_ok-job.job.now.row.queue) = search rules in
    (every_takes c.args.tables.now.world c.requires c.loop-place.past c.ready_any_after.result c.ready_any_after.ensures c.in-Some.place c.in_ok-job.job.now c.in-Some.is there paused).0 ∙ ap first_of c.loop-place.invariant

pub returns-then-not-is_paused-clause-left : goal.returns-then-not-is_paused-clause-left
returns-then-not-is_paused-clause-left c =
    let there : map.get c.args.tables.now.world.jobs c.in-Some.place.1 ≡ Some c.in_ok-job.job.now = search rules in
    let paused : false ≡ is_some (map.get c.args.tables.now.world.paused c.in_ok-job.job.now.row.queue) = search rules in
    (every_takes c.args.tables.now.world c.requires c.loop-place.past c.ready_any_after.result c.ready_any_after.ensures c.in-Some.place c.in_ok-job.job.now c.in-Some.is there paused).1 ∙ ap (drop 1) c.loop-place.invariant

pub loop-place-smaller : goal.loop-place-smaller
loop-place-smaller c =
    let there : map.get c.args.tables.now.world.jobs c.in-Some.place.1 ≡ Some c.in_ok-job.job.now = search rules in
    fewer c.args.tables.now.world c.requires c.loop-place.past c.ready_any_after.result c.ready_any_after.ensures c.in-Some.place c.in_ok-job.job.now c.in-Some.is there

pub loop-place-preserved : goal.loop-place-preserved
loop-place-preserved c =
    let there : map.get c.args.tables.now.world.jobs c.in-Some.place.1 ≡ Some c.in_ok-job.job.now = search rules in
    let paused : true ≡ is_some (map.get c.args.tables.now.world.paused c.in_ok-job.job.now.row.queue) = search rules in
    every_skips c.args.tables.now.world c.requires c.loop-place.past c.ready_any_after.result c.ready_any_after.ensures c.in-Some.place c.in_ok-job.job.now c.in-Some.is there paused ∙ c.loop-place.invariant

pub returns-clause-first : goal.returns-clause-first
returns-clause-first c =
    let none : c.ready_any_after.result ≡ None = search rules in
    (every_ends c.args.tables.now.world c.requires c.loop-place.past c.ready_any_after.result c.ready_any_after.ensures none).0 ∙ ap first_of c.loop-place.invariant

pub returns-clause-left : goal.returns-clause-left
returns-clause-left c =
    let none : c.ready_any_after.result ≡ None = search rules in
    (every_ends c.args.tables.now.world c.requires c.loop-place.past c.ready_any_after.result c.ready_any_after.ensures none).1 ∙ ap (drop 1) c.loop-place.invariant
