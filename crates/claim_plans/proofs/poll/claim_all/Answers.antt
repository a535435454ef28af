use Rattle.std.proofs.Common.{◌≡◌, ◌∷◌, ◌+◌, drop, map as mapped, IsSome, ◌∙◌, subst}
use Rattle.queue_model.specs.Map as map
use Rattle.queue_model.proofs.Steps.{same_Some}
use Rattle.claim_plans.proofs.Claiming.{all_claimed, can_rest, ready_first, room_first}
use Rattle.claim_plans.proofs.Taking.{left_at}
use Rattle.claim_plans.proofs.poll.claim_all.Goals as goal

pub push-requires-clause-allowed : goal.push-requires-clause-allowed
push-requires-clause-allowed c =
    let d = c.loop-job.draft in
    let j = c.job-item.result.now in
    let left = drop c.loop-job.job-index (mapped (λ x. x.now) c.args.jobs.now) in
    let rest = drop (c.loop-job.job-index + 1) (mapped (λ x. x.now) c.args.jobs.now) in
    let first : left ≡ j ∷ rest = left_at (λ x. x.now) c.args.jobs.now c.loop-job.job-index c.job-item.result c.loop-job-test.true c.job-item.is in
    let can = c.loop-job.invariant.left in
    let here = ready_first d d c.args.pid j left rest first can in
    c.pushes_are_allowed.ensures.claim d.moment j.row.id d.draft j here.found c.args.pid here.ready can.process (room_first d d c.args.pid j left rest first can)

pub push-requires-clause-known : goal.push-requires-clause-known
push-requires-clause-known c =
    let d = c.loop-job.draft in
    let j = c.job-item.result.now in
    let left = drop c.loop-job.job-index (mapped (λ x. x.now) c.args.jobs.now) in
    let rest = drop (c.loop-job.job-index + 1) (mapped (λ x. x.now) c.args.jobs.now) in
    let first : left ≡ j ∷ rest = left_at (λ x. x.now) c.args.jobs.now c.loop-job.job-index c.job-item.result c.loop-job-test.true c.job-item.is in
    let here = ready_first d d c.args.pid j left rest first c.loop-job.invariant.left in
    λ id same. subst (λ n. IsSome (map.get d.begun.world.jobs n)) (same_Some j.row.id id same) here.known

pub loop-job-preserved : goal.loop-job-preserved
loop-job-preserved c =
    let d = c.loop-job.draft in
    let j = c.job-item.result.now in
    let left = drop c.loop-job.job-index (mapped (λ x. x.now) c.args.jobs.now) in
    let rest = drop (c.loop-job.job-index + 1) (mapped (λ x. x.now) c.args.jobs.now) in
    let first : left ≡ j ∷ rest = left_at (λ x. x.now) c.args.jobs.now c.loop-job.job-index c.job-item.result c.loop-job-test.true c.job-item.is in
    let can = c.loop-job.invariant.left in
    let here = ready_first d d c.args.pid j left rest first can in
    let allowed = c.pushes_are_allowed.ensures.claim d.moment j.row.id d.draft j here.found c.args.pid here.ready can.process (room_first d d c.args.pid j left rest first can) in
    let after = c.in_ok-push.ensures in
    record {
      left = can_rest d c.push.new.self c.args.pid j left rest first can after allowed;
      all = all_claimed d c.push.new.self c.args.pid j left rest first can after ∙ c.loop-job.invariant.all;
    }
