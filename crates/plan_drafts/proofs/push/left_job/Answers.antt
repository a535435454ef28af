use Rattle.std.proofs.Common.{Some, None, ap, sym, ◌∙◌}
use Rattle.queue_model.specs.Held.{holds}
use Rattle.queue_model.specs.Sights.{sees}
use Rattle.transition_table.specs.Seen.{job_seen, stand_at}
use Rattle.plan_drafts.specs.Pushes as spec
use Rattle.plan_drafts.proofs.Reading.{job_left, moved_left, moves_one}
use Rattle.plan_drafts.proofs.push.left_job.Goals as goal

pub returns-in-Some : goal.returns-in-Some
returns-in-Some c = λ w rows is legal.
    let named = sym c.job_moved.ensures ∙ c.in_ok-id.was in
    job_left w c.args.step.now c.args.job.now is (stand_at (job_seen rows.job)) _
    (λ seen. moved_left (spec.job_moved c.args.step.now) c.in_ok-id.id (stand_at (job_seen rows.job)) (Some c.found.inside.stand) named
    (ap stand_at (sym (c.in-Some.ensures (sees w (holds w c.args.step.now)) rows legal seen)) ∙ ap (λ f. Some f.stand) (sym c.found.view_is)))
    (λ none. absurd (moves_one (spec.job_moved c.args.step.now) c.in_ok-id.id named none))

pub returns-in-None : goal.returns-in-None
returns-in-None c = λ w rows is legal.
    let named = sym c.job_moved.ensures ∙ c.in_ok-id.was in
    job_left w c.args.step.now c.args.job.now is (stand_at (job_seen rows.job)) _
    (λ seen. moved_left (spec.job_moved c.args.step.now) c.in_ok-id.id (stand_at (job_seen rows.job)) None named
    (ap stand_at (sym (c.in-None.ensures (sees w (holds w c.args.step.now)) rows legal seen))))
    (λ none. absurd (moves_one (spec.job_moved c.args.step.now) c.in_ok-id.id named none))
