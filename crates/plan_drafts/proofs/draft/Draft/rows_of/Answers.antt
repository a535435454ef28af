use Rattle.std.proofs.Common.{◌++◌, ap, ◌∙◌}
use Rattle.queue_model.specs.Held.{held_rows}
use Rattle.plan_drafts.proofs.Reading.{held_by}
use Rattle.plan_drafts.proofs.draft.Draft.rows_of.Goals as goal

pub returns : goal.returns
returns c =
    c.in_ok-hold_all.ensures
    ∙ ap (λ rows. rows ++ held_rows c.of.result) c.new-rows.ensures.items
    ∙ ap held_rows (held_by c.args.self.now.draft.world c.args.step.now c.job_read-job.result c.of.result c.job_read-job.ensures c.of.ensures.held)
