use Rattle.std.proofs.Common.{◌++◌, ap, ◌∙◌}
use Rattle.queue_model.specs.Held.{held_rows}
use Rattle.plan_drafts.proofs.Reading.{all_held}
use Rattle.plan_drafts.proofs.push.hold_all.Goals as goal

pub returns : goal.returns
returns c =
    all_held _ c.args.rows.now.items c.hold_row.new.rows.items c.hold_row-2.new.rows.items c.hold_row-3.new.rows.items c.hold_row-4.new.rows.items c.hold_row-5.new.rows.items
    c.job_row.result c.in_ok-key_row.field-0 c.process_row.result c.in_ok-queue_row.field-0 c.in_ok-task_row.field-0
    c.job_row.ensures c.in_ok-key_row.ensures c.process_row.ensures c.in_ok-queue_row.ensures c.in_ok-task_row.ensures
    c.in_ok-hold_row.ensures c.in_ok-hold_row-2.ensures c.in_ok-hold_row-3.ensures c.in_ok-hold_row-4.ensures c.in_ok-hold_row-5.ensures
    ∙ ap (λ h. c.args.rows.now.items ++ held_rows h) c.held.view_is
