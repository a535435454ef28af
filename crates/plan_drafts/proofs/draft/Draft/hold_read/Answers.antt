use Rattle.plan_drafts.proofs.Reading.{held_by, ok_then, rows_more}
use Rattle.plan_drafts.proofs.draft.Draft.hold_read.Goals as goal

pub returns : goal.returns
returns c = let d = c.self.inside in
    ok_then c.hold_all.result
    (λ e. rows_more d.tables.now.world d.moment d.first d.given d.pushed.items d.rows.items c.hold_all.new.rows.items c.of.result c.args.step.now c.args.self.now c.self.view_is e
    (held_by c.args.self.now.draft.world c.args.step.now c.args.job.now c.of.result c.requires.read c.of.ensures.held))
    c.hold_all.ensures
