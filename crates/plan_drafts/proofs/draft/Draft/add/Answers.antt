use Rattle.plan_drafts.proofs.Reading.{made_more}
use Rattle.plan_drafts.proofs.draft.Draft.add.Goals as goal

pub invariant_of-self-2 : goal.invariant_of-self-2
invariant_of-self-2 c = let d = c.self.inside in
    made_more d.tables.now.world d.moment d.first d.given d.pushed.items d.rows.items c.args.self.now c.args.pushed c.note.new.numbers c.push.new.self.items c.self.invariant c.self.view_is c.requires.allowed c.requires.next c.requires.left c.note.ensures c.in_ok-push.ensures.items
