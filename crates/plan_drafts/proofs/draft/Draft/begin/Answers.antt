use Rattle.plan_drafts.proofs.Pushing.{begun}
use Rattle.plan_drafts.proofs.draft.Draft.begin.Goals as goal

pub invariant_of-result : goal.invariant_of-result
invariant_of-result c = rw c.new.ensures.items (begun c.args.tables.now.world c.args.moment c.args.given c.requires.good c.requires.moment c.requires.above)
