use Rattle.std.proofs.Common.{rules, ap}
use Rattle.plan_drafts.proofs.draft.Draft.enqueue.Goals as goal

pub push-requires-clause-allowed : goal.push-requires-clause-allowed
push-requires-clause-allowed c =
    c.pushes_are_allowed.ensures.enqueue c.args.self.now.moment c.args.self.now.draft (record c.args.row { id = c.self.inside.given.job }) c.args.at c.place_for-put.result c.is_fresh.ensures
    (ap (λ v. v.draft.given.job) c.self.view_is) (search rules) c.in_default.not-Away
