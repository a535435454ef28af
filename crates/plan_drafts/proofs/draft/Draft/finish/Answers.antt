use Rattle.std.proofs.Common.{rules, ◌≡◌, None, ap, sym, ◌∙◌}
use Rattle.plan_model.specs.Rows.{in_order}
use Rattle.plan_drafts.specs.Left.{steps_of}
use Rattle.plan_drafts.proofs.Finishing.{begun_there, good_plan, scene_of, spent_in}
use Rattle.plan_drafts.proofs.draft.Draft.finish.Goals as goal

pub new-requires : goal.new-requires
new-requires c = let d = c.self.inside in
    let none : c.numbers_spent.result ≡ None = search rules in
    let steps : c.in_ok-steps.steps ≡ steps_of d.pushed.items = search rules in
    let spent = spent_in (scene_of c.args.self) c.args.self d.first d.given (begun_there c.args.self) (sym (ap (λ v. v.begun.given) c.self.view_is)) (sym (ap (λ v. v.draft.given) c.self.view_is)) in
    good_plan c.args.self c.args.answer c.requires.told (spent ∙ sym c.numbers_spent.ensures ∙ none) d.moment c.in_ok-steps.steps c.in_order.result.items
    (ap (λ v. v.moment) c.self.view_is) (steps ∙ ap (λ v. v.draft.steps) c.self.view_is) (c.in_order.ensures ∙ ap (λ v. in_order v.draft.rows) c.self.view_is)
