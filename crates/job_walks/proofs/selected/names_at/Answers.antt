use Rattle.std.proofs.Common.{◌≡◌, ◌<◌, ◌∷◌, [], length, rules, sym, subst, ap, ◌∙◌}
use Rattle.job_walks.specs.Places.{IsOneOf}
use Rattle.job_walks.proofs.selected.names_at.Goals as goal

pub name_at-requires : goal.name_at-requires
name_at-requires c =
    let one : IsOneOf c.args.names.now c.group-item.result.items = subst (λ g. IsOneOf c.args.names.now g.items) (sym c.group-item.is) (c.requires c.loop-group.group-index c.group-item.result c.loop-group-test.true) in
    subst (IsOneOf c.args.names.now) (sym c.deref.ensures.value) one
