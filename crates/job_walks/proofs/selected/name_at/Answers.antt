use Rattle.std.proofs.Common.{◌≡◌, ◌<◌, ℕ, rules, arith, [], ◌∷◌, Some, map, length, slice_index_or, ap, sym, ◌∙◌, refl, subst}
use Rattle.std.proofs.lemmas.Option.{slice_get-get_or}
use Rattle.std.specs.List.{slice_get}
use Rattle.job_walks.proofs.selected.name_at.Goals as goal

pub bounds-names-group : goal.bounds-names-group
bounds-names-group c = subst (λ g. slice_index_or g 0 0 < length c.args.names.now) (sym c.requires.1) c.requires.2
