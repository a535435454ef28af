use Rattle.std.proofs.Common.{◌≡◌, [], ◌∷◌, Some, map, take}
use Rattle.std.specs.List.{slice_get}
use Rattle.job_walks.proofs.selected.names_at.Given as goal

abbrev pub invariant-loop-group : goal.invariant-loop-group
invariant-loop-group l = map (λ name. Some name ∷ []) l.found.items ≡ map (λ group. map (slice_get l.names) group.items) (take l.group-index l.groups)
