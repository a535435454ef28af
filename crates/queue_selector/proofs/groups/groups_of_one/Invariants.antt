use Rattle.std.proofs.Common.{◌≡◌, [], ◌∷◌, map, take}
use Rattle.queue_selector.proofs.groups.groups_of_one.Given as goal

abbrev pub invariant-loop-place : goal.invariant-loop-place
invariant-loop-place l = map (λ group. group.items) l.groups.items ≡ map (λ place. place ∷ []) (take l.place-index l.places)
