use Rattle.std.proofs.Common.{◌≡◌, map, if◌then◌else◌, take}
use Rattle.std.specs.Str.{bytes_eq}
use Rattle.plan_model.specs.Counts as model
use Rattle.claim_plans.proofs.counts.in_place.Given as goal

abbrev pub invariant-loop-counted : goal.invariant-loop-counted
invariant-loop-counted l = l.after.items ≡ map (λ c. if bytes_eq c.list l.list then model.counted l.list l.count else c) (take l.counted-index l.counts)
