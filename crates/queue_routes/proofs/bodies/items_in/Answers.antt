use Rattle.std.proofs.Common.{inr, rules, arith}
use Rattle.std.proofs.lemmas.Bool.Decides.{nat_tests}
use Rattle.queue_routes.proofs.BodyLemmas.{items_from-few, items_from-other}
use Rattle.queue_routes.proofs.bodies.items_in.Goals as goal
use Rattle.queue_routes.proofs.bodies.items_in.Goals.{then-is_empty-via-then-is_empty, then-is_empty-via-else-is_empty+then-len-most}

pub returns-then-is_empty-clause-exact : goal.returns-then-is_empty-clause-exact
returns-then-is_empty-clause-exact c =
    inr (rw (c.wrong_kind-then-is_empty.ensures, ← c.in-Some.ensures) (items_from-other c.args.member c.args.most c.in-Some.items.now.items (λ some few. elim c.then-is_empty.branch [ then-is_empty-via-then-is_empty w ↦ grind (arith, nat_tests) | then-is_empty-via-else-is_empty+then-len-most w ↦ grind (arith, nat_tests) ])))

pub returns-clause-exact : goal.returns-clause-exact
returns-clause-exact c =
    rw (c.deref.ensures.value, ← c.in-Some.ensures) (items_from-few c.args.member c.args.most c.in-Some.items.now.items (search rules) (search rules))
