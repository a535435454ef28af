use Rattle.std.proofs.Common.{arith, List, length, refl, subst, ◌∙◌}
use Rattle.std.proofs.lemmas.Option.{slice_get_read, slice_get_within, get_or_from_slice_get}
use Rattle.seat_lock.specs.Shown.{PassView}
use Rattle.lock_tests.specs.Counts.{IsAdded}
use Rattle.lock_tests.proofs.counting.add_in_threads.Goals as goal

pub for_each_mut-requires-clause-accepts : goal.for_each_mut-requires-clause-accepts
for_each_mut-requires-clause-accepts g c κs within i p l is =
    let all : List PassView = c.args.passes.now in
    ((let m = c.requires.some.1 in omega arith), c.requires.ready i p.now (slice_get_read all (length all) i p.now refl l is))

pub returns-clause-added : goal.returns-clause-added
returns-clause-added g c i p q a b =
    let did = (c.for_each_mut.ensures i p (slice_get_within c.args.passes.now i p a)).1 in
    subst (λ (z : PassView × PassView). IsAdded c.args.times z.0 z.1)
    (λ k. ((did.argument_is ∙ get_or_from_slice_get c.args.passes.now i p p a) k, (did.left ∙ get_or_from_slice_get c.for_each_mut.new.s i q p b) k)) did.call
