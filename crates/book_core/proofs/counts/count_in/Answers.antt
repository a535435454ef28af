use Rattle.std.proofs.Common.{◌≡◌, ◌∷◌, ap, arith}
use Rattle.std.specs.List.{count_by}
use Rattle.std.specs.Map.{values_of}
use Rattle.std.specs.Map.Iter.{deref_pair}
use Rattle.std.proofs.lemmas.List.Sums.{sum_by-cons}
use Rattle.std.proofs.lemmas.Map.Iter.{rest_more}
use Rattle.book_core.specs.Counts.{count_in, is_counted}
use Rattle.book_core.specs.declared.opened.Opened.{Opened}
use Rattle.book_core.proofs.CountLemmas.{no_more_than_planned}
use Rattle.book_core.proofs.counts.count_in.Goals as goal

pub overflow_add-sum : goal.overflow_add-sum
overflow_add-sum c =
    let counted = c.args.counted in
    let turn = rest_more deref_pair c.loop-plan.plan-iterator c.next.new.self c.next.result (c.in-Some.field-0-0, c.in-Some.plan) c.in-Some.is c.next.ensures.steps in
    let left : count_in counted c.loop-plan.plan-iterator ≡ count_in counted ((c.in-Some.field-0-0.now, c.in-Some.plan.now) ∷ c.next.new.self) = ap (count_in counted) turn in
    let here : c.count_steps-sum.result ≡ count_by (is_counted counted) c.in-Some.plan.now.tx.steps = cc in
    omega (arith, left, here, sum_by-cons (λ (plan : Opened). count_by (is_counted counted) plan.tx.steps) c.in-Some.plan.now (values_of c.next.new.self), no_more_than_planned counted c.args.opened.now.entries)
