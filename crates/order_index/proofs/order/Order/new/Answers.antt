use Rattle.std.proofs.Common.{[], refl, sym, subst, arith}
use Rattle.std.specs.List.Sorted.{IsStrictlySortedBy}
use Rattle.order_index.specs.Pages.{IsKept, Paged}
use Rattle.order_index.proofs.order.Order.new.Goals as goal

nothing_kept : IsKept (record { pages = []; ready = 0 }) 0 0
unfolding IsStrictlySortedBy
nothing_kept = record { in_order = tt; filled = tt; counted = refl; room = omega arith; fits = omega arith }

pub invariant_of-result : goal.invariant_of-result
invariant_of-result c = subst (λ (paged : Paged). IsKept paged 0 0) (sym c.new.ensures) nothing_kept
