use Rattle.std.proofs.Common.{rules, sym, ◌∙◌}
use Rattle.std.proofs.lemmas.Fn.{dedup_same}
use Rattle.std.proofs.lemmas.List.Sorted.{answers_always, ranks_by}
use Rattle.std.specs.Ordering.{is_lt}
use Rattle.row_locks.specs.Locks.{held_cmp}
use Rattle.row_locks.proofs.Orders.{held_total}
use Rattle.plan_drafts.proofs.InOrder.{left_is, same_row, same_rows}
use Rattle.plan_drafts.proofs.finish.in_order.Goals as goal

pub returns : goal.returns
returns c =
    let sorted = c.sort_unstable_by.ensures.sorted (λ a b. is_lt (held_cmp a b)) (ranks_by held_total (λ h. h)) (answers_always _ _ _ (λ f a r f' k. search rules)) in
    dedup_same _ same_row _ (λ x y b f' x' y' k. search rules) _ _ c.dedup_by.ensures.filtered
    ∙ left_is _ sorted
    ∙ sym (same_rows _ _ c.sort_unstable_by.ensures.permutation)
