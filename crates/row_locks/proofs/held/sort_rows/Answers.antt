use Rattle.std.proofs.Common.{rules}
use Rattle.std.specs.Ordering.{is_lt}
use Rattle.std.proofs.lemmas.List.Sorted.{answers_always, ranks_by}
use Rattle.row_locks.specs.Locks.{held_cmp}
use Rattle.row_locks.proofs.Orders.{held_total}
use Rattle.row_locks.proofs.held.sort_rows.Goals as goal

pub returns-clause-in_order : goal.returns-clause-in_order
returns-clause-in_order c = c.sort_unstable_by.ensures.sorted (λ a b. is_lt (held_cmp a b)) (ranks_by held_total (λ h. h)) (answers_always _ _ _ (λ f a r f' k. search rules))
