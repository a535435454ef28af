use Rattle.std.proofs.Common.{◌-◌, ◌≡◌, drop, length, true, false, rules, subst, sym, take}
use Rattle.std.specs.List.Sorted.{IsPartitionPoint, IsPartitionedBy}
use Rattle.std.specs.Ordering.{is_lt, nat_cmp}
use Rattle.std.specs.Cmp.Lexicographic.{slice_cmp}
use Rattle.std.proofs.lemmas.List.Sorted.{IsPartitionPoint-from_clause}
use Rattle.queue_selector.specs.Groups.{selects}
use Rattle.queue_selector.specs.Places.{prefix_of}
use Rattle.queue_selector.proofs.Runs.{rest_is, run_is}
use Rattle.queue_selector.proofs.Sorted.{below_first, selected_first}
use Rattle.queue_selector.proofs.groups.selected_run.Goals as goal

pub returns-clause-run : goal.returns-clause-run
returns-clause-run c =
    let names = c.args.names.now in
    let item = c.args.item.now in
    let start = c.partition_point-start.result in
    let count = c.partition_point-count.result in
    let rest = rest_is names start in
    let first = IsPartitionPoint-from_clause (λ name. is_lt (slice_cmp nat_cmp name (prefix_of item))) names start c.partition_point-start.ensures.partitioned (below_first names (prefix_of item) c.requires) (λ a r q k. search rules) in
    let more = IsPartitionPoint-from_clause (selects item) (take (length names - start) (drop start names)) count c.partition_point-count.ensures.partitioned
    (subst (λ xs. IsPartitionedBy (selects item) xs) (sym rest) (selected_first names item start c.requires first.1)) (λ a r q k. search rules) in
    run_is names item start count c.partition_point-start.ensures.bound (rw rest at c.partition_point-count.ensures.bound) first
    (subst (λ xs. IsPartitionPoint (λ name. selects item name ≡ true) (λ name. selects item name ≡ false) xs count) rest more)
