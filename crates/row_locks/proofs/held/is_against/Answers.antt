use Rattle.std.proofs.Common.{arith, rules}
use Rattle.std.specs.Ordering.{is_lt}
use Rattle.std.proofs.lemmas.Bool.{ltb-true}
use Rattle.std.proofs.lemmas.List.Sorted.{IsPartitionPoint-from_clause}
use Rattle.job_states.specs.RowOrder.{row_cmp}
use Rattle.job_states.specs.declared.row.Row.{Row}
use Rattle.job_states.specs.declared.row.Mode.{Mode}
use Rattle.row_locks.specs.Asked.{row_of}
use Rattle.row_locks.proofs.Against.{against_first, against_none, below_first}
use Rattle.row_locks.proofs.held.is_against.Goals as goal

pub returns-then-first-rows : goal.returns-then-first-rows
returns-then-first-rows c =
    let rows = c.args.rows.now in
    let row = row_of c.args.row in
    let point = IsPartitionPoint-from_clause (λ (h : Row × Mode). is_lt (row_cmp h.0 row)) rows c.partition_point-first.result c.partition_point-first.ensures.partitioned (below_first rows row c.requires) (λ a r q k. search rules) in
    let iff = against_first rows row c.args.mode c.partition_point-first.result c.index-rows-first.result c.requires point c.if-first-rows.true c.index-rows-first.is in
    (λ unfit. iff.0 (c.is_unfit.ensures.0 unfit), λ against. c.is_unfit.ensures.1 (iff.1 against))

pub returns-else-first-rows : goal.returns-else-first-rows
returns-else-first-rows c =
    let rows = c.args.rows.now in
    let row = row_of c.args.row in
    let point = IsPartitionPoint-from_clause (λ (h : Row × Mode). is_lt (row_cmp h.0 row)) rows c.partition_point-first.result c.partition_point-first.ensures.partitioned (below_first rows row c.requires) (λ a r q k. search rules) in
    (λ less. absurd (omega (arith, ltb-true _ _ less, c.if-first-rows.false)), λ against. absurd (against_none rows row c.args.mode c.partition_point-first.result point c.if-first-rows.false against))
