use Rattle.std.proofs.Common.{◌≡◌, true, ◌++◌, take}
use Rattle.std.specs.List.{flat_map, list_all}
use Rattle.job_states.specs.Ranges.{has_texts}
use Rattle.journal_format.specs.Spelling.{transaction}
use Rattle.journal_format.proofs.writer.put_transactions.Given as goal

abbrev pub invariant-loop-tx : goal.invariant-loop-tx
invariant-loop-tx l = (l.out.items ≡ l.fn.out.items ++ flat_map transaction (take l.tx-index l.txs)) × (list_all (λ tx. list_all has_texts tx.steps) (take l.tx-index l.txs) ≡ true)
