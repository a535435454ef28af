use Rattle.std.proofs.Common.{◌≡◌, ◌-◌}
use Rattle.journal_format.specs.Reading.{items}
use Rattle.journal_format.specs.Grammar.{transaction_at}
use Rattle.journal_format.proofs.LoopLaws.{with_items}
use Rattle.journal_format.proofs.reader.Reader.transactions.Given as goal

abbrev pub invariant-loop : goal.invariant-loop
invariant-loop l = with_items l.txs.items (items transaction_at (l.count - l.counter) l.self.rest.now) ≡ items transaction_at l.count l.fn.self.rest.now
