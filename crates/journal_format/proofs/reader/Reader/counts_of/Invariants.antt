use Rattle.std.proofs.Common.{◌≡◌, ◌-◌, map, []}
use Rattle.journal_format.specs.Grammar.{counts_after}
use Rattle.journal_format.proofs.LoopLaws.{with_items}
use Rattle.journal_format.proofs.reader.Reader.counts_of.Given as goal

abbrev pub invariant-loop : goal.invariant-loop
invariant-loop l = with_items l.counts.items (counts_after (map (λ c. c.list) l.counts.items) (l.len - l.counter) l.self.rest.now) ≡ counts_after [] l.len l.fn.self.rest.now
