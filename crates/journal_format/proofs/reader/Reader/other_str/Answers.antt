use Rattle.std.proofs.Common.{arith, sym, ◌∙◌}
use Rattle.journal_format.proofs.LoopLaws.{other_stops}
use Rattle.journal_format.proofs.reader.Reader.other_str.Goals as goal

pub returns-then-is_counted : goal.returns-then-is_counted
returns-then-is_counted c =
    other_stops c.args.before.now c.args.len c.args.self.now.rest.now c.in_ok-text.text.now _ (let h = c.in_ok-text.ensures.within in omega arith) c.in_ok-text.ensures.reads (sym c.is_counted.ensures ∙ c.if-is_counted.true)
