use Rattle.book_core.proofs.KeptLemmas.{kept_at_first}
use Rattle.book_core.proofs.book.Book.new.Goals as goal

pub invariant_of-result : goal.invariant_of-result
invariant_of-result c = kept_at_first c.args.tables.world c.new.result c.new-2.result.entries c.numbers-given.result c.args.tables.spare c.new.ensures c.new-2.ensures.empty c.numbers-given.ensures c.new-2.ensures.ordered (c.books_stay_good.ensures.opened c.args.tables.world c.requires)
