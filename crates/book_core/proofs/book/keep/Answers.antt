use Rattle.std.proofs.Common.{arith}
use Rattle.book_core.specs.declared.counts.Counted.TheVariants.{Any}
use Rattle.book_core.proofs.CountLemmas.{all_counted, no_more_than_planned, planned_more}
use Rattle.book_core.proofs.book.keep.Goals as goal

pub overflow_sub-count_in : goal.overflow_sub-count_in
overflow_sub-count_in c = omega (arith, no_more_than_planned Any c.args.opened.now.entries)

pub returns-in-Ok-clause-more : goal.returns-in-Ok-clause-more
returns-in-Ok-clause-more c = planned_more c.args.opened.now.entries c.insert.new.self.entries c.args.seat c.args.plan c.in-Ok.ensures.entries c.requires.vacant c.in-Ok.ensures.was_ordered

pub returns-in-Ok-clause-few : goal.returns-in-Ok-clause-few
returns-in-Ok-clause-few c =
    omega (arith, all_counted c.args.opened.now.entries, planned_more c.args.opened.now.entries c.insert.new.self.entries c.args.seat c.args.plan c.in-Ok.ensures.entries c.requires.vacant c.in-Ok.ensures.was_ordered)
