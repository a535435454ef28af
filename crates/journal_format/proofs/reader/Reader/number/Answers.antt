use Rattle.journal_format.proofs.WholeNumbers.{read_whole}
use Rattle.journal_format.proofs.reader.Reader.number.Goals as goal

pub returns-then-n-most-clause-reads : goal.returns-then-n-most-clause-reads
returns-then-n-most-clause-reads c = read_whole c.args.width c.args.least c.args.most c.in-Some.n c.args.self.now.rest.now c.in-Some.rest.now c.requires.order c.requires.most c.if-least-n.true c.if-n-most.true c.in-Some.ensures
