use Rattle.exec_tables.proofs.RowLemmas.{taken_out}
use Rattle.exec_tables.proofs.rows.remove.Goals as goal

pub returns-clause-rows : goal.returns-clause-rows
returns-clause-rows g c = taken_out g.met.K.Ord.total g.K.PartialEq.eq g.met.K.Ord.matches_eq g.met.K.Key.exact c.args.rows.now.entries c.swap_remove.new.self.entries c.args.key.now c.swap_remove.ensures.updates.0
