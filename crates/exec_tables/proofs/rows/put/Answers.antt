use Rattle.exec_tables.proofs.RowLemmas.{put_in}
use Rattle.exec_tables.proofs.rows.put.Goals as goal

pub returns-clause-rows : goal.returns-clause-rows
returns-clause-rows g c = put_in g.met.K.Ord.total g.K.PartialEq.eq g.met.K.Ord.matches_eq g.met.K.Key.exact c.args.rows.now.entries c.insert.new.self.entries c.args.key c.args.row c.in-Ok.ensures.updates.0
