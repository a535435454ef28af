use Rattle.std.proofs.Common.{sym, ◌∙◌}
use Rattle.exec_tables.proofs.RowLemmas.{found}
use Rattle.exec_tables.proofs.rows.find.Goals as goal

pub returns : goal.returns
returns g c = c.get.ensures.value ∙ sym (found g.met.K.Ord.total g.K.PartialEq.eq g.met.K.Ord.matches_eq c.args.rows.now.entries c.args.key.now)
