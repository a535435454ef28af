use Rattle.std.proofs.Common.{ap, sym, ◌∙◌, length}
use Rattle.queue_model.specs.Map as map
use Rattle.exec_tables.proofs.RowLemmas.{number_length}
use Rattle.exec_tables.proofs.jobs.Jobs.len.Goals as goal

pub returns-clause-all : goal.returns-clause-all
returns-clause-all c = c.len.ensures.len ∙ sym (number_length c.self.inside.rows.entries c.len.ensures.unique) ∙ ap (λ t. length (map.values t.rows)) c.self.view_is
