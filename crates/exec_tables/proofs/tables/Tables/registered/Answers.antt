use Rattle.std.proofs.Common.{ap, sym, ◌∙◌, length}
use Rattle.queue_model.specs.Map as map
use Rattle.exec_tables.proofs.RowLemmas.{number_length}
use Rattle.exec_tables.proofs.tables.Tables.registered.Goals as goal

pub returns : goal.returns
returns c = c.len.ensures.len ∙ sym (number_length c.self.inside.processes.entries c.len.ensures.unique) ∙ ap (λ s. length (map.values s.world.processes)) c.self.view_is
