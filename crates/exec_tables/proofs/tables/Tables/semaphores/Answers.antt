use Rattle.std.proofs.Common.{ap, sym, ◌∙◌, eqb, length}
use Rattle.std.specs.Cmp.Lexicographic.{pointwise, texts_ties}
use Rattle.queue_model.specs.Map as map
use Rattle.queue_model.proofs.Maps.{texts_total, exact_texts}
use Rattle.exec_tables.proofs.RowLemmas.{length_entries}
use Rattle.exec_tables.proofs.tables.Tables.semaphores.Goals as goal

pub returns : goal.returns
returns c = c.len.ensures.len ∙ sym (length_entries texts_total exact_texts (pointwise eqb) texts_ties c.self.inside.semaphores.entries c.len.ensures.unique) ∙ ap (λ s. length (map.values s.world.semaphores)) c.self.view_is
