use Rattle.std.proofs.Common.{ap, sym, subst, ◌∙◌, rules, tests, eqb}
use Rattle.std.specs.Option.{option_map}
use Rattle.std.specs.List.{IsDistinct}
use Rattle.std.specs.Map.{keys_of}
use Rattle.std.specs.Map.Iter.{deref_pair}
use Rattle.std.specs.Cmp.Lexicographic.{pointwise, texts_ties}
use Rattle.std.proofs.lemmas.Iterator.{YieldsList-from_map_by}
use Rattle.std.proofs.lemmas.Iterator.Consumers.{YieldsList-at}
use Rattle.semaphores.specs.Semaphore.{Semaphore}
use Rattle.queue_model.proofs.Maps.{texts_total, exact_texts}
use Rattle.queue_model.specs.Map.{from_entries}
use Rattle.exec_tables.specs.Next.{by_key}
use Rattle.exec_tables.proofs.NextLemmas.{next_row, rows_road}
use Rattle.exec_tables.proofs.tables.Tables.semaphore_after.Goals as goal

pub returns : goal.returns
returns c =
    let place = by_key {V = Semaphore} in
    next_row texts_total (pointwise eqb) texts_ties exact_texts place (λ y. y.now) c.iter.result c.args.self.now.world.semaphores (subst (λ l. IsDistinct (pointwise eqb) (keys_of l)) (sym c.iter.ensures.rest) c.iter.ensures.unique) (ap from_entries c.iter.ensures.rest ∙ ap (λ s. s.world.semaphores) c.self.view_is) c.args.past c.least_above.result c.least_above.ensures
    (YieldsList-from_map_by _ (option_map (λ y. y.now)) (λ e. place e.0 e.1) (YieldsList-at c.map.ensures.source (rows_road deref_pair c.iter.result)) c.map.ensures.closure (λ x r q k. search (rules, tests)))
