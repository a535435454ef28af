use Rattle.std.proofs.Common.{ap, sym, subst, ◌∙◌, rules, tests, eqb}
use Rattle.std.specs.Cmp.Lexicographic.{pointwise, texts_ties}
use Rattle.std.specs.Option.{option_map}
use Rattle.std.specs.List.{IsDistinct}
use Rattle.std.specs.Map.{keys_of}
use Rattle.std.specs.Map.Iter.{deref_pair}
use Rattle.std.proofs.lemmas.Iterator.{YieldsList-from_map_by}
use Rattle.std.proofs.lemmas.Iterator.Consumers.{YieldsList-at}
use Rattle.queue_model.proofs.Maps.{texts_total, exact_texts}
use Rattle.queue_model.specs.Map.{from_entries}
use Rattle.exec_tables.specs.Next.{by_key}
use Rattle.exec_tables.proofs.NameLemmas.{if_ok, sorted_places}
use Rattle.exec_tables.proofs.NextLemmas.{rows_road, sorted_rows}
use Rattle.exec_tables.proofs.tables.Tables.paused.Goals as goal

pub returns : goal.returns
returns c =
    let place = by_key {V = Unit {0}} in
    if_ok c.sorted_names.result (λ names h. sorted_places h.0 names.items (sorted_rows texts_total (pointwise eqb) texts_ties exact_texts place (λ y. y.now) c.iter.result c.args.self.now.world.paused (subst (λ l. IsDistinct (pointwise eqb) (keys_of l)) (sym c.iter.ensures.rest) c.iter.ensures.unique) (ap from_entries c.iter.ensures.rest ∙ ap (λ s. s.world.paused) c.self.view_is) h.0 h.1
    (YieldsList-from_map_by _ (option_map (λ y. y.now)) (λ e. place e.0 e.1) (YieldsList-at c.map.ensures.source (rows_road deref_pair c.iter.result)) c.map.ensures.closure (λ x r q k. search (rules, tests)))) h.2) c.sorted_names.ensures
