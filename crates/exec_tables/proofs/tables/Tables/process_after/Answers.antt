use Rattle.std.proofs.Common.{ap, sym, subst, ◌∙◌, rules, tests, eqb, Some}
use Rattle.std.specs.List.{IsDistinct}
use Rattle.std.specs.Map.{keys_of}
use Rattle.std.specs.Map.Iter.{deref_pair}
use Rattle.std.proofs.lemmas.Iterator.{YieldsList-from_map}
use Rattle.std.proofs.lemmas.Iterator.Consumers.{YieldsList-at}
use Rattle.queue_model.specs.declared.Process.{Process}
use Rattle.queue_model.specs.Map.{from_entries}
use Rattle.exec_tables.specs.Next.{by_key}
use Rattle.exec_tables.proofs.NextLemmas.{next_numbered, rows_road}
use Rattle.exec_tables.proofs.tables.Tables.process_after.Goals as goal

pub returns : goal.returns
returns c =
    let place = by_key {V = Process} in
    next_numbered (Some c.args.pid) c.least_above.result place c.iter.result c.args.self.now.world.processes (subst (λ l. IsDistinct eqb (keys_of l)) (sym c.iter.ensures.rest) c.iter.ensures.unique) (ap from_entries c.iter.ensures.rest ∙ ap (λ s. s.world.processes) c.self.view_is) c.least_above.ensures
    (YieldsList-from_map _ (λ e. place e.0 e.1) (YieldsList-at c.map.ensures.source (rows_road deref_pair c.iter.result)) c.map.ensures.closure (λ x r q k. search (rules, tests)))
