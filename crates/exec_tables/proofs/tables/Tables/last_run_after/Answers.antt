use Rattle.std.proofs.Common.{ap, ◌∙◌, rules, tests, eqb}
use Rattle.std.specs.Option.{option_map}
use Rattle.std.specs.Map.Iter.{deref_pair}
use Rattle.std.specs.Cmp.Lexicographic.{pointwise, texts_ties}
use Rattle.std.proofs.lemmas.Iterator.{YieldsList-from_map_by}
use Rattle.std.proofs.lemmas.Iterator.Consumers.{YieldsList-at}
use Rattle.std.proofs.Common.{ℕ}
use Rattle.queue_model.proofs.Maps.{texts_total, exact_texts}
use Rattle.exec_tables.specs.Next.{by_key}
use Rattle.exec_tables.proofs.NextLemmas.{next_row, rows_road}
use Rattle.exec_tables.proofs.tables.Tables.last_run_after.Goals as goal

pub returns : goal.returns
returns c =
    let place = by_key {V = ℕ} in
    next_row texts_total (pointwise eqb) texts_ties exact_texts place (λ y. y.now) c.iter.result c.args.self.now.world.last_runs c.iter.ensures.apart (c.iter.ensures.rows ∙ ap (λ s. s.world.last_runs) c.self.view_is) c.args.task c.least_above.result c.least_above.ensures
    (YieldsList-from_map_by _ (option_map (λ y. y.now)) (λ e. place e.0 e.1) (YieldsList-at c.map.ensures.source (rows_road deref_pair c.iter.result)) c.map.ensures.closure (λ x r q k. search (rules, tests)))
