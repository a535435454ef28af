use Rattle.std.proofs.Common.{ap, ◌∙◌, rules, tests, eqb}
use Rattle.std.specs.Option.{option_map}
use Rattle.std.specs.Map.Iter.{deref_pair}
use Rattle.std.specs.Cmp.{nat_cmp_total}
use Rattle.std.specs.FinMap.{nat_cmp-IsAntisymmetric}
use Rattle.std.proofs.lemmas.Iterator.{YieldsList-from_map_by}
use Rattle.std.proofs.lemmas.Iterator.Consumers.{YieldsList-at}
use Rattle.exec_tables.specs.Next.{by_blocked_key}
use Rattle.exec_tables.proofs.NextLemmas.{next_row, rows_road}
use Rattle.exec_tables.proofs.RowLemmas.{number_ties}
use Rattle.exec_tables.proofs.tables.Tables.blocked_key_after.Goals as goal

pub returns : goal.returns
returns c =
    let place = by_blocked_key in
    next_row nat_cmp_total eqb number_ties nat_cmp-IsAntisymmetric place (λ y. y.now) c.iter.result c.args.self.now.world.jobs c.iter.ensures.apart (c.iter.ensures.rows ∙ ap (λ s. s.world.jobs) c.self.view_is) c.args.past c.least_above.result c.least_above.ensures
    (YieldsList-from_map_by _ (option_map (λ y. y.now)) (λ e. place e.0 e.1) (YieldsList-at c.map.ensures.source (rows_road deref_pair c.iter.result)) c.map.ensures.closure (λ x r q k. search (rules, tests)))
