use Rattle.std.proofs.Common.{ap, ◌∙◌, rules, tests}
use Rattle.std.specs.Map.Iter.{deref_pair}
use Rattle.std.proofs.lemmas.Iterator.{YieldsList-from_map}
use Rattle.std.proofs.lemmas.Iterator.Consumers.{YieldsList-at}
use Rattle.exec_tables.specs.Next.{by_priority, is_blocked_at}
use Rattle.exec_tables.proofs.NextLemmas.{next_numbered, rows_road}
use Rattle.exec_tables.proofs.tables.Tables.blocked_after.Goals as goal

pub returns : goal.returns
returns c =
    let place = by_priority (is_blocked_at c.args.key.now) in
    next_numbered c.args.past c.least_above.result place c.iter.result c.args.self.now.world.jobs c.iter.ensures.apart (c.iter.ensures.rows ∙ ap (λ s. s.world.jobs) c.self.view_is) c.least_above.ensures
    (YieldsList-from_map _ (λ e. place e.0 e.1) (YieldsList-at c.map.ensures.source (rows_road deref_pair c.iter.result)) c.map.ensures.closure (λ x r q k. search (rules, tests)))
