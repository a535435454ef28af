use Rattle.std.proofs.Common.{ap, refl, subst, rules, tests}
use Rattle.std.specs.Option.{option_map}
use Rattle.std.specs.Map.Iter.{deref_pair}
use Rattle.std.proofs.lemmas.Iterator.{YieldsList, YieldsList-from_map_by}
use Rattle.std.proofs.lemmas.Iterator.Consumers.{YieldsList-at}
use Rattle.queue_model.proofs.Maps.{runs_total, exact_runs}
use Rattle.exec_tables.specs.Next.{by_row, run_row_cmp}
use Rattle.exec_tables.specs.Runs.{named, row_at}
use Rattle.exec_tables.proofs.NextLemmas.{next_row, rows_road}
use Rattle.exec_tables.proofs.RunLemmas.{is_run, named_apart, named_rows}
use Rattle.exec_tables.proofs.runs.Runs.execution_after.Goals as goal

pub returns : goal.returns
returns c =
    let last = c.self.inside.last.entries in
    let es = c.self.inside.recurring.entries in
    let kept = c.self.invariant in
    next_row runs_total is_run (λ a b. refl) exact_runs by_row (λ x. ((x.task.now, x.time), x.id)) (named last es) c.args.self.now.recurring (named_apart last es kept.tasks kept.places kept.runs) (ap (λ r. r.recurring) c.self.view_is)
    {Q = run_row_cmp} c.args.past c.least_above.result c.least_above.ensures
    (subst (YieldsList _ (option_map (λ x. ((x.task.now, x.time), x.id))) _) (named_rows last es kept.places)
    (YieldsList-from_map_by _ (option_map (λ x. ((x.task.now, x.time), x.id))) (λ e. row_at last e.0.0 e.0.1 e.1) (YieldsList-at c.map.ensures.source (subst (YieldsList _ deref_pair _) c.iter-all.ensures.rest (rows_road deref_pair c.iter-all.result))) c.map.ensures.closure (λ x r q k. search (rules, tests))))
