use Rattle.std.proofs.Common.{◌==◌, not, filter, None, Some, ap, sym, ◌∙◌, subst}
use Rattle.std.specs.List.{IsDistinct}
use Rattle.std.specs.Map.{keys_of}
use Rattle.queue_model.specs.Map as map
use Rattle.queue_model.specs.Sights.{without_job}
use Rattle.exec_tables.specs.Runs.{AreRuns, named, same_run}
use Rattle.exec_tables.proofs.RowLemmas.{mapped_none}
use Rattle.exec_tables.proofs.RunLemmas.{are_runs_left, forgotten, none_forgotten}
use Rattle.exec_tables.proofs.runs.Runs.forget.Goals as goal

pub returns-then-is_none-clause-recurring : goal.returns-then-is_none-clause-recurring
returns-then-is_none-clause-recurring c =
    let is = c.self.inside in
    sym (ap (λ r. r.recurring) c.self.view_is) ∙ none_forgotten is.last.entries is.recurring.entries (map.from_entries is.jobs.entries) c.args.id c.self.invariant (sym c.find.ensures ∙ mapped_none _ c.find.result c.if-is_none.ensures)
    ∙ ap (λ r. without_job r.recurring (Some c.args.id) None) c.self.view_is

pub invariant_of-self : goal.invariant_of-self
invariant_of-self c =
    let is = c.self.inside in
    subst (λ l. AreRuns is.last.entries l (map.from_entries c.remove.new.rows.entries)) (sym c.drop_of.ensures.left)
    (subst (λ j. AreRuns is.last.entries (filter (λ e. not (e.1 == c.args.id)) is.recurring.entries) j) (sym c.remove.ensures.rows)
    (are_runs_left is.last.entries is.recurring.entries (map.from_entries is.jobs.entries) c.args.id c.self.invariant (subst (λ l. IsDistinct same_run (keys_of l)) c.drop_of.ensures.left c.drop_of.ensures.apart)))

pub returns-clause-recurring : goal.returns-clause-recurring
returns-clause-recurring c =
    let is = c.self.inside in
    ap (λ l. map.from_entries (named is.last.entries l)) c.drop_of.ensures.left ∙ forgotten is.last.entries is.recurring.entries (map.from_entries is.jobs.entries) c.args.id c.self.invariant
    ∙ ap (λ r. without_job r.recurring (Some c.args.id) None) c.self.view_is
