use Rattle.std.proofs.Common.{ap, sym, ◌∙◌}
use Rattle.queue_model.specs.Transitions.{changes}
use Rattle.transition_table.proofs.Cases.{together}
use Rattle.transition_table.proofs.table.changes.Goals as goal

pub returns : goal.returns
returns c = λ s e.
    let m = c.args.moment in
    let rows_are = c.rows.view_is ∙ ap (λ g. g.rows) (c.sight.view_is ∙ e) in
    let job = ap (λ r. r.job) rows_are in
    together (changes m s c.args.step.now) _ (sym (c.allows.ensures s e) ∙ c.if-not-allows.false)
    (λ rows h. λ i. record {
      job = c.job_then.ensures s rows h job i;
      semaphore = c.semaphore_then-semaphore.ensures s rows h job (ap (λ r. r.semaphore) rows_are) i;
      is_registered = c.is_registered_then.ensures m s rows h (ap (λ r. r.is_registered) rows_are) i;
      is_paused = c.is_paused_then.ensures m s rows h (ap (λ r. r.is_paused) rows_are) i;
      last_run = c.last_run_then.ensures m s rows h (ap (λ r. r.last_run) rows_are) i;
    })
