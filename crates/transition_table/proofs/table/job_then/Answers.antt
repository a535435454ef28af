use Rattle.std.proofs.Common.{◌≡◌, Some, None, Option, ap, sym, ◌∙◌, refl}
use Rattle.queue_model.specs.declared.Job.{Job}
use Rattle.std.specs.Option.{option_copied}
use Rattle.transition_table.specs.Seen.{job_seen, stand_at, limited_then}
use Rattle.transition_table.proofs.Cases.{limits, whole}
use Rattle.transition_table.proofs.table.job_then.Goals as goal

pub returns-in-Some : goal.returns-in-Some
returns-in-Some c = λ s rows h e.
    whole rows.job c.in-Some.stand (option_copied c.limited_then.result) (sym c.in-Some.is ∙ c.stand_then.ensures s rows h e)
    (λ j is. c.limited_then.ensures.same ∙ ap (limited_then c.args.step.now) e ∙ limits c.args.moment s c.args.step.now rows j h is)

pub returns-in-None : goal.returns-in-None
returns-in-None c = λ s rows h e. by rows.job (sym c.in-None.is ∙ c.stand_then.ensures s rows h e)
  where
    by : (o : Option Job) → None ≡ stand_at (job_seen o) → None ≡ job_seen o
    by None e = refl
    by (Some j) e = cc
