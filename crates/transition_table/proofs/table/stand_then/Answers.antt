use Rattle.std.proofs.Common.{ap, sym, ◌∙◌}
use Rattle.queue_model.specs.Transitions.{changes}
use Rattle.transition_table.proofs.Cases.{dispatched, retried}
use Rattle.transition_table.proofs.table.stand_then.Goals as goal

pub returns-in-Dispatch : goal.returns-in-Dispatch
returns-in-Dispatch c = λ s rows h e. c.stand_put-in-Dispatch.ensures ∙ dispatched c.args.moment s c.in-Dispatch.id c.in-Dispatch.put rows (ap (changes c.args.moment s) (sym c.in-Dispatch.is) ∙ h)

pub returns-in-Retry : goal.returns-in-Retry
returns-in-Retry c = λ s rows h e. c.stand_put-in-Retry.ensures ∙ retried c.args.moment s c.in-Retry.id c.in-Retry.put rows (ap (changes c.args.moment s) (sym c.in-Retry.is) ∙ h)
