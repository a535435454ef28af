use Rattle.std.proofs.Common.{ap, sym, ◌∙◌}
use Rattle.std.specs.Prelude.{is_some}
use Rattle.queue_model.specs.Transitions.{changes}
use Rattle.transition_table.specs.Seen.{sight}
use Rattle.transition_table.proofs.table.allows.Goals as goal

pub returns-in-Dispatch : goal.returns-in-Dispatch
returns-in-Dispatch c = λ s e. c.allows_dispatch.ensures s c.in-Dispatch.id (e ∙ ap (sight s) c.in-Dispatch.is) ∙ ap (λ t. is_some (changes c.args.moment s t)) (sym c.in-Dispatch.is)

pub returns-in-Retry : goal.returns-in-Retry
returns-in-Retry c = λ s e. c.allows_retry.ensures s c.in-Retry.id (e ∙ ap (sight s) c.in-Retry.is) ∙ ap (λ t. is_some (changes c.args.moment s t)) (sym c.in-Retry.is)
