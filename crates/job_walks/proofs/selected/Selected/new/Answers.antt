use Rattle.std.proofs.Common.{◌≡◌, rules, true, ap, sym, ◌∙◌}
use Rattle.job_walks.proofs.Selections.{selected_all, selected_by_name}
use Rattle.job_walks.proofs.selected.Selected.new.Goals as goal
use Rattle.job_walks.proofs.selected.Selected.new.Goals.{then-polls_all, else-polls_all+in_ok-queues_of}
use Rattle.job_walks.specs.Left.{left}
use Rattle.std.proofs.Common.{None}

pub returns : goal.returns
returns c = elim c.if-polls_all.branch [
  | then-polls_all w ↦ ap (λ q. left c.args.tables.now.world q None) w.queues-is ∙ selected_all c.args.tables.now.world c.args.list.now (search rules)
  | else-polls_all+in_ok-queues_of w ↦ ap (λ q. left c.args.tables.now.world q None) w.queues-is ∙ selected_by_name c.args.tables.now.world c.args.list.now w.in_ok-queues_of.field-0.items (search rules)
]
