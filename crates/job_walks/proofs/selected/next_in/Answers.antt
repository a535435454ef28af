use Rattle.std.proofs.Common.{◌≡◌, rules, None, Some, ◌∙◌, ap}
use Rattle.std.specs.Option.{option_copied}
use Rattle.exec_tables.specs.Next.{is_ready_in}
use Rattle.job_walks.proofs.Steps.{ends, goes}
use Rattle.job_walks.proofs.selected.next_in.Goals as goal

pub returns-in_err-place-clause-first : goal.returns-in_err-place-clause-first
returns-in_err-place-clause-first c =
    let none : c.from_residual.result ≡ None = search rules in
    ap option_copied none ∙ (ends c.args.tables.now.world c.requires (is_ready_in c.args.queue.now) c.args.past.now c.ready_after.result c.ready_after.ensures (search rules)).0

pub returns-in_err-place-clause-left : goal.returns-in_err-place-clause-left
returns-in_err-place-clause-left c = (ends c.args.tables.now.world c.requires (is_ready_in c.args.queue.now) c.args.past.now c.ready_after.result c.ready_after.ensures (search rules)).1

pub returns-clause-first : goal.returns-clause-first
returns-clause-first c = c.job.ensures ∙ (goes c.args.tables.now.world c.requires (is_ready_in c.args.queue.now) c.args.past.now c.ready_after.result c.ready_after.ensures c.in_ok-place.place (search rules)).0

pub returns-clause-left : goal.returns-clause-left
returns-clause-left c = (goes c.args.tables.now.world c.requires (is_ready_in c.args.queue.now) c.args.past.now c.ready_after.result c.ready_after.ensures c.in_ok-place.place (search rules)).1
