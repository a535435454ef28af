use Rattle.std.proofs.Common.{◌≡◌, rules, None, Some, ◌∙◌, ap, sym}
use Rattle.std.specs.Option.{option_copied}
use Rattle.std.specs.Prelude.{drop}
use Rattle.plan_model.specs.Orders.{first_of, is_blocked_at}
use Rattle.job_walks.proofs.Steps.{ends, goes}
use Rattle.job_walks.proofs.waiting.Waiting.next_job.Goals as goal

pub returns-in_err-place-clause-first : goal.returns-in_err-place-clause-first
returns-in_err-place-clause-first c =
    let none : c.from_residual.result ≡ None = search rules in
    ap option_copied none ∙ (ends c.self.inside.tables.now.world c.self.invariant (is_blocked_at c.self.inside.key.now) c.self.inside.past c.blocked_after.result c.blocked_after.ensures (search rules)).0 ∙ ap first_of c.self.view_is

pub returns-in_err-place-clause-left : goal.returns-in_err-place-clause-left
returns-in_err-place-clause-left c = sym c.self.view_is ∙ (ends c.self.inside.tables.now.world c.self.invariant (is_blocked_at c.self.inside.key.now) c.self.inside.past c.blocked_after.result c.blocked_after.ensures (search rules)).1 ∙ ap (drop 1) c.self.view_is

pub returns-clause-first : goal.returns-clause-first
returns-clause-first c = c.job.ensures ∙ (goes c.self.inside.tables.now.world c.self.invariant (is_blocked_at c.self.inside.key.now) c.self.inside.past c.blocked_after.result c.blocked_after.ensures c.in_ok-place.place (search rules)).0 ∙ ap first_of c.self.view_is

pub returns-clause-left : goal.returns-clause-left
returns-clause-left c = (goes c.self.inside.tables.now.world c.self.invariant (is_blocked_at c.self.inside.key.now) c.self.inside.past c.blocked_after.result c.blocked_after.ensures c.in_ok-place.place (search rules)).1 ∙ ap (drop 1) c.self.view_is
