use Rattle.std.proofs.Common.{◌≡◌, ◌≤◌, ℕ, nat_le, true, rules, arith, None, Some, ◌∙◌, ap, sym}
use Rattle.std.specs.Option.{option_copied}
use Rattle.std.specs.Prelude.{drop}
use Rattle.plan_model.specs.Orders.{first_of}
use Rattle.upkeep_plans.specs.Left.{due_left}
use Rattle.upkeep_plans.proofs.DueWalk.{due_ends, due_late, due_goes}
use Rattle.upkeep_plans.proofs.KeyWalks.{goes, stops}
use Rattle.upkeep_plans.proofs.walks.due.Due.next_job.Goals as goal

within : (a m : ℕ) → a ≤ m → nat_le a m ≡ true
within a m le = grind (arith, le)

pub returns-in_err-place-clause-first : goal.returns-in_err-place-clause-first
returns-in_err-place-clause-first c =
    let s = c.self.inside in
    let none : c.from_residual.result ≡ None = search rules in
    ap option_copied none ∙ (stops (due_left s.tables.now.world s.moment s.past) (due_ends s.tables.now.world s.moment c.self.invariant s.past c.due_after.result c.due_after.ensures (search rules))).0 ∙ ap first_of c.self.view_is

pub returns-in_err-place-clause-left : goal.returns-in_err-place-clause-left
returns-in_err-place-clause-left c =
    let s = c.self.inside in
    sym c.self.view_is ∙ (stops (due_left s.tables.now.world s.moment s.past) (due_ends s.tables.now.world s.moment c.self.invariant s.past c.due_after.result c.due_after.ensures (search rules))).1 ∙ ap (drop 1) c.self.view_is

pub returns-then-self-place-clause-first : goal.returns-then-self-place-clause-first
returns-then-self-place-clause-first c =
    let s = c.self.inside in
    (stops (due_left s.tables.now.world s.moment s.past) (due_late s.tables.now.world s.moment c.self.invariant s.past c.due_after.result c.due_after.ensures c.in_ok-place.place (search rules) c.if-self-place.true)).0 ∙ ap first_of c.self.view_is

pub returns-then-self-place-clause-left : goal.returns-then-self-place-clause-left
returns-then-self-place-clause-left c =
    let s = c.self.inside in
    sym c.self.view_is ∙ (stops (due_left s.tables.now.world s.moment s.past) (due_late s.tables.now.world s.moment c.self.invariant s.past c.due_after.result c.due_after.ensures c.in_ok-place.place (search rules) c.if-self-place.true)).1 ∙ ap (drop 1) c.self.view_is

pub returns-clause-first : goal.returns-clause-first
returns-clause-first c =
    let s = c.self.inside in
    let next = due_goes s.tables.now.world s.moment c.self.invariant s.past c.due_after.result c.due_after.ensures c.in_ok-place.place (search rules) (within c.in_ok-place.place.0 s.moment c.if-self-place.false) in
    c.job.ensures ∙ next.1 ∙ (goes next.0 (due_left s.tables.now.world s.moment s.past) (due_left s.tables.now.world s.moment (Some c.in_ok-place.place)) next.2).0 ∙ ap first_of c.self.view_is

pub returns-clause-left : goal.returns-clause-left
returns-clause-left c =
    let s = c.self.inside in
    let next = due_goes s.tables.now.world s.moment c.self.invariant s.past c.due_after.result c.due_after.ensures c.in_ok-place.place (search rules) (within c.in_ok-place.place.0 s.moment c.if-self-place.false) in
    (goes next.0 (due_left s.tables.now.world s.moment s.past) (due_left s.tables.now.world s.moment (Some c.in_ok-place.place)) next.2).1 ∙ ap (drop 1) c.self.view_is
