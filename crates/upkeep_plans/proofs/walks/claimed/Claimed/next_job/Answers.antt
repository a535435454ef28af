use Rattle.std.proofs.Common.{◌≡◌, rules, None, ◌∙◌, ap, sym}
use Rattle.std.specs.Option.{option_copied}
use Rattle.std.specs.Prelude.{drop}
use Rattle.plan_model.specs.Orders.{first_of}
use Rattle.upkeep_plans.specs.Left.{claimed_left}
use Rattle.upkeep_plans.proofs.KeyWalks.{claimed_ends, claimed_goes, goes, stops}
use Rattle.upkeep_plans.proofs.walks.claimed.Claimed.next_job.Goals as goal

pub returns-in_err-id-clause-first : goal.returns-in_err-id-clause-first
returns-in_err-id-clause-first c =
    let s = c.self.inside in
    let none : c.from_residual.result ≡ None = search rules in
    ap option_copied none ∙ (stops (claimed_left s.tables.now.world s.pid s.past) (claimed_ends s.tables.now.world s.pid s.past c.claim_after.result c.claim_after.ensures (search rules))).0 ∙ ap first_of c.self.view_is

pub returns-in_err-id-clause-left : goal.returns-in_err-id-clause-left
returns-in_err-id-clause-left c =
    let s = c.self.inside in
    sym c.self.view_is ∙ (stops (claimed_left s.tables.now.world s.pid s.past) (claimed_ends s.tables.now.world s.pid s.past c.claim_after.result c.claim_after.ensures (search rules))).1 ∙ ap (drop 1) c.self.view_is

pub returns-clause-first : goal.returns-clause-first
returns-clause-first c =
    let s = c.self.inside in
    let next = claimed_goes s.tables.now.world s.pid s.past c.claim_after.result c.claim_after.ensures c.in_ok-id.id (search rules) in
    c.job.ensures ∙ next.1 ∙ (goes next.0 (claimed_left s.tables.now.world s.pid s.past) (claimed_left s.tables.now.world s.pid c.in_ok-id.id) next.2).0 ∙ ap first_of c.self.view_is

pub returns-clause-left : goal.returns-clause-left
returns-clause-left c =
    let s = c.self.inside in
    let next = claimed_goes s.tables.now.world s.pid s.past c.claim_after.result c.claim_after.ensures c.in_ok-id.id (search rules) in
    (goes next.0 (claimed_left s.tables.now.world s.pid s.past) (claimed_left s.tables.now.world s.pid c.in_ok-id.id) next.2).1 ∙ ap (drop 1) c.self.view_is
