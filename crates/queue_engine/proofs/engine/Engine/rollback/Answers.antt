use Rattle.std.proofs.Common.{◌≡◌, ap, sym, refl, subst, IsSome, None, Some}
use Rattle.journal_replay.proofs.Replayed.{something}
use Rattle.plan_model.specs.Books.{Book}
use Rattle.plan_model.specs.Plans.{Plan}
use Rattle.queue_engine.specs.Calls.{RollsBack, StaysStanding}
use Rattle.queue_engine.specs.Running.{Store, running, store}
use Rattle.queue_engine.proofs.Ending.{gives_up}
use Rattle.queue_engine.proofs.Recording.{recorded_without}
use Rattle.queue_engine.proofs.Standing.{stays}
use Rattle.queue_model.specs.Map as map
use Rattle.situation_model.specs.Steps.{Rollback}
use Rattle.queue_engine.proofs.engine.Engine.rollback.Goals as goal
use Rattle.queue_engine.proofs.engine.Engine.rollback.Goals.{After-close_plan}

found : (c : After-close_plan) → (plan : Plan) × (map.get c.self.inside.book.open_plans c.args.seat ≡ Some plan)
found c = something (map.get c.self.inside.book.open_plans c.args.seat) (subst (λ (s : Store). IsSome (map.get s.book.open_plans c.args.seat)) (sym c.self.view_is) c.requires)

pub invariant_of-self : goal.invariant_of-self
invariant_of-self c =
    let e = c.self.inside in
    let s = store e.config e.book e.journal in
    let here = found (goal.at.invariant_of-self c).After-close_plan in
    let new = c.close_plan.new.self in
    let good = c.self.invariant.0 in (
      record {
        settings = good.settings;
        situation = c.steps_stay_good.ensures.step e.config good.settings (running s None).situation (running (store e.config new e.journal) None).situation (Rollback c.args.seat) tt good.situation
            (gives_up s c.args.seat here.0 here.1 new c.close_plan.ensures e.journal None);
      },
      recorded_without e.book e.records c.remove.new.self c.args.seat None c.remove.ensures.updates c.self.invariant.1 new (ap (λ (b : Book). b.open_plans) c.close_plan.ensures),
    )

pub returns-clause-gone : goal.returns-clause-gone
returns-clause-gone c = λ doubt.
    let e = c.self.inside in
    let here = found (goal.at.returns-clause-gone c).After-close_plan in
    let new = c.close_plan.new.self in
    subst (λ (s : Store). RollsBack (running s doubt) c.args.seat (running (store e.config new e.journal) doubt)) c.self.view_is
    (record { settings = refl; situation = gives_up (store e.config e.book e.journal) c.args.seat here.0 here.1 new c.close_plan.ensures e.journal doubt })

pub returns-clause-standing : goal.returns-clause-standing
returns-clause-standing c =
    let e = c.self.inside in
    let there = store e.config c.close_plan.new.self e.journal in
    subst (λ (s : Store). StaysStanding s there) c.self.view_is (stays (store e.config e.book e.journal) there (ap (λ (b : Book). b.world) c.close_plan.ensures) refl)
