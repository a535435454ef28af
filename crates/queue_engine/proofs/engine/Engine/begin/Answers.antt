use Rattle.std.proofs.Common.{◌≡◌, ap, ◌∙◌, subst, refl, sym, max, None}
use Rattle.std.proofs.lemmas.Result.{err_from_is_err_and}
use Rattle.job_states.specs.Moment.{IsMoment}
use Rattle.plan_model.specs.Books.{opened_over}
use Rattle.plan_model.specs.GoodScene.{IsGoodScene, IsWithinRanges}
use Rattle.plan_model.specs.Scenes.{Scene, scene}
use Rattle.queue_engine.specs.Calls.{Begins, StaysStanding}
use Rattle.queue_engine.specs.Running.{Store, running, store}
use Rattle.queue_engine.proofs.Beginning.{all_of, later, not_planned, still_good}
use Rattle.queue_engine.proofs.Standing.{stays}
use Rattle.queue_model.specs.Map as map
use Rattle.queue_model.specs.World.{empty}
use Rattle.queue_model.specs.declared.Numbers.{Numbers}
use Rattle.situation_model.specs.Steps.{Begin, IsInRange}
use Rattle.situation_model.proofs.Ranges.{in_any_scene}
use Rattle.queue_engine.proofs.engine.Engine.begin.Goals as goal
use Rattle.queue_engine.proofs.engine.Engine.begin.Goals.{After-plan_of}

at : (c : After-plan_of) → c.max-moment.result ≡ max c.args.now c.self.inside.book.given.moment
at c = c.max-moment.ensures ∙ ap (λ (n : Numbers). max c.args.now n.moment) c.numbers.ensures

vacant : (c : After-plan_of) → map.get c.self.inside.book.open_plans c.args.seat ≡ None
vacant c = ap (λ (s : Store). map.get s.book.open_plans c.args.seat) c.self.view_is ∙ c.requires.vacant

range : (c : After-plan_of) → IsInRange c.self.inside.config (Begin c.args.seat c.args.command c.args.now)
range c = subst (λ (s : Store). IsInRange s.settings (Begin c.args.seat c.args.command c.args.now)) (sym c.self.view_is) c.requires.range

abbrev here : After-plan_of → Scene
here c = scene c.self.inside.book c.self.inside.config c.max-moment.result

good_scene : (c : After-plan_of) → IsGoodScene (here c)
good_scene c =
    let e = c.self.inside in
    let good = c.self.invariant.0 in
    let is_moment : IsMoment c.max-moment.result = subst IsMoment (sym (at c)) (later c.args.now e.book.given.moment (range c).1 good.situation.book.moment) in
    record { book = good.situation.book; settings = good.settings; moment = is_moment }

within : (c : After-plan_of) → IsWithinRanges (here c) c.args.command
within c = in_any_scene c.self.inside.config (opened_over empty) 0 c.self.inside.book c.max-moment.result c.args.command (range c).2

pub open_plan-requires-clause-plan : goal.open_plan-requires-clause-plan
open_plan-requires-clause-plan c =
    let step = (goal.at.open_plan-requires-clause-plan c).After-plan_of in
    c.commands_may_open.ensures (here step) c.args.command c.in_ok-plan.plan c.args.seat (good_scene step) (within step) (vacant step) c.in_ok-plan.ensures

pub open_plan-requires-clause-short : goal.open_plan-requires-clause-short
open_plan-requires-clause-short c =
    let step = (goal.at.open_plan-requires-clause-short c).After-plan_of in
    c.commands_are_short.ensures (here step) c.args.command c.in_ok-plan.plan (good_scene step) (within step) c.in_ok-plan.ensures

pub invariant_of-self : goal.invariant_of-self
invariant_of-self c =
    let step = (goal.at.invariant_of-self c).After-plan_of in
    let e = c.self.inside in
    let good = c.self.invariant.0 in
    let opened = c.open_plan.ensures in (
      record {
        settings = good.settings;
        situation = still_good e.config e.journal None e.book c.args.command c.args.now c.max-moment.result (at step) c.args.seat c.in_ok-plan.plan c.in_ok-plan.ensures c.open_plan.new.book
            (c.steps_stay_good.ensures.step e.config good.settings (running (store e.config e.book e.journal) None).situation) (range step) (vacant step) good.situation c.open_plan.result opened.opened opened.free opened.kept;
      },
      opened.recorded,
    )

pub returns-in_err-plan-clause-begins : goal.returns-in_err-plan-clause-begins
returns-in_err-plan-clause-begins c = λ doubt.
    let step = (goal.at.returns-in_err-plan-clause-begins c).After-plan_of in
    let e = c.self.inside in
    let p = err_from_is_err_and c.from_residual.result c.from_residual.ensures.1 in
    subst (λ (s : Store). Begins (running s doubt) c.args.seat c.args.command c.args.now c.from_residual.result (running s doubt)) c.self.view_is
    (rw (p.1, p.2) (not_planned e.config e.journal doubt e.book c.args.command c.args.now c.max-moment.result (at step) c.in_err-plan.field-0.0 c.in_err-plan.ensures c.args.seat))

pub returns-clause-begins : goal.returns-clause-begins
returns-clause-begins c = λ doubt.
    let step = (goal.at.returns-clause-begins c).After-plan_of in
    let e = c.self.inside in
    let opened = c.open_plan.ensures in
    subst (λ (s : Store). Begins (running s doubt) c.args.seat c.args.command c.args.now c.open_plan.result (running (store e.config c.open_plan.new.book e.journal) doubt)) c.self.view_is
    (all_of e.config e.journal doubt e.book c.args.command c.args.now c.max-moment.result (at step) c.args.seat c.in_ok-plan.plan c.in_ok-plan.ensures c.open_plan.new.book c.open_plan.result opened.opened opened.free opened.refused opened.kept)

pub returns-clause-standing : goal.returns-clause-standing
returns-clause-standing c =
    let e = c.self.inside in
    let there = store e.config c.open_plan.new.book e.journal in
    subst (λ (s : Store). StaysStanding s there) c.self.view_is (stays (store e.config e.book e.journal) there c.open_plan.ensures.world refl)
