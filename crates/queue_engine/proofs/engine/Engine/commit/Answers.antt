use Rattle.std.proofs.Common.{◌≡◌, ap, sym, subst, IsSome, None, Some, Ok, Err}
use Rattle.journal_replay.specs.Kept.{text_of}
use Rattle.journal_replay.proofs.Replayed.{something}
use Rattle.plan_model.specs.Books.{Book}
use Rattle.plan_model.specs.Plans.{Plan}
use Rattle.queue_engine.specs.Calls.{EndsPlan}
use Rattle.queue_engine.specs.Recorded.{AreRecorded, IsRecordOf}
use Rattle.queue_engine.specs.Running.{Store, running, store}
use Rattle.queue_engine.specs.Standing.{IsStanding}
use Rattle.queue_engine.proofs.Ending.{commits, commits_to, faults, gives_up}
use Rattle.queue_engine.proofs.Recording.{record_text, recorded_without}
use Rattle.queue_model.specs.Map as map
use Rattle.situation_model.specs.Steps.{Commit, Rollback}
use Rattle.queue_engine.proofs.engine.Engine.commit.Given.{Over}
use Rattle.queue_engine.proofs.engine.Engine.commit.Goals as goal
use Rattle.queue_engine.proofs.engine.Engine.commit.Goals.{After-remove-record}

found : (g : Over) (c : After-remove-record g) → (plan : Plan) × (map.get c.self.inside.book.open_plans c.args.seat ≡ Some plan)
found g c = something (map.get c.self.inside.book.open_plans c.args.seat) (subst (λ (s : Store). IsSome (map.get s.book.open_plans c.args.seat)) (sym c.self.view_is) c.requires.open)

record_at : (g : Over) (c : After-remove-record g) (plan : Plan) → map.get c.self.inside.book.open_plans c.args.seat ≡ Some plan → IsRecordOf plan.tx c.remove-record.result
record_at g c plan there = subst (IsRecordOf plan.tx) (sym c.remove-record.ensures.value) (c.self.invariant.1 c.args.seat plan there)

standing : (g : Over) (c : After-remove-record g) → IsStanding (store c.self.inside.config c.self.inside.book c.self.inside.journal) (g.D.Disk.history c.args.disk.now)
standing g c = subst (λ (s : Store). IsStanding s (g.D.Disk.history c.args.disk.now)) (sym c.self.view_is) c.requires.standing

recorded : (g : Over) (c : After-remove-record g) (new : Book) → new.open_plans ≡ map.remove c.self.inside.book.open_plans c.args.seat → AreRecorded new c.remove-record.new.self
recorded g c = recorded_without c.self.inside.book c.self.inside.records c.remove-record.new.self c.args.seat None c.remove-record.ensures.updates c.self.invariant.1

pub append_any-requires-clause-record_text : goal.append_any-requires-clause-record_text
append_any-requires-clause-record_text g c =
    let step = (goal.at.append_any-requires-clause-record_text g c).After-remove-record in
    let plan = found g step in
    record_text plan.0.tx c.remove-record.result (record_at g step plan.0 plan.1)

pub append_any-requires-clause-read : goal.append_any-requires-clause-read
append_any-requires-clause-read g c = (standing g (goal.at.append_any-requires-clause-read g c).After-remove-record).1.read

pub append_any-requires-clause-standing : goal.append_any-requires-clause-standing
append_any-requires-clause-standing g c = let on = standing g (goal.at.append_any-requires-clause-standing g c).After-remove-record in (on.1.payloads, (text_of on.0, on.1.journal))

pub invariant_of-self : goal.invariant_of-self
invariant_of-self g c =
    let e = c.self.inside in
    let s = store e.config e.book e.journal in
    let new = c.apply_plan.new.self in
    let good = c.self.invariant.0 in (
      record {
        settings = good.settings;
        situation = c.steps_stay_good.ensures.step e.config good.settings (running s None).situation (running (store e.config new e.journal) None).situation (Commit c.args.seat) tt good.situation
            (commits_to s c.args.seat new c.apply_plan.result c.apply_plan.ensures e.journal);
      },
      recorded g (goal.at.invariant_of-self g c).After-remove-record new (ap (λ (b : Book). b.open_plans) c.apply_plan.ensures.book),
    )

pub invariant_of-self-in-Err : goal.invariant_of-self-in-Err
invariant_of-self-in-Err g c =
    let step = (goal.at.invariant_of-self-in-Err g c).After-remove-record in
    let e = c.self.inside in
    let s = store e.config e.book e.journal in
    let plan = found g step in
    let new = c.close_plan.new.self in
    let good = c.self.invariant.0 in (
      record {
        settings = good.settings;
        situation = c.steps_stay_good.ensures.step e.config good.settings (running s None).situation (running (store e.config new e.journal) None).situation (Rollback c.args.seat) tt good.situation
            (gives_up s c.args.seat plan.0 plan.1 new c.close_plan.ensures e.journal None);
      },
      recorded g step new (ap (λ (b : Book). b.open_plans) c.close_plan.ensures),
    )

pub returns-in-Ok-clause-ends : goal.returns-in-Ok-clause-ends
returns-in-Ok-clause-ends g c =
    let step = (goal.at.returns-in-Ok-clause-ends g c).After-remove-record in
    let e = c.self.inside in
    let before = g.D.Disk.history c.args.disk.now in
    let after = g.D.Disk.history c.append_any.new.disk in
    let new = c.apply_plan.new.self in
    let journal = c.append_any.new.journal in
    let applies = c.apply_plan.ensures in
    subst (λ (s : Store). EndsPlan c.args.seat s before (Ok c.apply_plan.result) (store e.config new journal) after) c.self.view_is
    (commits c.stands_kept.ensures (store e.config e.book e.journal) c.args.seat before after new c.apply_plan.result applies
    c.remove-record.result (record_at g step applies.plan applies.opened) journal c.in-Ok.ensures.appended)

pub returns-in-Err-clause-ends : goal.returns-in-Err-clause-ends
returns-in-Err-clause-ends g c =
    let step = (goal.at.returns-in-Err-clause-ends g c).After-remove-record in
    let e = c.self.inside in
    let before = g.D.Disk.history c.args.disk.now in
    let after = g.D.Disk.history c.append_any.new.disk in
    let new = c.close_plan.new.self in
    let journal = c.append_any.new.journal in
    let plan = found g step in
    let legal = (c.self.invariant.0.situation.book.plans c.args.seat plan.0 plan.1).legal in
    subst (λ (s : Store). EndsPlan c.args.seat s before (Err c.in-Err.fault) (store e.config new journal) after) c.self.view_is
    (faults c.stands_kept.ensures (store e.config e.book e.journal) c.args.seat before after plan.0 plan.1 legal.0 legal.1.legal new c.close_plan.ensures
    c.remove-record.result (record_at g step plan.0 plan.1) journal c.in-Err.fault c.in-Err.ensures.appended)
