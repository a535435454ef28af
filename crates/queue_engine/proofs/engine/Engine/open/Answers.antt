use Rattle.std.proofs.Common.{None, sym, subst}
use Rattle.journal_replay.specs.Kept.{IsEitherOf}
use Rattle.plan_model.specs.Books.{Book}
use Rattle.queue_engine.specs.Running.{running, store}
use Rattle.queue_engine.proofs.Opening.{none_recorded, opened, world}
use Rattle.situation_model.specs.GoodSituation.{IsGoodSituation}
use Rattle.queue_engine.proofs.engine.Engine.open.Goals as goal

pub invariant_of-result : goal.invariant_of-result
invariant_of-result g c =
    let journal = c.in_ok-journal.journal in
    let w = c.in_ok-journal.tables.world in (
      record {
        settings = c.requires;
        situation = subst (λ (b : Book). IsGoodSituation (running (store c.args.config b journal) None).situation) (sym c.new.ensures) (c.steps_stay_good.ensures.first w c.in_ok-journal.ensures.opened.good);
      },
      none_recorded c.new.result w c.new.ensures c.new-2.result,
    )

pub returns-clause-opened : goal.returns-clause-opened
returns-clause-opened g c = opened c.new.result c.in_ok-journal.tables.world c.new.ensures c.stands_kept.ensures c.args.config c.in_ok-journal.journal _ _ c.in_ok-journal.ensures.opened

pub returns-clause-either : goal.returns-clause-either
returns-clause-either g c = subst (IsEitherOf (g.D.Disk.history c.args.disk.now)) (world c.new.result c.in_ok-journal.tables.world c.new.ensures) c.in_ok-journal.ensures.either
