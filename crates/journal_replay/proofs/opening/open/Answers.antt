use Rattle.std.proofs.Common.{arith}
use Rattle.std.proofs.lemmas.Result.{err_from_is_err_and}
use Rattle.journal_keeper.proofs.Opening.{keeps_then}
use Rattle.journal_replay.proofs.Faults.{blamed_since, handed_on}
use Rattle.journal_replay.proofs.KeptFor.{accepted, opens_either, stays_kept}
use Rattle.journal_replay.proofs.Opened.{fails, opens, refused}
use Rattle.journal_replay.proofs.opening.open.Goals as goal

pub returns-in_err-journal-clause-kept : goal.returns-in_err-journal-clause-kept
returns-in_err-journal-clause-kept g c = stays_kept _ _ c.open.ensures.any_moment

pub returns-in_err-journal-clause-accepted : goal.returns-in_err-journal-clause-accepted
returns-in_err-journal-clause-accepted g c =
    let p = err_from_is_err_and c.from_residual.result c.from_residual.ensures.1 in
    let fault = refused _ _ _ c.in_err-journal.ensures.fault in
    handed_on _ _ _ _ p.1 p.2 (accepted c.kept_recovers.ensures c.one_verdict.ensures.refused _ _ (g.met.D.Disk.sound c.args.disk.now) _ fault)

pub returns-in_err-replay_all-clause-fault : goal.returns-in_err-replay_all-clause-fault
returns-in_err-replay_all-clause-fault g c =
    let p = err_from_is_err_and c.from_residual-in_err-replay_all.result c.from_residual-in_err-replay_all.ensures.1 in
    handed_on _ _ _ _ p.1 p.2 (fails c.one_recovery.ensures _ _ _ c.open.ensures.other c.in_ok-journal.ensures.opened _ c.in_err-replay_all.ensures.fault)

pub returns-in_err-replay_all-clause-any_moment : goal.returns-in_err-replay_all-clause-any_moment
returns-in_err-replay_all-clause-any_moment g c = keeps_then _ _ _ c.open.ensures.any_moment c.replay_all.ensures.any_moment

pub returns-in_err-replay_all-clause-kept : goal.returns-in_err-replay_all-clause-kept
returns-in_err-replay_all-clause-kept g c = stays_kept _ _ (keeps_then _ _ _ c.open.ensures.any_moment c.replay_all.ensures.any_moment)

pub returns-in_err-replay_all-clause-accepted : goal.returns-in_err-replay_all-clause-accepted
returns-in_err-replay_all-clause-accepted g c =
    let p = err_from_is_err_and c.from_residual-in_err-replay_all.result c.from_residual-in_err-replay_all.ensures.1 in
    let fault = fails c.one_recovery.ensures _ _ _ c.open.ensures.other c.in_ok-journal.ensures.opened _ c.in_err-replay_all.ensures.fault in
    handed_on _ _ _ _ p.1 p.2 (accepted c.kept_recovers.ensures c.one_verdict.ensures.refused _ _ (g.met.D.Disk.sound c.args.disk.now) _ fault)

pub returns-in_err-replay_all-clause-cause : goal.returns-in_err-replay_all-clause-cause
returns-in_err-replay_all-clause-cause g c =
    let p = err_from_is_err_and c.from_residual-in_err-replay_all.result c.from_residual-in_err-replay_all.ensures.1 in
    record {
      later = omega (arith, c.open.ensures.cause.later, c.replay_all.ensures.cause.later);
      failed = handed_on _ _ _ _ p.1 p.2 (blamed_since _ _ _ _ c.open.ensures.cause.later c.in_err-replay_all.ensures.cause.failed);
    }

pub returns-clause-opened : goal.returns-clause-opened
returns-clause-opened g c = opens c.one_recovery.ensures _ _ _ c.open.ensures.other c.in_ok-journal.ensures.opened c.replay_all.new.journal c.replay_all.new.tables.world c.in_ok-replay_all.ensures.opened

pub returns-clause-any_moment : goal.returns-clause-any_moment
returns-clause-any_moment g c = keeps_then _ _ _ c.open.ensures.any_moment c.replay_all.ensures.any_moment

pub returns-clause-kept : goal.returns-clause-kept
returns-clause-kept g c = stays_kept _ _ (keeps_then _ _ _ c.open.ensures.any_moment c.replay_all.ensures.any_moment)

pub returns-clause-either : goal.returns-clause-either
returns-clause-either g c =
    let opened = opens c.one_recovery.ensures _ _ _ c.open.ensures.other c.in_ok-journal.ensures.opened c.replay_all.new.journal c.replay_all.new.tables.world c.in_ok-replay_all.ensures.opened in
    opens_either c.kept_recovers.ensures c.one_verdict.ensures.world _ _ (g.met.D.Disk.sound c.args.disk.now) _ _ opened
