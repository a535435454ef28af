use Rattle.std.proofs.Common.{ℕ, List, None, Some, subst}
use Rattle.std.proofs.lemmas.Result.{err_from_is_err_and}
use Rattle.queue_model.specs.World.{empty}
use Rattle.journal_replay.specs.Taking.{Takes}
use Rattle.journal_replay.proofs.Faults.{handed_on}
use Rattle.journal_replay.proofs.Stepping.{ends, frame_fault, goes_on, known, moved, reads_alike, text_fault}
use Rattle.journal_replay.proofs.opening.replay_next.Goals as goal

pub returns-in_err-payload-clause-fault : goal.returns-in_err-payload-clause-fault
returns-in_err-payload-clause-fault g c =
    let p = err_from_is_err_and c.from_residual.result c.from_residual.ensures.1 in
    handed_on _ _ _ _ p.1 p.2 (frame_fault _ _ _ _ _ (g.met.D.Disk.sound c.args.disk.now) c.requires _ _ _ (c.in_err-payload.ensures.next c.requires.unread) c.in_err-payload.ensures.cause.failed)

pub returns-in_default-clause-steps : goal.returns-in_default-clause-steps
returns-in_default-clause-steps g c = ends _ _ _ _ _ (g.met.D.Disk.sound c.args.disk.now) c.requires (λ end txs. c.worlds_stay_good.ensures.replay empty end txs) c.empty_is_good.ensures (known _ _ _ _ _ None c.in_default.is (c.in_ok-payload.ensures.next c.requires.unread))

pub returns-in_err-take_in-clause-fault : goal.returns-in_err-take_in-clause-fault
returns-in_err-take_in-clause-fault g c =
    let p = err_from_is_err_and c.from_residual-in_err-take_in.result c.from_residual-in_err-take_in.ensures.1 in
    let bytes = c.in-Some.payload in
    let next = known _ _ _ _ _ (Some bytes) c.in-Some.is (c.in_ok-payload.ensures.next c.requires.unread) in
    handed_on _ _ _ _ p.1 p.2 (text_fault _ _ _ _ _ (g.met.D.Disk.sound c.args.disk.now) c.requires bytes next _ (moved _ _ _ bytes c.args.tables.now.world _ c.end-at.ensures.place c.as_slice.ensures c.in_err-take_in.ensures.fault))

pub returns-clause-steps : goal.returns-clause-steps
returns-clause-steps g c =
    let bytes = c.in-Some.payload in
    let sound = g.met.D.Disk.sound c.args.disk.now in
    let next = known _ _ _ _ _ (Some bytes) c.in-Some.is (c.in_ok-payload.ensures.next c.requires.unread) in
    let takes = subst (λ (b : List ℕ). Takes b c.args.tables.now.world c.take_in.new.tables.world) c.as_slice.ensures c.in_ok-take_in.ensures.taken in
    (goes_on _ _ _ _ _ sound c.requires bytes next c.take_in.new.tables.world takes, reads_alike _ _ _ _ _ sound c.requires bytes next, rw c.in-Some.is at c.in_ok-payload.ensures.further)
