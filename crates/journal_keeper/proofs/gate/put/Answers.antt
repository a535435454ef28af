use Rattle.std.proofs.Common.{length}
use Rattle.journal_keeper.proofs.Putting.{half, unsynced, synced}
use Rattle.journal_keeper.proofs.gate.put.Goals as goal

pub returns-in_err-write_at-clause-any_moment : goal.returns-in_err-write_at-clause-any_moment
returns-in_err-write_at-clause-any_moment g c = half c.args.place (length c.args.piece.now) _ _ c.in_err-write_at.ensures.in_doubt

pub returns-in_err-sync-clause-any_moment : goal.returns-in_err-sync-clause-any_moment
returns-in_err-sync-clause-any_moment g c = unsynced c.args.place c.args.piece.now _ _ _ c.in_ok-write_at.ensures.written c.in_err-sync.ensures.in_doubt

pub returns-clause-any_moment : goal.returns-clause-any_moment
returns-clause-any_moment g c = synced c.args.place c.args.piece.now _ _ _ c.in_ok-write_at.ensures.written (g.met.D.Disk.sound c.write_at.new.self) c.in_ok-sync.ensures.certain
