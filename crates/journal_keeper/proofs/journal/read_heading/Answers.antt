use Rattle.journal_keeper.proofs.Opening.{keeps_unsynced, keeps_synced, keeps_same, keeps_then}
use Rattle.journal_keeper.proofs.journal.read_heading.Goals as goal

pub returns-in_err-sync-clause-any_moment : goal.returns-in_err-sync-clause-any_moment
returns-in_err-sync-clause-any_moment g c = keeps_unsynced _ _ c.in_err-sync.ensures.in_doubt

pub returns-in_err-n-clause-any_moment : goal.returns-in_err-n-clause-any_moment
returns-in_err-n-clause-any_moment g c = keeps_then _ _ _ (keeps_synced _ _ (g.met.D.Disk.sound c.args.disk.now) c.in_ok-sync.ensures.certain) (keeps_same _ _ c.in_err-n.ensures.kept)

pub returns-clause-any_moment : goal.returns-clause-any_moment
returns-clause-any_moment g c = keeps_then _ _ _ (keeps_synced _ _ (g.met.D.Disk.sound c.args.disk.now) c.in_ok-sync.ensures.certain) (keeps_same _ _ c.in_ok-n.ensures.kept)
