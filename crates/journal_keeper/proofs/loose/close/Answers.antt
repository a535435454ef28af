use Rattle.journal_keeper.proofs.Closing.{unsynced, is_settled, is_within, reclosing, is_closed_now}
use Rattle.journal_keeper.proofs.Others.{goes}
use Rattle.journal_keeper.proofs.loose.close.Goals as goal

pub returns-in_err-sync-clause-any_moment : goal.returns-in_err-sync-clause-any_moment
returns-in_err-sync-clause-any_moment g c = unsynced c.args.gate _ _ c.in_err-sync.ensures.in_doubt

pub shut-requires-clause-settled : goal.shut-requires-clause-settled
shut-requires-clause-settled g c = is_settled c.args.gate _ _ (goes _ _ _ c.in_ok-sync.ensures.certain) c.in_ok-sync.ensures.certain

pub shut-requires-clause-within : goal.shut-requires-clause-within
shut-requires-clause-within g c = is_within c.args.gate _ _ (goes _ _ _ c.in_ok-sync.ensures.certain) (g.met.D.Disk.sound c.args.disk.now) c.requires c.in_ok-sync.ensures.certain

pub returns-in_err-shut-clause-any_moment : goal.returns-in_err-shut-clause-any_moment
returns-in_err-shut-clause-any_moment g c = reclosing c.args.gate _ _ _ (g.met.D.Disk.sound c.args.disk.now) c.in_ok-sync.ensures.certain c.in_err-shut.ensures.any_moment

pub returns-clause-any_moment : goal.returns-clause-any_moment
returns-clause-any_moment g c = reclosing c.args.gate _ _ _ (g.met.D.Disk.sound c.args.disk.now) c.in_ok-sync.ensures.certain c.in_ok-shut.ensures.any_moment

pub returns-clause-closed : goal.returns-clause-closed
returns-clause-closed g c = is_closed_now c.args.gate _ _ _ (g.met.D.Disk.sound c.args.disk.now) c.in_ok-sync.ensures.certain c.in_ok-shut.ensures.shut
