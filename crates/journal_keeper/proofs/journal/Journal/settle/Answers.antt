use Rattle.std.proofs.Common.{◌∙◌, ap, Err, refl}
use Rattle.std.proofs.lemmas.Result.{err_from_is_err_and}
use Rattle.journal_keeper.specs.declared.journal.Stage.TheVariants.{Unsynced}
use Rattle.journal_keeper.proofs.Finishing.{settle_failed, settle_done, emptied_again}
use Rattle.journal_keeper.proofs.Repairing.{staged}
use Rattle.journal_keeper.proofs.journal.Journal.settle.Goals as goal

pub returns-in_err-sync-clause-settled : goal.returns-in_err-sync-clause-settled
returns-in_err-sync-clause-settled g c =
    let p = err_from_is_err_and c.from_residual.result c.from_residual.ensures.1 in
    let old = c.args.self.now in
    settle_failed old.end old.ahead _ _ (g.met.D.Disk.sound c.args.disk.now) old (staged old.end old.stage Unsynced old.ahead old refl c.requires) _ (p.1 ∙ ap Err p.2) c.in_err-sync.ensures.in_doubt

pub returns-clause-settled : goal.returns-clause-settled
returns-clause-settled g c =
    emptied_again _ _ _ _ _ c.new.ensures (settle_done c.self.inside.end c.self.inside.window _ _ (g.met.D.Disk.sound c.args.disk.now) _ (staged _ _ Unsynced _ _ c.self.view_is c.requires) c.in_ok-sync.ensures.certain)
