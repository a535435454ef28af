use Rattle.std.proofs.lemmas.Result.{err_from_is_err_and}
use Rattle.journal_keeper.specs.declared.journal.Stage.TheVariants.{Reading}
use Rattle.journal_keeper.proofs.Finishing.{finish_failed, finish_done, emptied}
use Rattle.journal_keeper.proofs.Repairing.{staged}
use Rattle.journal_keeper.proofs.journal.Journal.finish.Goals as goal

pub returns-in_err-shut-clause-finished : goal.returns-in_err-shut-clause-finished
returns-in_err-shut-clause-finished g c =
    let p = err_from_is_err_and c.from_residual.result c.from_residual.ensures.1 in
    emptied _ _ _ _ _ _ _ c.new.ensures (finish_failed c.self.inside.end c.self.inside.window _ _ _ (staged _ _ Reading _ _ c.self.view_is c.requires.stage) (g.met.D.Disk.sound c.args.disk.now) c.requires.standing c.requires.closed _ _ p.1 c.in_err-shut.ensures.other (g.met.D.Disk.sound c.shut.new.disk) c.in_err-shut.ensures.any_moment)

pub returns-clause-finished : goal.returns-clause-finished
returns-clause-finished g c =
    emptied _ _ _ _ _ _ _ c.new.ensures (finish_done c.self.inside.end c.self.inside.window _ _ _ (staged _ _ Reading _ _ c.self.view_is c.requires.stage) (g.met.D.Disk.sound c.args.disk.now) c.requires.standing c.requires.closed c.in_ok-shut.ensures.other c.in_ok-shut.ensures.any_moment c.in_ok-shut.ensures.shut)
