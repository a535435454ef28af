use Rattle.std.proofs.lemmas.Result.{err_from_is_err_and}
use Rattle.journal_keeper.specs.declared.journal.Stage.TheVariants.{InDoubt}
use Rattle.journal_keeper.proofs.Repairing.{staged, close_failed, closed_up}
use Rattle.journal_keeper.proofs.journal.Journal.close_gate.Goals as goal

pub returns-in_err-close-clause-repaired : goal.returns-in_err-close-clause-repaired
returns-in_err-close-clause-repaired g c =
    let p = err_from_is_err_and c.from_residual.result c.from_residual.ensures.1 in
    close_failed c.one_list_of_records.ensures c.self.inside.end c.self.inside.window _ _ _ (staged _ _ InDoubt _ _ c.self.view_is c.requires.stage) _ _ p.1 c.in_err-close.ensures.other (g.met.D.Disk.sound c.close.new.disk) c.in_err-close.ensures.any_moment

pub returns-clause-repaired : goal.returns-clause-repaired
returns-clause-repaired g c =
    closed_up c.one_list_of_records.ensures c.self.inside.end c.self.inside.window _ _ _ (staged _ _ InDoubt _ _ c.self.view_is c.requires.stage) c.in_ok-close.ensures.other c.in_ok-close.ensures.any_moment c.in_ok-close.ensures.closed
