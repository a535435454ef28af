use Rattle.std.proofs.lemmas.Result.{err_from_is_err_and}
use Rattle.journal_keeper.specs.declared.journal.Stage.TheVariants.{Ready}
use Rattle.journal_keeper.proofs.Repairing.{staged, add_failed, add_done}
use Rattle.journal_keeper.proofs.journal.Journal.add_record.Goals as goal

pub returns-in_err-add-clause-added : goal.returns-in_err-add-clause-added
returns-in_err-add-clause-added g c =
    let p = err_from_is_err_and c.from_residual.result c.from_residual.ensures.1 in
    add_failed c.one_list_of_records.ensures c.self.inside.end c.self.inside.window c.args.record_text.now c.requires.record_text _ _ _ (staged _ _ Ready _ _ c.self.view_is c.requires.stage) _ _ p.1 c.in_err-add.ensures.other (g.met.D.Disk.sound c.add.new.disk) c.in_err-add.ensures.moments

pub returns-clause-added : goal.returns-clause-added
returns-clause-added g c =
    add_done c.one_list_of_records.ensures c.self.inside.end c.self.inside.window c.args.record_text.now c.requires.record_text _ _ _ (staged _ _ Ready _ _ c.self.view_is c.requires.stage) c.in_ok-add.ensures.other c.in_ok-add.ensures.moments c.in_ok-add.ensures.added
