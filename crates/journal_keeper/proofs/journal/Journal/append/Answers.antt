use Rattle.std.proofs.lemmas.Result.{err_from_is_err_and}
use Rattle.journal_keeper.specs.Records.{payload_of}
use Rattle.journal_keeper.proofs.Repairing.{repair_failed, mid_stage, mid_stands, addition_failed, appended, same_added, appended_standing}
use Rattle.journal_keeper.proofs.journal.Journal.append.Goals as goal

pub returns-in_err-repair-clause-appended : goal.returns-in_err-repair-clause-appended
returns-in_err-repair-clause-appended g c =
    let p = err_from_is_err_and c.from_residual.result c.from_residual.ensures.1 in
    repair_failed _ _ _ _ (payload_of c.args.record_text.now) _ _ _ _ c.in_err-repair.was p.1 c.repair.ensures.repaired

pub add_record-requires-clause-stage : goal.add_record-requires-clause-stage
add_record-requires-clause-stage g c = mid_stage _ _ _ _ (payload_of c.args.record_text.now) c.in_ok-repair.ensures.repaired c.requires.standing

pub add_record-requires-clause-standing : goal.add_record-requires-clause-standing
add_record-requires-clause-standing g c = mid_stands _ _ _ _ (payload_of c.args.record_text.now) c.in_ok-repair.ensures.repaired c.requires.standing

pub returns-in_err-add_record-clause-appended : goal.returns-in_err-add_record-clause-appended
returns-in_err-add_record-clause-appended g c =
    let p = err_from_is_err_and c.from_residual-in_err-add_record.result c.from_residual-in_err-add_record.ensures.1 in
    addition_failed _ _ _ _ (payload_of c.args.record_text.now) _ _ c.in_ok-repair.ensures.repaired c.add_record.ensures.read _ _ _ _ c.in_err-add_record.was p.1 (same_added _ _ _ _ _ _ _ c.as_slice.ensures c.add_record.ensures.added)

pub returns-clause-appended : goal.returns-clause-appended
returns-clause-appended g c = appended _ _ _ _ (payload_of c.args.record_text.now) _ _ c.in_ok-repair.ensures.repaired c.in_ok-add_record.ensures.read (same_added _ _ _ _ _ _ _ c.as_slice.ensures c.in_ok-add_record.ensures.added)

pub returns-in_err-add_record-clause-standing : goal.returns-in_err-add_record-clause-standing
returns-in_err-add_record-clause-standing g c = appended_standing _ _ _ _ (payload_of c.args.record_text.now) _ c.requires.standing (returns-in_err-add_record-clause-appended g c)

pub returns-clause-standing : goal.returns-clause-standing
returns-clause-standing g c = appended_standing _ _ _ _ (payload_of c.args.record_text.now) _ c.requires.standing (returns-clause-appended g c)
