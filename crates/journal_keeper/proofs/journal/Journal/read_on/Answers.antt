use Rattle.std.proofs.Common.{◌∙◌, None, Some}
use Rattle.std.proofs.lemmas.Result.{err_from_is_err_and}
use Rattle.journal_keeper.proofs.NextRecords.{known, next_some, end_failed, ended}
use Rattle.journal_keeper.proofs.journal.Journal.read_on.Goals as goal

pub returns-in-Some-clause-next : goal.returns-in-Some-clause-next
returns-in-Some-clause-next g c = next_some _ _ _ _ c.requires.stage c.requires.standing c.in-Some.payload (known _ _ _ (Some c.in-Some.payload) _ _ c.in-Some.is c.in_ok-payload.ensures.read)

pub returns-in_err-finish-in-None-clause-next : goal.returns-in_err-finish-in-None-clause-next
returns-in_err-finish-in-None-clause-next g c =
    let p = err_from_is_err_and c.from_residual-in_err-finish-in-None.result c.from_residual-in_err-finish-in-None.ensures.1 in
    end_failed _ _ _ _ c.requires.stage c.requires.standing (known _ _ _ None _ _ c.in-None.is c.in_ok-payload.ensures.read) _ _ _ _ _ _ c.in_err-finish-in-None.was p.1 (p.2 ∙ c.in_err-finish-in-None.ensures.fault) c.finish.ensures.finished

pub returns-in_ok-finish-in-None-clause-next : goal.returns-in_ok-finish-in-None-clause-next
returns-in_ok-finish-in-None-clause-next g c = ended _ _ _ _ c.requires.stage c.requires.standing (known _ _ _ None _ _ c.in-None.is c.in_ok-payload.ensures.read) _ _ c.in_ok-finish-in-None.ensures.finished
