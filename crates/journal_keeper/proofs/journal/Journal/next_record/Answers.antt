use Rattle.std.proofs.lemmas.Result.{err_from_is_err_and}
use Rattle.journal_keeper.proofs.NextRecords.{next_standing, standing_synced, not_settled, read_again}
use Rattle.journal_keeper.proofs.journal.Journal.next_record.Goals as goal

pub read_on-requires-in-Unsynced-clause-standing : goal.read_on-requires-in-Unsynced-clause-standing
read_on-requires-in-Unsynced-clause-standing g c = standing_synced _ _ _ _ _ c.requires c.settle.ensures.settled

pub returns-in_err-settle-in-Unsynced-clause-next : goal.returns-in_err-settle-in-Unsynced-clause-next
returns-in_err-settle-in-Unsynced-clause-next g c = λ unread.
    let p = err_from_is_err_and c.from_residual.result c.from_residual.ensures.1 in
    not_settled _ _ _ _ _ _ _ _ c.in_err-settle-in-Unsynced.was p.1 p.2 c.settle.ensures.settled

pub returns-in_ok-settle-in-Unsynced-clause-next : goal.returns-in_ok-settle-in-Unsynced-clause-next
returns-in_ok-settle-in-Unsynced-clause-next g c = λ unread. read_again _ _ _ _ c.in_ok-settle-in-Unsynced.ensures.settled _ _ _ c.read_on-in-Unsynced.ensures.next

pub returns-in-Reading-clause-standing : goal.returns-in-Reading-clause-standing
returns-in-Reading-clause-standing g c = next_standing _ _ _ _ _ c.requires c.read_on.ensures.next

pub returns-in_err-settle-in-Unsynced-clause-standing : goal.returns-in_err-settle-in-Unsynced-clause-standing
returns-in_err-settle-in-Unsynced-clause-standing g c = standing_synced _ _ _ _ _ c.requires c.settle.ensures.settled

pub returns-in_ok-settle-in-Unsynced-clause-standing : goal.returns-in_ok-settle-in-Unsynced-clause-standing
returns-in_ok-settle-in-Unsynced-clause-standing g c = next_standing _ _ _ _ _ (standing_synced _ _ _ _ _ c.requires c.settle.ensures.settled) c.read_on-in-Unsynced.ensures.next
