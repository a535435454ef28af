use Rattle.journal_keeper.proofs.KeptLaws.{one_list}
use Rattle.journal_keeper.proofs.laws.one_recovery.Goals as goal

pub returns : goal.returns
returns c = one_list c.one_list_of_records.ensures
