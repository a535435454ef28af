use Rattle.journal_keeper.proofs.Repairing.{all_kept}
use Rattle.journal_keeper.proofs.laws.stands_kept.Goals as goal

pub returns : goal.returns
returns c = all_kept c.one_list_of_records.ensures
