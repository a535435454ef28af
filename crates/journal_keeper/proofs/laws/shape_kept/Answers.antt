use Rattle.journal_keeper.proofs.KeptLaws.{kept}
use Rattle.journal_keeper.proofs.laws.shape_kept.Goals as goal

pub returns : goal.returns
returns c = λ payloads doubt text file is holds. kept c.one_list_of_records.ensures payloads text is doubt file holds
