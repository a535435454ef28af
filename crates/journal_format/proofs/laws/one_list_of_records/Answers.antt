use Rattle.journal_format.proofs.RecordLaws.{records_unique}
use Rattle.journal_format.proofs.laws.one_list_of_records.Goals as goal

pub returns : goal.returns
returns c = records_unique
