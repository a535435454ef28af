use Rattle.journal_format.proofs.ReadLaws.{payload_once}
use Rattle.journal_format.proofs.laws.one_text.Goals as goal

pub returns : goal.returns
returns c = payload_once
