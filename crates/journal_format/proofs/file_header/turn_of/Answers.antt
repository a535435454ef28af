use Rattle.journal_format.proofs.HeaderLaws.{ends_from}
use Rattle.journal_format.proofs.file_header.turn_of.Goals as goal

pub returns-then-eq : goal.returns-then-eq
returns-then-eq c = ends_from c.args.bytes.now c.header-live.result _ c.told-bytes c.if-turn-gt2.false c.header-live.ensures c.if-eq.ensures
