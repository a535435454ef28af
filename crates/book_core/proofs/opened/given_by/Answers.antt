use Rattle.std.proofs.Common.{rules}
use Rattle.transition_table.proofs.InRange.{next}
use Rattle.book_core.proofs.opened.given_by.Goals as goal

pub note-requires : goal.note-requires
note-requires c = next _ (search rules)
