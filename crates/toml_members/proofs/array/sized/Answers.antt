use Rattle.std.proofs.Common.{arith}
use Rattle.std.proofs.lemmas.Grind.{common_steps}
use Rattle.toml_members.proofs.ViewLemmas.{items_len-items_view}
use Rattle.toml_members.proofs.array.sized.Goals as goal

pub returns-then-items-most-clause-given : goal.returns-then-items-most-clause-given
returns-then-items-most-clause-given c = rw items_len-items_view (grind (arith, common_steps))

pub returns-clause-given : goal.returns-clause-given
returns-clause-given c = rw items_len-items_view (grind (arith, common_steps))
