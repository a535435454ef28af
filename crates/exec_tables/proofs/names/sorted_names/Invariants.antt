use Rattle.std.proofs.Common.{◌≡◌, ℕ, List}
use Rattle.std.specs.BTreeSet.{contains}
use Rattle.queue_model.specs.World.{text_cmp}
use Rattle.exec_tables.proofs.NameLemmas.{has}
use Rattle.exec_tables.proofs.names.sorted_names.Given as goal

-- those that were passed over
abbrev pub invariant-loop-listed : goal.invariant-loop-listed
invariant-loop-listed g l = (q : List ℕ) → contains text_cmp l.found q ≡ has l.yielded q
