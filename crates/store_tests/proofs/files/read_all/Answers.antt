use Rattle.std.proofs.Common.{[], None}
use Rattle.store_tests.proofs.files.read_all.Goals as goal

pub loop-init : goal.loop-init
loop-init g c = ([], (None, c.in_ok-journal.ensures.stands))
