use Rattle.std.proofs.Common.{◌≡◌, [], drop, take}
use Rattle.queue_config.specs.Named.{first_clash}
use Rattle.queue_config.specs.Wrong.{clash}
use Rattle.queue_config.proofs.wrong.first_clash.Given as goal

abbrev pub invariant-loop-i : goal.invariant-loop-i
invariant-loop-i l = first_clash clash (take l.i l.classes) (drop l.i l.classes) ≡ first_clash clash [] l.classes
