use Rattle.std.proofs.Common.{◌-◌, length}
use Rattle.http_wire.specs.Limits.{head_limit}
use Rattle.http_wire.specs.Stream.{input_of}
use Rattle.http_wire.proofs.StepLemmas.{HasReadOnAhead}
use Rattle.http_wire.proofs.carry.Carry.read_on_for_head.Given as goal

abbrev pub invariant-pieces : goal.invariant-pieces
invariant-pieces g l = HasReadOnAhead (input_of l.fn.self (g.S.Source.source_state l.fn.source)) (input_of l.self (g.S.Source.source_state l.source))

abbrev pub decreases-pieces : goal.decreases-pieces
decreases-pieces g l = head_limit - length l.self.bytes
