use Rattle.std.proofs.Common.{◌-◌, ℕ, List, length}
use Rattle.http_wire.specs.Limits.{head_limit}
use Rattle.http_wire.specs.Stream.{input_of}
use Rattle.http_wire.specs.Reading.{ReadsAhead}
use Rattle.http_wire.proofs.carry.Carry.next_head.Given as goal

abbrev pub invariant-lines : goal.invariant-lines
invariant-lines g l = (read : List ℕ) × ReadsAhead (input_of l.fn.self (g.S.Source.source_state l.fn.source)) read (input_of l.self (g.S.Source.source_state l.source))

abbrev pub decreases-lines : goal.decreases-lines
decreases-lines g l = head_limit - length l.self.bytes
