use Rattle.std.proofs.Common.{◌-◌}
use Rattle.http_wire.specs.Limits.{input_limit}
use Rattle.http_wire.specs.Reading.{PassesLines}
use Rattle.http_wire.proofs.read.skip_line_ends.Given as goal

abbrev pub invariant-line_ends : goal.invariant-line_ends
invariant-line_ends g l = PassesLines l.fn.taken (g.S.Source.source_state l.fn.source) l.taken (g.S.Source.source_state l.source)

abbrev pub decreases-line_ends : goal.decreases-line_ends
decreases-line_ends g l = input_limit - l.taken
