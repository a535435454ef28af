use Rattle.std.proofs.Common.{◌+◌, ◌-◌, ℕ, List, length}
use Rattle.trace_lines.specs.Input.{line_limit, input_of, ReadsAhead}
use Rattle.trace_lines.proofs.input.Lines.next.Given as goal

abbrev pub invariant-pieces : goal.invariant-pieces
invariant-pieces g l =
    (read : List ℕ)
    × ReadsAhead (input_of l.fn.self (g.S.Source.source_state l.fn.source)) read (input_of l.self (g.S.Source.source_state l.source))

abbrev pub decreases-pieces : goal.decreases-pieces
decreases-pieces g l = line_limit + 1 - length l.self.bytes
