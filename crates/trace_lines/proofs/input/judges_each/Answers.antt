use Rattle.trace_lines.proofs.InputLaws.{judged}
use Rattle.trace_lines.proofs.input.judges_each.Goals as goal

pub returns : goal.returns
returns c = judged
