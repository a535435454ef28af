use Rattle.trace_lines.proofs.InputLaws.{one_line, line_finished, line_good, line_more}
use Rattle.trace_lines.proofs.input.reads_one_way.Goals as goal

pub returns-clause-one : goal.returns-clause-one
returns-clause-one c = one_line

pub returns-clause-finished : goal.returns-clause-finished
returns-clause-finished c = line_finished

pub returns-clause-good : goal.returns-clause-good
returns-clause-good c = line_good

pub returns-clause-longer : goal.returns-clause-longer
returns-clause-longer c = line_more
