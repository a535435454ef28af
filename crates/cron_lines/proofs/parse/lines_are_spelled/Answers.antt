use Rattle.cron_lines.proofs.LineLemmas.{lines_are_spelled}
use Rattle.cron_lines.proofs.parse.lines_are_spelled.Goals as goal

pub returns : goal.returns
returns c = lines_are_spelled
