use Rattle.cron_lines.proofs.PhraseLemmas.{phrases_are_spelled}
use Rattle.cron_lines.proofs.phrases.phrases_are_spelled.Goals as goal

pub returns : goal.returns
returns c = phrases_are_spelled
