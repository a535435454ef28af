use Rattle.cron_lines.proofs.SpellingLemmas.{items_are_spelled}
use Rattle.cron_lines.proofs.fields.items_are_spelled.Goals as goal

pub returns : goal.returns
returns c = items_are_spelled
