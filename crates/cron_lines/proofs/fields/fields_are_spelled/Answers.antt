use Rattle.cron_lines.proofs.SpellingLemmas.{fields_are_spelled}
use Rattle.cron_lines.proofs.fields.fields_are_spelled.Goals as goal

pub returns : goal.returns
returns c = fields_are_spelled
