use Rattle.cron_lines.proofs.SpellingLemmas.{fields_hold_items}
use Rattle.cron_lines.proofs.fields.fields_hold_items.Goals as goal

pub returns : goal.returns
returns c = fields_hold_items
