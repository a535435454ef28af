use Rattle.cron_lines.proofs.ValuesLemmas.{values_where-no_bits}
use Rattle.cron_lines.proofs.values.Values.none.Goals as goal

pub returns : goal.returns
returns c = values_where-no_bits
