use Rattle.std.proofs.Common.{◌≡◌, ◌+◌, drop}
use Rattle.cron_lines.specs.Field.{place_from}
use Rattle.cron_lines.proofs.fields.place.Given as goal

abbrev pub invariant-loop-at : goal.invariant-loop-at
invariant-loop-at l =
    place_from (l.first + l.at) (drop l.at l.names) l.text ≡ place_from l.first l.names l.text
