use Rattle.std.proofs.Common.{◌≡◌, ◌==◌, not, length, slice_index}
use Rattle.std.specs.List.{slice_split}
use Rattle.cron_lines.specs.Field.{items_of, field_of}
use Rattle.cron_lines.proofs.FieldLemmas.{field_from}
use Rattle.cron_lines.proofs.fields.Field.parse.Given as goal

-- the items so far, and those of what is left, make the field
abbrev pub invariant-loop-part : goal.invariant-loop-part
invariant-loop-part l =
    field_of l.kind l.text
    ≡ field_from (not (slice_index l.text 0 == 42)) l.values (items_of l.kind (slice_split (λ b. b == 44) l.left))

abbrev pub decreases-loop-part : goal.decreases-loop-part
decreases-loop-part l = length l.left
