use Rattle.std.proofs.Common.{◌==◌, not, ap, sym, slice_index, ◌∙◌}
use Rattle.std.specs.List.{slice_split}
use Rattle.cron_lines.specs.Field.{items_of}
use Rattle.cron_lines.proofs.FieldLemmas.{field_from, field_of-field_from, field_from_part}
use Rattle.cron_lines.proofs.fields.Field.parse.Goals as goal

pub loop-part-init : goal.loop-part-init
loop-part-init c =
    let restricted = not (slice_index c.args.text.now 0 == 42) in
    let items = items_of c.args.kind (slice_split (λ b. b == 44) c.args.text.now) in
    field_of-field_from c.args.kind c.args.text.now
    ∙ ap (λ values. field_from restricted values items) (sym c.none-values.ensures)

pub loop-part-preserved : goal.loop-part-preserved
loop-part-preserved c =
    let kind = c.args.kind in
    let restricted = not (slice_index c.args.text.now 0 == 42) in
    let rest = slice_split (λ b. b == 44) c.in-Some.rest.now in
    c.loop-part.invariant
    ∙ field_from_part restricted c.loop-part.values kind _ c.in-Some.part.now rest c.in_ok-item.field-0 c.in-Some.ensures.parts c.in_ok-item.ensures.value
    ∙ ap (λ values. field_from restricted values (items_of kind rest)) (sym c.with-values.ensures)
