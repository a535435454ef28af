use Rattle.std.proofs.Common.{ap, ◌∙◌, ℕ, List}
use Rattle.cron_lines.specs.declared.fields.Field.{Field}
use Rattle.cron_lines.proofs.FieldLemmas.{with_item, with_item-none}
use Rattle.cron_lines.proofs.fields.Field.of.Goals as goal

pub returns : goal.returns
returns c =
    let made : List ℕ → Field = λ values. record { values = values; restricted = c.args.restricted } in
    ap made (c.with.ensures ∙ ap (λ values. with_item values c.args.item) c.none.ensures ∙ with_item-none c.args.item)
