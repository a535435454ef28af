use Rattle.std.proofs.Common.{◌≡◌, ◌+◌, ◌-◌, ◌==◌, ◌∷◌, List, ℕ, length, take, drop, ap, sym, ◌∙◌, arith}
use Rattle.std.specs.List.{slice_split}
use Rattle.std.proofs.lemmas.Grind.{common_steps}
use Rattle.cron_lines.proofs.FieldLemmas.{slice_split_whole, slice_split_at_first}
use Rattle.cron_lines.proofs.fields.cut.Goals as goal

pub returns-in_err-at-clause-parts : goal.returns-in_err-at-clause-parts
returns-in_err-at-clause-parts c =
    rw c.from_residual.ensures (slice_split_whole c.args.mark c.args.text.now (sym c.find.ensures ∙ c.in_err-at.was))

pub returns-clause-parts : goal.returns-clause-parts
returns-clause-parts c =
    let text = c.args.text.now in
    let at = c.in_ok-at.at in
    let rest : take (length text - (at + 1)) (drop (at + 1) text) ≡ drop (at + 1) text = grind (arith, common_steps) in
    slice_split_at_first c.args.mark text at (sym c.find.ensures ∙ c.in_ok-at.was)
    ∙ ap (λ (after : List ℕ). take at text ∷ slice_split (λ b. b == c.args.mark) after) (sym rest)
