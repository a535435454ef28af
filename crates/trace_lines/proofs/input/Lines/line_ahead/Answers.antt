use Rattle.std.proofs.Common.{List, ℕ, ◌≡◌, refl, ap, ◌∙◌, subst}
use Rattle.trace_lines.specs.Input.{Ahead, IsUnfinished}
use Rattle.trace_lines.proofs.InputLaws.{short_unfinished}
use Rattle.trace_lines.proofs.input.Lines.line_ahead.Goals as goal

pub returns-in_default-clause-answer : goal.returns-in_default-clause-answer
returns-in_default-clause-answer c =
    let P : List ℕ → Type 0 = IsUnfinished in
    let same : c.as_slice-ahead.result.now ≡ c.args.self.now.bytes = c.as_slice-ahead.ensures ∙ ap (λ (ahead : Ahead). ahead.bytes) c.self.view_is in
    (refl, subst P same (short_unfinished _ c.if-ahead-gt-MAX_LEN.false c.in_default.ensures.none))
