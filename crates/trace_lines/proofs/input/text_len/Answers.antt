use Rattle.std.proofs.Common.{◌≡◌, ℕ, List, take, IfNone, ap, ◌∙◌, subst}
use Rattle.std.proofs.lemmas.List.{take_min}
use Rattle.trace_lines.specs.Input.{HasNoFeed}
use Rattle.trace_lines.proofs.InputLaws.{some_found, none_found}
use Rattle.trace_lines.proofs.input.text_len.Goals as goal

pub returns-clause-some : goal.returns-clause-some
returns-clause-some c = some_found c.min.result c.args.bytes.now c.first_feed.result c.first_feed.ensures

pub returns-clause-none : goal.returns-clause-none
returns-clause-none c =
    let P : List ℕ → Type 0 = λ prefix. IfNone c.first_feed.result (HasNoFeed prefix) in
    let prefix : take c.min.result c.args.bytes.now ≡ take 4097 c.args.bytes.now = ap (λ k. take k c.args.bytes.now) c.min.ensures ∙ take_min 4097 c.args.bytes.now in
    subst P prefix (none_found (take c.min.result c.args.bytes.now) c.first_feed.result c.first_feed.ensures)
