use Rattle.std.proofs.Common.{◌≡◌, ◌+◌, ◌∙◌, sym, arith}
use Rattle.cron_lines.proofs.FieldLemmas.{place_from_found, place_from_more}
use Rattle.cron_lines.proofs.fields.place.Goals as goal

pub returns-then-is_name : goal.returns-then-is_name
returns-then-is_name c =
    sym (place_from_found _ c.loop-at.at c.args.names.now c.args.text.now (omega arith) (sym c.is_name.ensures ∙ c.if-is_name.true))
    ∙ c.loop-at.invariant

pub loop-at-preserved : goal.loop-at-preserved
loop-at-preserved c =
    let n = c.args.first + c.loop-at.at in
    let step = place_from_more n c.loop-at.at c.args.names.now c.args.text.now (omega arith) (sym c.is_name.ensures ∙ c.if-is_name.false) in
    let same : c.args.first + (c.loop-at.at + 1) ≡ n + 1 = omega arith in
    rw same (sym step ∙ c.loop-at.invariant)
