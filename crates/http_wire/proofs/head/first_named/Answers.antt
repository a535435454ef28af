use Rattle.std.proofs.Common.{◌≡◌, ◌-◌, ◌+◌, ◌∷◌, length, map, take, drop, ap, ap₂, refl, false, true, sym, ◌∙◌, arith, length-drop}
use Rattle.std.proofs.lemmas.List.{take_all}
use Rattle.std.specs.Char.{to_ascii_lowercase}
use Rattle.httparse.specs.Spans.{header_bytes}
use Rattle.http_wire.specs.Head.{values_of}
use Rattle.http_wire.proofs.Fields.{values_here, values_past}
use Rattle.http_wire.proofs.head.first_named.Goals as goal

pub returns-then-eq_ignore_ascii_case-clause-first : goal.returns-then-eq_ignore_ascii_case-clause-first
returns-then-eq_ignore_ascii_case-clause-first c =
    let behind = drop (c.loop-i.i + 1) c.args.fields.now in
    let rest : take (length c.args.fields.now - (c.loop-i.i + 1)) behind ≡ behind = take_all _ behind (omega (arith, length-drop (c.loop-i.i + 1) c.args.fields.now)) in
    sym c.loop-i.invariant
    ∙ values_here c.args.name.now c.args.head.now c.args.fields.now c.loop-i.i _ c.loop-i-test.true (ap (map to_ascii_lowercase) (sym c.of.ensures) ∙ c.if-eq_ignore_ascii_case.ensures.test.0 refl)
    ∙ ap₂ (λ value rest. value ∷ values_of c.args.name.now (map (header_bytes c.args.head.now) rest)) (sym c.of-then-eq_ignore_ascii_case.ensures) (sym rest)

pub loop-i-preserved : goal.loop-i-preserved
loop-i-preserved c =
    sym (values_past c.args.name.now c.args.head.now c.args.fields.now c.loop-i.i _ c.loop-i-test.true (λ same. let told : false ≡ true = c.if-eq_ignore_ascii_case.ensures.test.1 (ap (map to_ascii_lowercase) c.of.ensures ∙ same) in cc))
    ∙ c.loop-i.invariant
