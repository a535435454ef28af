use Rattle.std.proofs.Common.{◌≡◌, ◌≤◌, true, false, inl, inr, subst, sym, ap, ◌∙◌, arith, rules, take}
use Rattle.std.specs.List.{list_all}
use Rattle.std.proofs.lemmas.Result.{err_from_is_err_and}
use Rattle.http_wire.specs.Stream.{IsEnd, IsOpen, is_line_byte, taken_of}
use Rattle.http_wire.specs.Reading.{IsRefusalAt}
use Rattle.http_wire.specs.declared.request.WireFault.{WireFault}
use Rattle.http_wire.specs.declared.request.WireFault.TheVariants as faults
use Rattle.http_wire.proofs.PrefixLemmas.{not_end}
use Rattle.http_wire.proofs.StepLemmas.{refused_now, long_refusal, lines_stop_fails, lines_meet_fails}
use Rattle.http_wire.proofs.carry.Carry.end_in_full.Goals as goal

pub returns-then-not-is_blank : goal.returns-then-not-is_blank
returns-then-not-is_blank g c =
    let ahead = c.args.self.now in
    let P : WireFault → Type 0 = IsRefusalAt ahead.at ahead.bytes in
    let place : c.self.inside.at ≡ ahead.at = ap (λ ahead. ahead.at) c.self.view_is in
    let within : taken_of ahead ≤ 1073741824 = omega (arith, ap taken_of c.self.view_is, c.self.invariant) in
    let other : list_all is_line_byte (take 16384 ahead.bytes) ≡ false = ap (list_all is_line_byte) (sym c.prefix.ensures.bytes) ∙ sym c.is_blank.ensures ∙ (search rules) in
    let goes_on : IsEnd (take 16384 ahead.bytes) → ⊥ = λ end. (let differ : true ≡ false = sym end ∙ other in cc) in
    let gap : IsOpen (take 16384 ahead.bytes) = elim c.requires.none [ inl end ↦ absurd (goes_on end) | inr gap ↦ gap ] in
    refused_now ahead ahead (g.S.Source.source_state c.args.source.now) c.long_head.result within
    (subst P (sym (c.long_head.ensures ∙ ap (λ at. faults.TooLarge at 16384) place)) (long_refusal ahead.at ahead.bytes gap c.requires.full)) (not_end 16384 ahead.bytes goes_on)

pub returns-then-not-is_blank-2 : goal.returns-then-not-is_blank-2
returns-then-not-is_blank-2 g c =
    let ahead = c.args.self.now in
    let within : taken_of ahead ≤ 1073741824 = omega (arith, ap taken_of c.self.view_is, c.self.invariant) in
    let other : list_all is_line_byte ahead.bytes ≡ false = ap (list_all is_line_byte) (sym (c.as_slice.ensures ∙ ap (λ ahead. ahead.bytes) c.self.view_is)) ∙ sym c.is_blank-2.ensures ∙ (search rules) in
    refused_now ahead ahead (g.S.Source.source_state c.args.source.now) c.fault_of_line_ends.result within c.fault_of_line_ends.ensures (λ end. (let differ : true ≡ false = sym end ∙ other in cc))

pub returns-in_err-taken : goal.returns-in_err-taken
returns-in_err-taken g c =
    let ahead = c.args.self.now in
    let blank : IsEnd ahead.bytes = ap (list_all is_line_byte) (sym (c.as_slice.ensures ∙ ap (λ ahead. ahead.bytes) c.self.view_is)) ∙ sym c.is_blank-2.ensures ∙ (search rules) in
    let p = err_from_is_err_and c.from_residual.result c.from_residual.ensures.1 in
    rw (p.1, p.2) (lines_stop_fails ahead ahead (g.S.Source.source_state c.args.source.now) (g.S.Source.source_state c.skip_line_ends.new.source) c.taken.result _ c.taken.ensures.sum blank c.in_err-taken.ensures)

pub returns-in_default : goal.returns-in_default
returns-in_default g c =
    let ahead = c.args.self.now in
    let blank : IsEnd ahead.bytes = ap (list_all is_line_byte) (sym (c.as_slice.ensures ∙ ap (λ ahead. ahead.bytes) c.self.view_is)) ∙ sym c.is_blank-2.ensures ∙ (search rules) in
    lines_meet_fails ahead ahead (g.S.Source.source_state c.args.source.now) (g.S.Source.source_state c.skip_line_ends.new.source) c.taken.result c.fault_of_line_ends-in_default.result c.taken.ensures.sum blank
    c.fault_of_line_ends-in_default.ensures (rw c.in_default.is at c.in_ok-taken.ensures)
