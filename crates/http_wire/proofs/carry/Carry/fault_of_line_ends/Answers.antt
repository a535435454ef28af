use Rattle.std.proofs.Common.{◌≡◌, subst, sym, ap, ◌∙◌, List, ℕ, take}
use Rattle.http_wire.specs.Stream.{IsEnd}
use Rattle.http_wire.specs.Reading.{HasHeadCause, IsRefusalAt}
use Rattle.http_wire.specs.declared.request.WireFault.{WireFault}
use Rattle.http_wire.specs.declared.request.WireFault.TheVariants as faults
use Rattle.http_wire.proofs.PrefixLemmas.{blank_is_no_head}
use Rattle.http_wire.proofs.StepLemmas.{head_refusal, long_refusal}
use Rattle.http_wire.proofs.carry.Carry.fault_of_line_ends.Goals as goal
use Rattle.http_wire.proofs.carry.Carry.fault_of_line_ends.Goals.{in-Err, in-Ok-None}

pub unreachable-requires : goal.unreachable-requires
unreachable-requires c =
    let found = rw c.in-Ok-Some.field-0-is at c.in-Ok-Some.ensures.head in
    let P : List ℕ → Type 0 = IsEnd in
    blank_is_no_head c.prefix.result.now found.tree _ (subst P (sym c.prefix.ensures.bytes) c.requires.blank) found.begins.reads

pub returns : goal.returns
returns c =
    let ahead = c.args.self.now in
    let P : WireFault → Type 0 = IsRefusalAt ahead.at ahead.bytes in
    let place : c.self.inside.at ≡ ahead.at = ap (λ ahead. ahead.at) c.self.view_is in
    elim c.match-read_head_at.branch [
      | in-Err w ↦
          let Q : ℕ → Type 0 = λ at. HasHeadCause at (take 16384 ahead.bytes) w.in-Err.fault in
          subst P (sym w.result-is) (head_refusal ahead.at ahead.bytes w.in-Err.fault c.requires.blank (subst Q place (rw c.prefix.ensures.bytes at w.in-Err.ensures.fault)))
      | in-Ok-None w ↦
          let gap = rw (w.in-Ok-None.field-0-is, c.prefix.ensures.bytes) at w.in-Ok-None.ensures.open in
          subst P (sym (w.result-is ∙ w.long_head.ensures ∙ ap (λ at. faults.TooLarge at 16384) place)) (long_refusal ahead.at ahead.bytes gap c.requires.full)
    ]
