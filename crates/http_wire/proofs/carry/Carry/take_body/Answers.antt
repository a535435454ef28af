use Rattle.std.proofs.Common.{◌≡◌, ◌+◌, ◌-◌, min, ℕ, length, take, drop, ap, ap₂, sym, ◌∙◌, subst, arith}
use Rattle.std.proofs.lemmas.Result.{err_from_is_err_and}
use Rattle.http_wire.specs.Stream.{FailsWith, input_of}
use Rattle.http_wire.specs.declared.request.WireFault.TheVariants as faults
use Rattle.http_wire.proofs.StepLemmas.{body_fails, body_lacks, body_taken}
use Rattle.http_wire.proofs.carry.Carry.take_body.Goals as goal

pub returns-in_err-body-clause-fault : goal.returns-in_err-body-clause-fault
returns-in_err-body-clause-fault g c =
    let ahead = c.args.self.now in
    let first : c.as_slice.result.now ≡ ahead.bytes = c.as_slice.ensures ∙ ap (λ ahead. ahead.bytes) c.self.view_is in
    let second : c.as_slice-2.result.now ≡ ahead.bytes = c.as_slice-2.ensures ∙ ap (λ ahead. ahead.bytes) c.self.view_is in
    let n = c.min-held.result in
    let is : n ≡ min c.args.head.now.body (length ahead.bytes - c.args.head.now.len) = c.min-held.ensures ∙ ap (λ w. min c.args.head.now.body (length w - c.args.head.now.len)) first in
    let span : c.args.head.now.len + n - c.args.head.now.len ≡ n = omega arith in
    let held : take (c.args.head.now.len + n - c.args.head.now.len) (drop c.args.head.now.len c.as_slice-2.result.now) ≡ take n (drop c.args.head.now.len ahead.bytes) = ap₂ (λ k w. take k (drop c.args.head.now.len w)) span second in
    let p = err_from_is_err_and c.from_residual.result c.from_residual.ensures.1 in
    rw (p.1, p.2) (body_fails ahead ahead (g.S.Source.source_state c.args.source.now) (g.S.Source.source_state c.read_body.new.source) c.args.head.now _ n c.taken.result _ c.requires is held c.taken.ensures.sum c.taken.ensures.within (λ i. ahead.bytes) (λ i. ahead.at) c.in_err-body.ensures.fault)

pub returns-in_default-clause-fault : goal.returns-in_default-clause-fault
returns-in_default-clause-fault g c =
    let ahead = c.args.self.now in
    let first : c.as_slice.result.now ≡ ahead.bytes = c.as_slice.ensures ∙ ap (λ ahead. ahead.bytes) c.self.view_is in
    let second : c.as_slice-2.result.now ≡ ahead.bytes = c.as_slice-2.ensures ∙ ap (λ ahead. ahead.bytes) c.self.view_is in
    let n = c.min-held.result in
    let is : n ≡ min c.args.head.now.body (length ahead.bytes - c.args.head.now.len) = c.min-held.ensures ∙ ap (λ w. min c.args.head.now.body (length w - c.args.head.now.len)) first in
    let span : c.args.head.now.len + n - c.args.head.now.len ≡ n = omega arith in
    let held : take (c.args.head.now.len + n - c.args.head.now.len) (drop c.args.head.now.len c.as_slice-2.result.now) ≡ take n (drop c.args.head.now.len ahead.bytes) = ap₂ (λ k w. take k (drop c.args.head.now.len w)) span second in
    let place : c.self.inside.at ≡ ahead.at = ap (λ ahead. ahead.at) c.self.view_is in
    let P : ℕ → Type 0 = λ at. FailsWith (input_of ahead (g.S.Source.source_state c.args.source.now)) (faults.BadRequest at) (input_of ahead (g.S.Source.source_state c.read_body.new.source)) in
    subst P (sym place) (body_lacks ahead ahead (g.S.Source.source_state c.args.source.now) (g.S.Source.source_state c.read_body.new.source) c.args.head.now _ n c.taken.result c.requires is held c.taken.ensures.sum (rw c.in_default.is at c.in_ok-body.ensures.short))

pub returns-clause-body : goal.returns-clause-body
returns-clause-body g c =
    let ahead = c.args.self.now in
    let head = c.args.head.now in
    let first : c.as_slice.result.now ≡ ahead.bytes = c.as_slice.ensures ∙ ap (λ ahead. ahead.bytes) c.self.view_is in
    let second : c.as_slice-2.result.now ≡ ahead.bytes = c.as_slice-2.ensures ∙ ap (λ ahead. ahead.bytes) c.self.view_is in
    let n = c.min-held.result in
    let is : n ≡ min head.body (length ahead.bytes - head.len) = c.min-held.ensures ∙ ap (λ w. min head.body (length w - head.len)) first in
    let span : head.len + n - head.len ≡ n = omega arith in
    let held : take (head.len + n - head.len) (drop head.len c.as_slice-2.result.now) ≡ take n (drop head.len ahead.bytes) = ap₂ (λ k w. take k (drop head.len w)) span second in
    let place : c.self.inside.at ≡ ahead.at = ap (λ ahead. ahead.at) c.self.view_is in
    let rest : c.drop_prefix.new.self ≡ drop (head.len + n) ahead.bytes = c.drop_prefix.ensures ∙ ap (λ ahead. drop (head.len + n) ahead.bytes) c.self.view_is in
    body_taken ahead (record { bytes = c.drop_prefix.new.self; at = c.self.inside.at + (head.len + head.body); over = c.self.inside.over }) (g.S.Source.source_state c.args.source.now) (g.S.Source.source_state c.read_body.new.source) head _ c.in-Some.body.items n c.taken.result c.requires is held
    c.taken.ensures.sum (rw c.in-Some.is at c.in_ok-body.ensures.whole) rest (omega arith)
