use Rattle.std.proofs.Common.{[], ◌∷◌, sym, ◌∙◌, length-append, arith}
use Rattle.std.proofs.lemmas.Result.{err_from_is_err_and}
use Rattle.toml.specs.View.{items_view}
use Rattle.toml_members.specs.Kind.{each}
use Rattle.toml_members.proofs.ElementLemmas.{goes_on, ends, is_done}
use Rattle.toml_members.proofs.array.elements.Goals as goal

pub returns-in_err-element-clause-given : goal.returns-in_err-element-clause-given
returns-in_err-element-clause-given g c =
    let p = err_from_is_err_and c.from_residual-in_err-element.result c.from_residual-in_err-element.ensures.1 in
    let fault = rw (c.as_str.ensures, c.in_ok-place.ensures, c.as_slice-before.ensures.value) at c.in_err-element.ensures.given in
    rw (p.1, p.2) (ends (g.E.Element.judged c.args.context.now) c.args.array.now c.args.values.now c.loop-value.value-index _ c.value-item.result c.loop-value.elements.items c.in_err-element.field-0.0 (each (g.E.Element.judged c.args.context.now) c.args.array.now [] (items_view c.args.values.now)) c.loop-value-test.true c.value-item.is fault c.loop-value.invariant.judged)

pub loop-value-preserved : goal.loop-value-preserved
loop-value-preserved g c =
    let read = rw (c.as_str.ensures, c.in_ok-place.ensures, c.as_slice-before.ensures.value) at c.in_ok-element.ensures.given in
    record {
      judged = rw c.in_ok-push.ensures.items (sym (goes_on (g.E.Element.judged c.args.context.now) c.args.array.now c.args.values.now c.loop-value.value-index _ c.value-item.result c.loop-value.elements.items c.in_ok-element.element c.loop-value-test.true c.value-item.is read) ∙ c.loop-value.invariant.judged);
      holds = rw c.in_ok-push.ensures.items (rw c.as_slice-before.ensures.value at c.in_ok-element.ensures.holds);
      count = rw c.in_ok-push.ensures.items (omega (arith, length-append c.loop-value.elements.items (c.in_ok-element.element ∷ []), c.loop-value.invariant.count));
    }

pub returns-clause-given : goal.returns-clause-given
returns-clause-given g c = rw c.of.ensures (is_done (g.E.Element.judged c.args.context.now) c.args.array.now c.args.values.now c.loop-value.value-index c.loop-value.elements.items (each (g.E.Element.judged c.args.context.now) c.args.array.now [] (items_view c.args.values.now)) c.loop-value-test.false c.loop-value.invariant.judged)
