use Rattle.std.proofs.Common.{◌≡◌, ◌+◌, ◌-◌, false, true, Some, None, sym, ap, ◌∙◌}
use Rattle.job_states.specs.Texts.{is_among}
use Rattle.queue_config.specs.Errors.{find_error, meets, parent_in}
use Rattle.queue_config.proofs.ErrorLemmas.{meets_here, meets_above, meets_end, meets_standard}
use Rattle.queue_config.proofs.errors.meets.Goals as goal

pub returns-then-is_among : goal.returns-then-is_among
returns-then-is_among c =
    let among : is_among c.args.names.now c.loop.kind.now ≡ true = cc in
    sym (meets_here c.args.errors.now c.args.names.now c.args.parents c.loop.counter c.loop.kind.now c.loop-test.true among) ∙ c.loop.invariant

pub returns-in-None : goal.returns-in-None
returns-in-None c =
    let errors = c.args.errors.now in
    let among : is_among c.args.names.now c.loop.kind.now ≡ false = cc in
    let none : find_error c.loop.kind.now errors ≡ None = sym c.in-None.ensures in
    c.is_among-in-None.ensures
    ∙ sym (meets_above errors c.args.names.now c.args.parents c.loop.counter c.loop.kind.now c.loop-test.true among ∙ ap (λ o. meets errors c.args.names.now (c.args.parents - (c.loop.counter + 1)) (parent_in o)) none ∙ meets_standard errors c.args.names.now c.requires (c.args.parents - (c.loop.counter + 1)))
    ∙ c.loop.invariant

pub loop-preserved : goal.loop-preserved
loop-preserved c =
    let errors = c.args.errors.now in
    let among : is_among c.args.names.now c.loop.kind.now ≡ false = cc in
    let found : find_error c.loop.kind.now errors ≡ Some c.in-Some.declared.now = sym c.in-Some.ensures in
    sym (meets_above errors c.args.names.now c.args.parents c.loop.counter c.loop.kind.now c.loop-test.true among ∙ ap (λ o. meets errors c.args.names.now (c.args.parents - (c.loop.counter + 1)) (parent_in o)) found) ∙ c.loop.invariant

pub returns : goal.returns
returns c = c.is_among-2.ensures ∙ rw c.as_str-2.ensures.same (sym (meets_end c.args.errors.now c.args.names.now c.args.parents c.loop.counter c.loop.kind.now c.loop-test.false) ∙ c.loop.invariant)
