use Rattle.std.proofs.Common.{true, false, option_map, sym, ap, ◌∙◌, arith}
use Rattle.queue_config.specs.Ranges.{IsRule}
use Rattle.queue_config.specs.Retry.{fits, last_from}
use Rattle.queue_config.proofs.RuleLemmas.{last_more, last_end, last_found}
use Rattle.queue_config.proofs.retry.last_fitting.Goals.{then-is_kind_of, else-is_kind_of}
use Rattle.queue_config.proofs.retry.last_fitting.Goals as goal

pub loop-i-preserved : goal.loop-i-preserved
loop-i-preserved c =
    let rules = c.args.rules.now in
    let rule = c.index-rules-i.result in
    let takes = fits c.args.errors.now c.args.error.now in
    let last = option_map (λ at. (at.0, at.1.now)) c.loop-i.last in
    elim c.if-is_kind_of.branch [
      | then-is_kind_of w ↦ rw w.last-is (last_more takes rules c.loop-i.i rule rule true last (last_from takes 0 rules) c.loop-i-test.true c.index-rules-i.is (sym c.is_kind_of.ensures ∙ w.if-is_kind_of.true) c.loop-i.invariant)
      | else-is_kind_of w ↦ rw w.last-is (last_more takes rules c.loop-i.i rule rule false last (last_from takes 0 rules) c.loop-i-test.true c.index-rules-i.is (sym c.is_kind_of.ensures ∙ w.if-is_kind_of.false) c.loop-i.invariant)
    ]

pub returns-clause-last : goal.returns-clause-last
returns-clause-last c = last_end (fits c.args.errors.now c.args.error.now) c.args.rules.now c.loop-i.i _ _ c.loop-i-test.false c.loop-i.invariant

pub returns-clause-place : goal.returns-clause-place
returns-clause-place c at is =
    let last = last_end (fits c.args.errors.now c.args.error.now) c.args.rules.now c.loop-i.i _ _ c.loop-i-test.false c.loop-i.invariant in
    let within = (last_found IsRule (fits c.args.errors.now c.args.error.now) 0 c.args.rules.now (at.0, at.1.now) c.requires.rules (sym last ∙ ap (option_map (λ at. (at.0, at.1.now))) is)).0 in
    omega arith

pub returns-clause-rule : goal.returns-clause-rule
returns-clause-rule c at is =
    let last = last_end (fits c.args.errors.now c.args.error.now) c.args.rules.now c.loop-i.i _ _ c.loop-i-test.false c.loop-i.invariant in
    (last_found IsRule (fits c.args.errors.now c.args.error.now) 0 c.args.rules.now (at.0, at.1.now) c.requires.rules (sym last ∙ ap (option_map (λ at. (at.0, at.1.now))) is)).1
