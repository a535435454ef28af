use Rattle.std.proofs.Common.{sym, ◌∙◌}
use Rattle.std.proofs.lemmas.List.{take_all}
use Rattle.serde_json.specs.View.{items_view}
use Rattle.job_envelope.proofs.ArgLemmas.{first_args-items_view, length-first_args}
use Rattle.job_envelope.proofs.arguments.first_args.Goals as goal

pub returns-clause-exact : goal.returns-clause-exact
returns-clause-exact c =
    let all = take_all _ _ c.loop-item-test.false in
    let read = rw (all, c.min.ensures) at c.loop-item.invariant in
    c.of.ensures ∙ read ∙ sym (first_args-items_view c.args.items.now)

pub returns-clause-few : goal.returns-clause-few
returns-clause-few c = rw (returns-clause-exact c) (length-first_args (items_view c.args.items.now))
