use Rattle.std.proofs.Common.{sym, ◌∙◌}
use Rattle.queue_config.proofs.WholeLemmas.{accepted}
use Rattle.queue_config.proofs.wrong.judge.Goals as goal

pub returns-clause-accepted : goal.returns-clause-accepted
returns-clause-accepted c =
    let tasks = rw c.as_slice.ensures at c.first_without_class-without_class.ensures in
    let classes = rw c.as_slice-2.ensures at c.first_clash.ensures in
    accepted c.args.config.now c.requires
    (sym c.first_repeat.ensures ∙ c.in_ok-unless_at.ensures.none)
    (sym c.first_repeat-2.ensures ∙ c.in_ok-unless_at-2.ensures.none)
    (sym c.first_repeat-3.ensures ∙ c.in_ok-unless_at-3.ensures.none)
    (sym tasks ∙ c.in_ok-unless_at-4.ensures.none)
    (sym c.first_own_ancestor.ensures ∙ c.in_ok-unless_at-5.ensures.none)
    (sym classes ∙ c.in_ok-unless_at-6.ensures.none)
