use Rattle.std.proofs.Common.{rules, refl}
use Rattle.queue_config.specs.Settings.{dispatcher_of}
use Rattle.queue_config.proofs.tables.dispatcher_of.Goals as goal

pub returns-in_err-count_at-3-clause-given : goal.returns-in_err-count_at-3-clause-given
unfolding dispatcher_of
returns-in_err-count_at-3-clause-given c =
    rw (c.in_ok-table.ensures, c.in_ok-count_at.ensures.given, c.in_ok-count_at-2.ensures.given) (search rules)

pub returns-clause-given : goal.returns-clause-given
unfolding dispatcher_of
returns-clause-given c =
    rw (c.in_ok-table.ensures, c.in_ok-count_at.ensures.given, c.in_ok-count_at-2.ensures.given, c.in_ok-count_at-3.ensures.given) refl
