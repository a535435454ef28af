use Rattle.std.proofs.Common.{rules, refl}
use Rattle.queue_config.specs.Settings.{limit_of}
use Rattle.queue_config.proofs.class.limit_of.Goals as goal

pub returns-in_err-count_at-2-clause-given : goal.returns-in_err-count_at-2-clause-given
unfolding limit_of
returns-in_err-count_at-2-clause-given c =
    let group = rw c.as_str.ensures.same at c.in_ok-name_or.ensures.given in
    let key = rw (c.optional.ensures, c.optional-2.ensures) at c.in_ok-key_from.ensures.given in
    rw (c.in_ok-table.ensures, group, key, c.in_ok-count_at.ensures.given) (search rules)

pub returns-in_err-discards_in-clause-given : goal.returns-in_err-discards_in-clause-given
unfolding limit_of
returns-in_err-discards_in-clause-given c =
    let group = rw c.as_str.ensures.same at c.in_ok-name_or.ensures.given in
    let key = rw (c.optional.ensures, c.optional-2.ensures) at c.in_ok-key_from.ensures.given in
    rw (c.in_ok-table.ensures, group, key, c.in_ok-count_at.ensures.given, c.in_ok-count_at-2.ensures.given) (search rules)

pub returns-clause-given : goal.returns-clause-given
unfolding limit_of
returns-clause-given c =
    let group = rw c.as_str.ensures.same at c.in_ok-name_or.ensures.given in
    let key = rw (c.optional.ensures, c.optional-2.ensures) at c.in_ok-key_from.ensures.given in
    let discard = rw c.optional-3.ensures at c.in_ok-discards_in.ensures in
    rw (c.in_ok-table.ensures, group, key, c.in_ok-count_at.ensures.given, c.in_ok-count_at-2.ensures.given, discard) refl
