use Rattle.std.proofs.Common.{List}
use Rattle.seat_lock.specs.Shown.{PassView}
use Rattle.lock_tests.specs.Counts.{nowhere}
use Rattle.lock_tests.proofs.Adding.{pair, ready}
use Rattle.lock_tests.proofs.tests.one_thread_waits_while_another_has_the_turn.Goals as goal

pub join-first-requires-after_bounds : goal.join-first-requires-after_bounds
join-first-requires-after_bounds g c κs within =
    let passes : List PassView = c.in-Ok.passes.items in
    let first : PassView = c.take_last-first.result in
    let second : PassView = c.take_last-second.result in
    let at = pair passes c.take_last-second.new.self.items c.take_last-first.new.self.items first second c.take_last-second.ensures.items c.take_last-first.ensures.items c.in-Ok.ensures.seats in
    let is_ready = ready c.in-Some.tally.rows.items nowhere c.in-Ok.lock.of 0 passes passes c.in-Some.ensures.1 c.in-Ok.ensures.passes in
    (is_ready 0 first at.0, is_ready 1 second at.1)
