use Rattle.std.proofs.Common.{◌≡◌, ◌*◌, List, length, slice_get, sym, ap, ◌∙◌}
use Rattle.seat_lock.specs.declared.rows.SeatRow.{SeatRow}
use Rattle.seat_lock.specs.Shown.{PassView}
use Rattle.lock_tests.specs.Counts.{nowhere}
use Rattle.lock_tests.proofs.Adding.{whole, ready, idle_after, sum_after, total_is}
use Rattle.lock_tests.proofs.counting.count_in_threads.Goals as goal

pub add_in_threads-requires-clause-ready : goal.add_in_threads-requires-clause-ready
add_in_threads-requires-clause-ready g c κs within i p at =
    ready c.in_ok-tally.tally.rows.items nowhere c.in-Ok.lock.of c.args.times c.in-Ok.passes.items c.in-Ok.passes.items c.in_ok-tally.ensures.1 c.in-Ok.ensures.passes i p
    (ap (λ l. slice_get l i) (sym c.as_mut_slice.ensures.value) ∙ at)

pub close-tally-requires-clause-idle : goal.close-tally-requires-clause-idle
close-tally-requires-clause-idle g c i p at =
    let before : List PassView = c.in-Ok.passes.items in
    let after : List PassView = c.add_in_threads.new.passes in
    let same = c.as_mut_slice.ensures.value in
    let len : length after ≡ length before = c.add_in_threads.ensures.len ∙ ap length same in
    let size : length before ≡ c.in-Ok.passes.len = sym (ap length same) ∙ c.as_mut_slice.ensures.len in
    let all = whole after before c.in-Ok.passes.len (len ∙ size) size in
    idle_after c.in_ok-tally.tally.rows.items nowhere c.in-Ok.lock.of c.args.times before after c.in_ok-tally.ensures.1 c.in-Ok.ensures.passes len
    (λ j q r a b. c.add_in_threads.ensures.added j q r (ap (λ l. slice_get l j) same ∙ a) b) i p (ap (λ l. slice_get l i) (sym all) ∙ at)

pub returns : goal.returns
returns g c =
    let before : List PassView = c.in-Ok.passes.items in
    let after : List PassView = c.add_in_threads.new.passes in
    let same = c.as_mut_slice.ensures.value in
    let len : length after ≡ length before = c.add_in_threads.ensures.len ∙ ap length same in
    let size : length before ≡ c.in-Ok.passes.len = sym (ap length same) ∙ c.as_mut_slice.ensures.len in
    let all = whole after before c.in-Ok.passes.len (len ∙ size) size in
    let rows : List SeatRow = c.close-tally.result.rows.items in
    let long : length rows ≡ length before = c.close-tally.ensures.seats.0 ∙ (c.in-Ok.ensures.lock.0 ∙ sym c.in-Ok.ensures.seats) in
    let sum = sum_after c.in_ok-tally.tally.rows.items nowhere c.in-Ok.lock.of c.args.times before after c.in_ok-tally.ensures.1 c.in-Ok.ensures.passes len
    (λ j q r a b. c.add_in_threads.ensures.added j q r (ap (λ l. slice_get l j) same ∙ a) b) rows nowhere long (λ j q a. c.close-tally.ensures.state j q (ap (λ l. slice_get l j) all ∙ a)) in
    total_is rows c.close-tally.result.total c.args.seats c.args.times c.close-tally.result.kept (sum ∙ ap (λ n. n * c.args.times) c.in-Ok.ensures.seats) c.requires.1 c.ranges.times.fits
