use Rattle.std.proofs.Common.{◌≡◌, ◌++◌, map, filter}
use Rattle.std.specs.Prelude.{Some, slice_range}
use Rattle.queue_selector.specs.Places.{is_left, names_at}
use Rattle.queue_selector.proofs.groups.add_left.Given as goal

abbrev pub invariant-loop-place : goal.invariant-loop-place
invariant-loop-place l = names_at l.names l.places.items ≡ names_at l.names l.initial.places.items ++ map Some (filter (is_left l.earlier l.paused) (slice_range l.names l.fn.run.start l.place))
