use Rattle.std.proofs.Common.{◌≡◌, ◌++◌, map, filter, take, drop}
use Rattle.std.specs.Prelude.{Some}
use Rattle.queue_selector.specs.Groups.{selected, unpaused_names}
use Rattle.queue_selector.specs.Places.{is_left, names_at}
use Rattle.queue_selector.proofs.groups.poll_groups.Given as goal

abbrev pub invariant-loop-index : goal.invariant-loop-index
invariant-loop-index l = names_at l.names l.places.items ++ map Some (selected (drop l.index l.items) (filter (is_left (take l.index l.items) l.paused) l.names)) ≡ map Some (selected l.items (unpaused_names l.names l.paused))
