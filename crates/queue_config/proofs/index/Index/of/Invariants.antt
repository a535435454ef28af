use Rattle.std.proofs.Common.{◌≡◌, drop, take}
use Rattle.std.specs.Option.{option_or}
use Rattle.queue_config.specs.Index.{ArePlaces}
use Rattle.queue_config.specs.Named.{first_clash, first_repeat, same_name}
use Rattle.queue_config.proofs.index.Index.of.Given as goal

abbrev pub invariant-loop-i : goal.invariant-loop-i
invariant-loop-i g l = record {
  places : ArePlaces g.X.HasName.name_of l.places (take l.i l.x-items);
  repeat : option_or l.repeat (first_clash (same_name g.X.HasName.name_of) (take l.i l.x-items) (drop l.i l.x-items)) ≡ first_repeat g.X.HasName.name_of l.x-items;
}
