use Rattle.std.proofs.Common.{◌≡◌, [], drop, length}
use Rattle.toml.specs.View.{items_view}
use Rattle.toml_members.specs.Kind.{each}
use Rattle.toml_members.proofs.array.elements.Given as goal

abbrev pub invariant-loop-value : goal.invariant-loop-value
invariant-loop-value g l =
    record {
      judged : each (g.E.Element.judged l.context) l.array l.elements.items (items_view (drop l.value-index l.values)) ≡ each (g.E.Element.judged l.context) l.array [] (items_view l.values);
      holds : g.E.Element.holds l.context l.elements.items;
      count : length l.elements.items ≡ l.value-index;
    }
