use Rattle.std.proofs.Common.{◌≡◌, map, take}
use Rattle.trace_lines.proofs.words.texts_of.Given as goal

abbrev pub invariant-loop-item : goal.invariant-loop-item
invariant-loop-item l = l.texts.items ≡ map (λ s. s.now) (take l.item-index l.items)
