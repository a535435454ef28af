use Rattle.std.proofs.Common.{◌≡◌, ◌+◌, cond, Some, take, drop, sym, ap, ◌∙◌}
use Rattle.std.specs.HashMap.{get}
use Rattle.std.specs.List.{list_any}
use Rattle.std.specs.Option.{is_some}
use Rattle.std.specs.Str.{bytes_eq}
use Rattle.queue_config.specs.Index.{IsIndex}
use Rattle.queue_config.specs.Named.{first_clash, first_repeat, same_name}
use Rattle.queue_config.proofs.ClashLemmas.{clash_step, clash_end}
use Rattle.queue_config.proofs.IndexLemmas.{places_more, places_end, there, repeat_more, repeat_end}
use Rattle.queue_config.proofs.index.Index.of.Goals as goal

pub loop-i-preserved : goal.loop-i-preserved
loop-i-preserved g c =
    let name_of = g.X.HasName.name_of in
    let xs = c.as_slice-x-items.result.now in
    let i = c.loop-i.i in
    let x = c.x-item.result in
    let next = first_clash (same_name name_of) (take (i + 1) xs) (drop (i + 1) xs) in
    let here : c.in_ok-is_there.is_there ≡ list_any (λ y. bytes_eq (name_of y) (name_of x)) (take i xs) =
    c.in_ok-is_there.ensures.0 ∙ ap (λ name. is_some (get bytes_eq c.loop-i.places name)) c.name.ensures ∙ there name_of c.loop-i.places (take i xs) (name_of x) c.loop-i.invariant.places in
    record {
      places = places_more name_of c.loop-i.places c.note.new.places xs i x x c.loop-i-test.true c.x-item.is (rw c.name.ensures at c.in_ok-is_there.ensures.1) c.loop-i.invariant.places;
      repeat = rw c.first_of-repeat.ensures (repeat_more c.loop-i.repeat c.in_ok-is_there.is_there i (first_clash (same_name name_of) (take i xs) (drop i xs)) next (first_repeat name_of xs) (clash_step (same_name name_of) xs i x x c.loop-i-test.true c.x-item.is ∙ ap (λ b. cond b (Some i) next) (sym here)) c.loop-i.invariant.repeat);
    }

pub invariant_of-result : goal.invariant_of-result
invariant_of-result g c =
    let name_of = g.X.HasName.name_of in
    let xs = c.as_slice-x-items.result.now in
    let all : IsIndex name_of xs c.loop-i.places c.loop-i.repeat = record {
      are_places = places_end name_of c.loop-i.places xs c.loop-i.i c.loop-i-test.false c.loop-i.invariant.places;
      is_repeat = repeat_end c.loop-i.repeat _ (first_repeat name_of xs) (clash_end (same_name name_of) xs c.loop-i.i c.loop-i-test.false) c.loop-i.invariant.repeat;
    } in
    rw c.as_slice-x-items.ensures at all
