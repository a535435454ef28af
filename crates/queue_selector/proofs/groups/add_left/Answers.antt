use Rattle.std.proofs.Common.{[], ap, arith, sym, ◌<◌, length, ◌∙◌}
use Rattle.std.proofs.lemmas.List.{get_or_default}
use Rattle.queue_selector.specs.Places.{is_left, names_at}
use Rattle.queue_selector.proofs.Left.{place_fails, place_passes}
use Rattle.queue_selector.proofs.groups.add_left.Goals as goal
use Rattle.queue_selector.proofs.groups.add_left.Goals.{then-is_left+in_ok-push, else-is_left}

pub loop-place-preserved : goal.loop-place-preserved
loop-place-preserved c =
    let names = c.args.names.now in
    let left = is_left c.args.earlier.now c.args.paused.now in
    let before = names_at names c.args.places.now.items in
    let i = c.loop-place.place in
    let within : i < length names = omega arith in
    let name_is = get_or_default names i [] c.index-names-place.result within ∙ sym c.index-names-place.is in
    elim c.if-is_left.branch [
      | then-is_left+in_ok-push w ↦
          rw (w.places-is, w.in_ok-push.ensures.items) (place_passes names left before c.loop-place.places.items c.args.run.start i c.loop-place.auto.place within (ap left name_is ∙ sym c.is_left.ensures ∙ w.if-is_left.true) c.loop-place.invariant)
      | else-is_left w ↦
          rw w.places-is (c.loop-place.invariant ∙ place_fails names left before c.args.run.start i c.loop-place.auto.place within (ap left name_is ∙ sym c.is_left.ensures ∙ w.if-is_left.false))
    ]
