use Rattle.std.proofs.Common.{◌≡◌, ◌-◌, slice_get, sym, ap, ◌∙◌, arith}
use Rattle.queue_config.specs.Named.{find_named}
use Rattle.queue_config.proofs.IndexLemmas.{place_found, place_none}
use Rattle.queue_config.proofs.index.Index.find.Goals as goal

pub returns-in_err-place : goal.returns-in_err-place
returns-in_err-place g c =
    rw (c.from_residual.ensures, ← c.self.view_is) (sym (place_none g.X.HasName.name_of 0 c.self.inside.list c.args.name.now (sym (c.self.invariant.are_places c.args.name.now) ∙ sym c.in_err-place.ensures.value)))

pub returns : goal.returns
returns g c =
    let list = c.self.inside.list in
    let place = c.in_ok-place.place.now in
    let found = place_found g.X.HasName.name_of 0 list c.args.name.now place (sym (c.self.invariant.are_places c.args.name.now) ∙ sym c.in_ok-place.ensures.value) in
    let same : place - 0 ≡ place = omega arith in
    c.element_at.ensures
    ∙ ap (λ xs. slice_get xs place) c.as_slice.ensures
    ∙ ap (slice_get list) (sym same)
    ∙ found.1
    ∙ ap (find_named g.X.HasName.name_of c.args.name.now) c.self.view_is
