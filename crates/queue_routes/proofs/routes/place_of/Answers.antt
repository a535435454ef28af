use Rattle.std.proofs.Common.{inr}
use Rattle.std.proofs.lemmas.Result.{err_from_is_err_and}
use Rattle.queue_routes.proofs.WayLemmas.{place_by-none, place_by-other, place_by-method}
use Rattle.queue_routes.proofs.routes.place_of.Goals as goal

pub returns-in_err-place : goal.returns-in_err-place
returns-in_err-place c =
    let p = err_from_is_err_and c.from_residual-in_err-place.result c.from_residual-in_err-place.ensures.1 in
    let ways = rw (c.deref.ensures.value, c.in_ok-segments.ensures) at c.in_err-place.ensures in
    rw (p.1, p.2) (place_by-none c.args.method.now _ c.in_err-place.field-0.0 ways)

pub returns-then-ne : goal.returns-then-ne
returns-then-ne c =
    let ways = rw (c.deref.ensures.value, c.in_ok-segments.ensures) at c.in_ok-place.ensures in
    inr (place_by-other c.args.method.now _ c.in_ok-place.place ways (rw c.method.ensures at c.if-ne.ensures))

pub returns : goal.returns
returns c =
    let ways = rw (c.deref.ensures.value, c.in_ok-segments.ensures) at c.in_ok-place.ensures in
    place_by-method c.args.method.now _ c.in_ok-place.place ways (rw c.method.ensures at c.if-ne.ensures)
