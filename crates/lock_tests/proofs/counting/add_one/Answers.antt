use Rattle.std.proofs.Common.{◌≡◌, ℕ, List, set, slice_get, Some, sym, ap, ◌∙◌, subst, refl}
use Rattle.seat_lock.specs.declared.rows.SeatRow.{SeatRow}
use Rattle.seat_lock.specs.Known.{IsGiveable}
use Rattle.seat_lock.specs.Passes.{gave, took}
use Rattle.seat_lock.specs.Shown.{PassView}
use Rattle.lock_tests.specs.Counts.{added, nowhere}
use Rattle.lock_tests.proofs.Adding.{set_get, same_some, giveable}
use Rattle.lock_tests.proofs.counting.add_one.Goals as goal

pub give-requires-clause-state : goal.give-requires-clause-state
give-requires-clause-state g c =
    let p : PassView = c.args.pass.now in
    let rows : List SeatRow = c.take-tally.result.rows.items in
    let known = c.take-tally.ensures.state in
    let next = c.add.ensures p.share.row (ap (slice_get rows) (sym c.requires.number) ∙ known.row) ∙ ap (λ (n : ℕ). set rows n (added p.share.row)) (sym c.requires.number) in
    subst (λ (q : PassView). IsGiveable c.add.new.self.rows.items nowhere q.known q.share) (sym c.take-tally.ensures.pass) (giveable rows c.add.new.self.rows.items nowhere (took rows p) next refl known.origin)

pub returns-clause-pass : goal.returns-clause-pass
returns-clause-pass g c =
    let p : PassView = c.args.pass.now in
    let rows : List SeatRow = c.take-tally.result.rows.items in
    let i : ℕ = p.share.number in
    let next = c.add.ensures p.share.row (ap (slice_get rows) (sym c.requires.number) ∙ c.take-tally.ensures.state.row) ∙ ap (λ (n : ℕ). set rows n (added p.share.row)) (sym c.requires.number) in
    let there : slice_get (set rows i (added p.share.row)) i ≡ Some (added p.share.row) = set_get rows i (added p.share.row) p.share.row c.take-tally.ensures.state.row in
    let taken = c.take-tally.ensures.pass in
    let same : c.give.new.pass.share.row ≡ added p.share.row = same_some c.give.new.pass.share.row (added p.share.row) (sym c.give.ensures.row ∙ (λ k. slice_get (next k) (taken k).share.number) ∙ there) in
    c.give.ensures.pass ∙ (λ k. gave (same k) (taken k))
