use Rattle.std.proofs.Common.{rules, arith, ◌≡◌, ℕ, ◌<◌, List, [], length, ap, ◌∙◌}
use Rattle.seat_lock.specs.declared.lock.Pass.TheInside.{Inside}
use Rattle.seat_lock.specs.declared.rows.SeatRow.{SeatRow}
use Rattle.seat_lock.specs.Passes.{IsMade, shown}
use Rattle.seat_lock.specs.Views.{resting}
use Rattle.seat_lock.proofs.Kept.{cut_at, split_at}
use Rattle.seat_lock.proofs.Handing.{made, made_sound, dealt_more}
use Rattle.seat_lock.proofs.lock.deal.Goals as goal

pub split_seat-other-requires : goal.split_seat-other-requires
split_seat-other-requires g c =
    let key : g.row.T.Denot = c.args.table.now.key.value in
    let i : ℕ = c.loop-number._number in
    let all : length (g.T.Seated.rows key) ≡ c.args.seats = c.requires.seats in
    let within : i < c.args.seats = c.loop-number-test.true in
    (search rules, search rules, split_at g.T.Seated.rows g.T.Seated.origin key _ _ i (g.T.Seated.rows key) (ap (λ m. m.0) c.loop-number.invariant.1) (omega arith))

pub invariant_of-push_reserved : goal.invariant_of-push_reserved
invariant_of-push_reserved g c =
    let key : g.row.T.Denot = c.args.table.now.key.value in
    let i : ℕ = c.loop-number._number in
    let all : length (g.T.Seated.rows key) ≡ c.args.seats = c.requires.seats in
    let within : i < c.args.seats = c.loop-number-test.true in
    let cut = cut_at g.T.Seated.rows g.T.Seated.origin key _ i (g.T.Seated.rows key) (ap (λ m. m.0) c.loop-number.invariant.1) (omega arith) in
    made_sound record { seat = c.split_seat-other.result; ticket = 0 } cut.0 (c.split_seat-other.ensures.4 ∙ ap (λ v. (v, [])) cut.4)

pub loop-number-preserved : goal.loop-number-preserved
loop-number-preserved g c =
    let inv = c.loop-number.invariant in
    let key : g.row.T.Denot = c.args.table.now.key.value in
    let rows : List SeatRow = g.T.Seated.rows key in
    let o = g.T.Seated.origin key in
    let i : ℕ = c.loop-number._number in
    let all : length rows ≡ c.args.seats = c.requires.seats in
    let within : i < c.args.seats = c.loop-number-test.true in
    let cut = cut_at g.T.Seated.rows g.T.Seated.origin key _ i rows (ap (λ m. m.0) inv.1) (omega arith) in
    let did = c.split_seat-other.ensures in
    let p : Inside g.row.T.Denot = record { seat = c.split_seat-other.result; ticket = 0 } in
    let me : p.seat.me ≡ (resting cut.0, []) = did.4 ∙ ap (λ v. (v, [])) cut.4 in (
      did.0 ∙ inv.0,
      did.2 ∙ (λ k. (cut.3 k, (inv.1 k).1)),
      search rules,
      search rules,
      search rules,
      dealt_more (IsMade c.args.table.now.table_id rows o) c.loop-number.passes.items c.push_reserved.new.self.items (shown p) i c.push_reserved.ensures.items inv.2 inv.5
          (made c.args.table.now.table_id rows o i p cut.0 (did.3 ∙ inv.0) me cut.1 cut.2),
    )
