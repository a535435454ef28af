use Rattle.std.proofs.Common.{◌≡◌, List, length, is_some, true≢false, sym, ap, ◌∙◌, subst}
use Rattle.seat_lock.specs.declared.view.Share.{Share}
use Rattle.seat_lock.specs.Passes.{IsEnd}
use Rattle.seat_lock.specs.Shown.{ClosingView}
use Rattle.seat_lock.proofs.Kept.{closes_at}
use Rattle.seat_lock.proofs.Sums.{same_some}
use Rattle.seat_lock.proofs.closing.Closing.state.Goals as goal

pub unreachable-requires : goal.unreachable-requires
unreachable-requires g c =
    let key : g.row.T.Denot = c.self.inside.table.shared.key.value in
    let ms : List Share = c.self.inside.seat.me.0.shares in
    let all : length ms ≡ length (g.T.Seated.rows key) = ap (λ (l : ClosingView). length l.back) c.self.view_is ∙ (c.requires ∙ sym (ap (λ (l : ClosingView). l.seats) c.self.view_is)) in
    let last = closes_at g.T.Seated.rows g.T.Seated.origin key c.self.inside.table.shared.table_id _ _ ms _ _ _ (ap (λ m. m.0) c.self.invariant.3) all c.close_with-closed.ensures.values.2 c.take-slot.ensures.value in
    true≢false (ap is_some (sym last.1 ∙ c.in-None.is))

pub returns : goal.returns
returns g c =
    let key : g.row.T.Denot = c.self.inside.table.shared.key.value in
    let ms : List Share = c.self.inside.seat.me.0.shares in
    let all : length ms ≡ length (g.T.Seated.rows key) = ap (λ (l : ClosingView). length l.back) c.self.view_is ∙ (c.requires ∙ sym (ap (λ (l : ClosingView). l.seats) c.self.view_is)) in
    let last = closes_at g.T.Seated.rows g.T.Seated.origin key c.self.inside.table.shared.table_id _ _ ms _ _ _ (ap (λ m. m.0) c.self.invariant.3) all c.close_with-closed.ensures.values.2 c.take-slot.ensures.value in
    let same = same_some last.0 c.in-Some.state (sym last.1 ∙ c.in-Some.is) in
    subst (λ (z : ClosingView × g.row.T.Denot). IsEnd z.0 (g.T.Seated.rows z.1) (g.T.Seated.origin z.1)) (λ i. (c.self.view_is i, same i)) last.2
