use Rattle.std.proofs.Common.{rules, sym, ap, ◌∙◌}
use Rattle.seat_lock.specs.Shown.{PassView, ClosingView}
use Rattle.seat_lock.proofs.Kept.{join_at}
use Rattle.seat_lock.proofs.Handing.{idle_rests}
use Rattle.seat_lock.proofs.closing.Closing.join.Goals as goal

pub join_seat-requires : goal.join_seat-requires
join_seat-requires g c =
    let me = idle_rests _ c.pass.inside _ c.pass.invariant c.pass.view_is c.requires in
    let of = ap (λ (q : PassView). q.of) c.pass.view_is ∙ (c.requires.of_it ∙ ap (λ (l : ClosingView). l.of) (sym c.self.view_is)) in (
      c.self.invariant.2,
      of,
      ap (λ m. m.1) me,
      search rules,
      join_at g.T.Seated.rows g.T.Seated.origin c.self.inside.table.shared.key.value _ _ _ _ c.self.inside.seat.me.0.shares (ap (λ m. m.0) c.self.invariant.3) (ap (λ m. m.0) me),
    )
