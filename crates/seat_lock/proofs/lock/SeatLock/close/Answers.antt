use Rattle.std.proofs.Common.{rules, ◌≡◌, List, [], ◌++◌, length, slice_get, sym, ap, ◌∙◌, subst}
use Rattle.seat_lock.specs.Passes.{IsIdle}
use Rattle.seat_lock.specs.Shown.{ClosingView, PassView, TableId}
use Rattle.seat_lock.proofs.Handing.{last_left, left_at, share_at}
use Rattle.seat_lock.proofs.lock.SeatLock.close.Goals as goal

pub join-requires : goal.join-requires
join-requires g c =
    let inv = c.loop-pass.invariant in
    let p : PassView = c.in-Some.pass in
    let front : List PassView = c.pop.new.self.items in
    let all = last_left c.args.passes.items c.loop-pass.passes.items inv.0 p front inv.1 c.in-Some.ensures.items in
    let at = left_at c.args.passes.items front inv.0 p all in
    subst (λ (of : TableId). IsIdle of p) (sym (ap (λ (l : ClosingView). l.of) inv.2)) (c.requires.idle (length front) p at)

pub returns-clause-state : goal.returns-clause-state
returns-clause-state g c i p at =
    let inv = c.loop-pass.invariant in
    let none : c.loop-pass.passes.items ≡ [] = search rules in
    let all : c.args.passes.items ≡ inv.0 = inv.1 ∙ ap (λ (l : List PassView). l ++ inv.0) none in
    c.state.ensures.known i p.share (share_at inv.0 c.loop-pass.closing.back i p (ap (λ (l : ClosingView). l.back) inv.2) (ap (λ (l : List PassView). slice_get l i) (sym all) ∙ at))
