use Rattle.std.proofs.Common.{ap, filter, not, ◌==◌, ◌∙◌}
use Rattle.row_locks.specs.Seats.{locks_in}
use Rattle.row_locks.proofs.SeatLocks.{left, left_in_order, seen}
use Rattle.row_locks.proofs.seats.Seats.let_go.Goals as goal

pub invariant_of-self : goal.invariant_of-self
invariant_of-self c = left_in_order (λ v. v.items) c.args.seat c.self.inside.rows.entries c.remove.new.self.entries c.remove.ensures.entries c.remove.ensures.ordered c.self.invariant.rows_up

pub returns-clause-left : goal.returns-clause-left
returns-clause-left c =
    ap (λ es. locks_in (seen (λ v. v.items) es)) c.remove.ensures.entries
    ∙ left (λ v. v.items) c.args.seat c.self.inside.rows.entries c.self.invariant
    ∙ ap (λ seats. filter (λ lock. not (lock.seat == c.args.seat)) (locks_in seats)) c.self.view_is

pub returns-clause-in_order : goal.returns-clause-in_order
returns-clause-in_order c = left_in_order (λ v. v.items) c.args.seat c.self.inside.rows.entries c.remove.new.self.entries c.remove.ensures.entries c.remove.ensures.ordered c.self.invariant.rows_up
