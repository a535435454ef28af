use Rattle.std.proofs.Common.{ℕ, List, ap, subst, sym, None, Some, ◌∙◌}
use Rattle.std.specs.Map.Iter.{deref_pair}
use Rattle.std.proofs.lemmas.Bool.{false≢true}
use Rattle.std.proofs.lemmas.List.Elements.{All-head}
use Rattle.std.proofs.lemmas.Map.Iter.{rest_all, rest_more}
use Rattle.job_states.specs.declared.row.Row.{Row}
use Rattle.job_states.specs.declared.row.Mode.{Mode}
use Rattle.row_locks.specs.Asked.{row_of}
use Rattle.row_locks.specs.Seats.{AreSeatsInOrder, BySeat, IsAgainst, IsInOrder, IsLeastHolder, locks_in}
use Rattle.row_locks.proofs.Holders.{least_first, least_later, least_none}
use Rattle.row_locks.proofs.SeatLocks.{seen, tail_in_order}
use Rattle.row_locks.proofs.seats.Seats.holder.Goals as goal
use Rattle.row_locks.proofs.seats.Seats.holder.Goals.{else-by-seat-via-then-by-seat+else-is_against, else-by-seat-via-else-by-seat}

pub loop-by-init : goal.loop-by-init
loop-by-init c =
    let start = c.into_iter-by-iterator.ensures.into_iter_gives ∙ c.iter-by-items.ensures.rest in
    record {
      in_order = subst (λ es. AreSeatsInOrder (seen (λ v. v.items) es)) (sym start) c.self.invariant;
      rest = λ least is_least. subst (λ (seats : BySeat). IsLeastHolder (locks_in seats) c.args.seat (row_of c.args.row) c.args.mode least) (ap (seen (λ v. v.items)) start ∙ c.self.view_is) is_least;
    }

pub is_against-requires : goal.is_against-requires
is_against-requires c =
    let turn = rest_more deref_pair c.loop-by.by-iterator c.next.new.self c.next.result (c.in-Some.by, c.in-Some.held) c.in-Some.is c.next.ensures.steps in
    let up = subst (λ es. AreSeatsInOrder (seen (λ v. v.items) es)) turn c.loop-by.invariant.in_order in
    subst IsInOrder (sym c.deref.ensures.value) (All-head (λ s. IsInOrder s.1) (c.in-Some.by.now, c.in-Some.held.now.items) (seen (λ v. v.items) c.next.new.self) up.rows_up)

pub returns-then-is_against : goal.returns-then-is_against
returns-then-is_against c =
    let row = row_of c.args.row in
    let seat : ℕ × List (Row × Mode) = (c.in-Some.by.now, c.in-Some.held.now.items) in
    let later = seen (λ v. v.items) c.next.new.self in
    let turn = rest_more deref_pair c.loop-by.by-iterator c.next.new.self c.next.result (c.in-Some.by, c.in-Some.held) c.in-Some.is c.next.ensures.steps in
    let up = subst (λ es. AreSeatsInOrder (seen (λ v. v.items) es)) turn c.loop-by.invariant.in_order in
    let against = subst (λ rows. IsAgainst rows row c.args.mode) c.deref.ensures.value (c.is_against.ensures.0 c.if-is_against.true) in
    c.loop-by.invariant.rest (Some c.in-Some.by.now) (subst (λ es. IsLeastHolder (locks_in (seen (λ v. v.items) es)) c.args.seat row c.args.mode (Some c.in-Some.by.now)) (sym turn)
    (least_first seat later c.args.seat row c.args.mode up c.if-by-seat.true against))

pub loop-by-preserved : goal.loop-by-preserved
loop-by-preserved c =
    let row = row_of c.args.row in
    let seat : ℕ × List (Row × Mode) = (c.in-Some.by.now, c.in-Some.held.now.items) in
    let later = seen (λ v. v.items) c.next.new.self in
    let turn = rest_more deref_pair c.loop-by.by-iterator c.next.new.self c.next.result (c.in-Some.by, c.in-Some.held) c.in-Some.is c.next.ensures.steps in
    let up = subst (λ es. AreSeatsInOrder (seen (λ v. v.items) es)) turn c.loop-by.invariant.in_order in
    record {
      in_order = tail_in_order seat later up;
      rest = λ least is_least. c.loop-by.invariant.rest least (subst (λ es. IsLeastHolder (locks_in (seen (λ v. v.items) es)) c.args.seat row c.args.mode least) (sym turn)
          (least_later seat later c.args.seat row c.args.mode least (λ other against. elim c.else-by-seat.branch [
            | else-by-seat-via-then-by-seat+else-is_against w ↦
                false≢true (sym w.if-is_against.false ∙ w.is_against.ensures.1 (subst (λ rows. IsAgainst rows row c.args.mode) (sym w.deref.ensures.value) against))
            | else-by-seat-via-else-by-seat w ↦ other w.if-by-seat.false
          ]) is_least));
    }

pub returns : goal.returns
returns c =
    let row = row_of c.args.row in
    let over = rest_all deref_pair c.loop-by.by-iterator c.next.new.self c.next.result c.in-None.is c.next.ensures.steps in
    c.loop-by.invariant.rest None (subst (λ es. IsLeastHolder (locks_in (seen (λ v. v.items) es)) c.args.seat row c.args.mode None) (sym over) (least_none c.args.seat row c.args.mode))
