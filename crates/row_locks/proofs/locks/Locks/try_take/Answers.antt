use Rattle.std.proofs.Common.{List, ap, subst, sym}
use Rattle.std.proofs.lemmas.Result.{err_from_is_err_and}
use Rattle.row_locks.specs.Locks.{AreSoundLocks, Lock, TakesRows}
use Rattle.row_locks.specs.Seats.{IsFirstHeld, locks_in}
use Rattle.row_locks.proofs.Refusals.{all_free, first_refusal}
use Rattle.row_locks.proofs.SeatLocks.{locks_in_order}
use Rattle.row_locks.proofs.Takings.{exclusive_more, taken_moved}
use Rattle.row_locks.proofs.locks.Locks.try_take.Goals as goal

pub returns-in-Some-clause-fault : goal.returns-in-Some-clause-fault
returns-in-Some-clause-fault c =
    let found = subst (λ (locks : List Lock). IsFirstHeld locks c.args.seat c.deref.result.now c.in-Some.index c.in-Some.by) c.self.view_is c.in-Some.ensures in
    first_refusal c.args.self.now c.args.seat c.args.rows.items c.sort_rows.new.rows.items c.in-Some.index c.in-Some.by c.swap_remove-row.result c.sort_rows.ensures.permutation c.sort_rows.ensures.in_order
    (rw c.deref.ensures.value at found)
    c.swap_remove-row.ensures.value

pub returns-in-Some-clause-sound : goal.returns-in-Some-clause-sound
returns-in-Some-clause-sound c = subst AreSoundLocks c.self.view_is c.self.invariant

pub invariant_of-self : goal.invariant_of-self
invariant_of-self c = subst AreSoundLocks (ap locks_in (sym c.in_err-add.ensures.kept)) c.self.invariant

pub returns-in_err-add-clause-sound : goal.returns-in_err-add-clause-sound
returns-in_err-add-clause-sound c = subst AreSoundLocks (ap locks_in (sym c.in_err-add.ensures.kept)) c.self.invariant

pub returns-in_err-add-clause-fault : goal.returns-in_err-add-clause-fault
returns-in_err-add-clause-fault c =
    let p = err_from_is_err_and c.from_residual.result c.from_residual.ensures.1 in
    rw (p.1, p.2) (all_free (locks_in c.self.inside.seats) c.args.self.now c.args.seat c.args.rows.items c.sort_rows.new.rows.items c.deref.result.now c.self.view_is c.deref.ensures.value c.sort_rows.ensures.permutation c.in_default.ensures)

takes : (c : goal.In_ok-add) → TakesRows c.args.self.now (locks_in c.add.new.self) c.args.seat c.args.rows.items
takes c = record {
  free = all_free (locks_in c.self.inside.seats) c.args.self.now c.args.seat c.args.rows.items c.sort_rows.new.rows.items c.deref.result.now c.self.view_is c.deref.ensures.value c.sort_rows.ensures.permutation c.in_default.ensures;
  taken =
      rw (← c.self.view_is)
      (taken_moved (locks_in c.self.inside.seats) (locks_in c.add.new.self) c.args.seat c.args.rows.items c.sort_rows.new.rows.items c.sort_rows.ensures.permutation c.in_ok-add.ensures.taken);
}

sound : (c : goal.In_ok-add) → AreSoundLocks (locks_in c.add.new.self)
sound c = record {
  in_order = locks_in_order c.add.new.self c.in_ok-add.ensures.in_order;
  exclusive = exclusive_more c.args.self.now (locks_in c.add.new.self) c.args.seat c.args.rows.items (takes c).taken (subst AreSoundLocks c.self.view_is c.self.invariant).exclusive (takes c).free;
}

pub invariant_of-self-2 : goal.invariant_of-self-2
invariant_of-self-2 c = sound c

pub returns-clause-taken : goal.returns-clause-taken
returns-clause-taken c = takes c

pub returns-clause-sound : goal.returns-clause-sound
returns-clause-sound c = sound c
