use Rattle.std.proofs.Common.{arith, ap, set, length-set}
use Rattle.std.proofs.lemmas.Option.{slice_get_within}
use Rattle.seat_lock.specs.declared.rows.SeatRow.{SeatRow}
use Rattle.lock_tests.specs.Counts.{added}
use Rattle.lock_tests.proofs.Adding.{sum_set, same_row}
use Rattle.lock_tests.proofs.tally.Tally.add.Goals as goal

pub invariant_of-self : goal.invariant_of-self
invariant_of-self c =
    let t = c.args.self.now in
    let r : SeatRow = c.index_mut.result.now in
    record {
      few = (let h = length-set t.rows.items c.args.number (added r) in let f = t.few in omega arith);
      kept = sum_set t.rows.items c.args.number r t.total (slice_get_within t.rows.items c.args.number c.requires.0 c.requires.1) c.index_mut.ensures.value t.kept;
    }

pub returns : goal.returns
returns c r e = ap (λ (z : SeatRow). set c.args.self.now.rows.items c.args.number (added z)) (same_row c.args.self.now.rows.items c.args.number c.index_mut.result.now r c.index_mut.ensures.value e)
