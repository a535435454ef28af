use Rattle.std.proofs.Common.{arith}
use Rattle.journal_format.proofs.WholeNumbers.{number_at}
use Rattle.journal_format.proofs.reader.first_number.Goals as goal

pub returns : goal.returns
returns c =
    let p = c.in_ok-head.ensures.cases in
    number_at c.args.width c.from_be_bytes.result c.args.bytes.now c.in_ok-head.head.now c.in_ok-head.rest.now c.copy_from_slice.new.self
    c.requires (λ i. omega (arith, c.type_inv.bytes i)) p.1 p.2 p.3 c.copy_from_slice.ensures.after c.from_be_bytes.ensures
