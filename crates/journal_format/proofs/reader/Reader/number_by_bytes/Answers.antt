use Rattle.std.proofs.Common.{arith, ◌≡◌, ◌<◌, ◌+◌, ◌-◌, ◌*◌, ◌/◌, ◌⊎◌, [], ◌∷◌, Err, inl, inr, lit<, ap, sym, ◌∙◌}
use Rattle.journal_format.proofs.WholeNumbers.{number_range}
use Rattle.journal_format.proofs.NumberSteps.{begins, goes_on, stops, stops_short, ends, fits, power_fits, below_power, at_prefix}
use Rattle.journal_format.proofs.reader.Reader.number_by_bytes.Goals.{then-next-least-via-then-next-least, then-next-least-via-else-next-least+then-most-part}
use Rattle.journal_format.proofs.reader.Reader.number_by_bytes.Goals as goal

pub loop-done-init : goal.loop-done-init
loop-done-init c = begins c.args.least c.args.most c.args.width c.args.self.now.rest.now c.requires.order c.requires.most

pub pow-part-requires : goal.pow-part-requires
pow-part-requires c = power_fits c.args.width c.loop-done.done c.requires.width c.loop-done-test.true

pub returns-in_default-clause-reads : goal.returns-in_default-clause-reads
returns-in_default-clause-reads c =
    let e : c.loop-done.self.rest.now ≡ [] = c.in_default.ensures.cases in
    stops_short c.args.least c.args.most c.args.width c.loop-done.done c.loop-done.n c.args.self.now.rest.now c.loop-done-test.true (at_prefix _ _ _ _ _ _ _ _ e c.loop-done.invariant) ∙ ap Err (sym e)

pub overflow_mul-next : goal.overflow_mul-next
overflow_mul-next c =
    let h = fits c.args.least c.args.most c.args.width c.loop-done.done c.loop-done.n 0 c.loop-done.self.rest.now c.args.self.now.rest.now c.loop-done-test.true c.ranges.most.fits (lit< tt) c.loop-done.invariant in
    omega arith

pub overflow_add-next : goal.overflow_add-next
overflow_add-next c =
    let h = fits c.args.least c.args.most c.args.width c.loop-done.done c.loop-done.n c.in-Some.byte c.loop-done.self.rest.now c.args.self.now.rest.now c.loop-done-test.true c.ranges.most.fits c.type_inv.byte.fits c.loop-done.invariant in
    omega arith

pub nonzero_div-least : goal.nonzero_div-least
nonzero_div-least c = rw c.pow-part.ensures (below_power (c.args.width - 1 - c.loop-done.done))

pub nonzero_div-most : goal.nonzero_div-most
nonzero_div-most c = rw c.pow-part.ensures (below_power (c.args.width - 1 - c.loop-done.done))

pub returns-then-next-least-clause-reads : goal.returns-then-next-least-clause-reads
returns-then-next-least-clause-reads c =
    let e : c.loop-done.self.rest.now ≡ c.in-Some.byte ∷ c.in-Some.rest.now = c.in-Some.ensures.cases in
    let out : (c.loop-done.n * 256 + c.in-Some.byte < c.args.least / c.pow-part.result) ⊎ (c.args.most / c.pow-part.result < c.loop-done.n * 256 + c.in-Some.byte) = elim c.then-next-least.branch [
      | then-next-least-via-then-next-least w ↦ inl w.if-next-least.true
      | then-next-least-via-else-next-least+then-most-part w ↦ inr w.if-most-part.true
    ] in
    stops c.args.least c.args.most c.args.width c.loop-done.done c.loop-done.n c.in-Some.byte c.pow-part.result c.in-Some.rest.now c.args.self.now.rest.now c.loop-done-test.true c.pow-part.ensures out (at_prefix _ _ _ _ _ _ _ _ e c.loop-done.invariant) ∙ ap Err (sym e)

pub loop-done-preserved : goal.loop-done-preserved
loop-done-preserved c =
    let e : c.loop-done.self.rest.now ≡ c.in-Some.byte ∷ c.in-Some.rest.now = c.in-Some.ensures.cases in
    goes_on c.args.least c.args.most c.args.width c.loop-done.done c.loop-done.n c.in-Some.byte c.pow-part.result c.in-Some.rest.now c.args.self.now.rest.now c.loop-done-test.true c.in-Some.ensures.byte c.pow-part.ensures c.if-next-least.false c.if-most-part.false (at_prefix _ _ _ _ _ _ _ _ e c.loop-done.invariant)

pub returns-clause-reads : goal.returns-clause-reads
returns-clause-reads c = ends c.args.least c.args.most c.args.width c.loop-done.done c.loop-done.n c.loop-done.self.rest.now c.args.self.now.rest.now (omega arith) c.loop-done.invariant

pub returns-clause-range : goal.returns-clause-range
returns-clause-range c = number_range c.args.width c.args.least c.args.most c.loop-done.n c.args.self.now.rest.now c.loop-done.self.rest.now c.requires.order c.requires.most (ends c.args.least c.args.most c.args.width c.loop-done.done c.loop-done.n c.loop-done.self.rest.now c.args.self.now.rest.now (omega arith) c.loop-done.invariant)
