use Rattle.std.proofs.Common.{arith, ◌≡◌, ◌-◌, Some, None, sym, ap, ◌∙◌}
use Rattle.std.proofs.lemmas.Bool.{lt-leb}
use Rattle.journal_format.specs.Utf8.{after_byte, has_room}
use Rattle.journal_format.proofs.TextSteps.{skip_begins, skip_on, skip_stops, skip_short, skip_ends}
use Rattle.journal_format.proofs.reader.Reader.stop_in_text.Goals as goal

pub loop-done-init : goal.loop-done-init
loop-done-init c = skip_begins c.args.len c.nothing-owed.result c.args.self.now.rest.now c.nothing-owed.ensures

pub returns-in_default : goal.returns-in_default
returns-in_default c = skip_short c.args.len c.loop-done.done c.loop-done.owed c.loop-done.self.rest.now c.args.self.now.rest.now c.loop-done-test.true c.in_default.ensures.cases c.loop-done.invariant

pub returns-in_default-after : goal.returns-in_default-after
returns-in_default-after c =
    let is : None ≡ after_byte c.loop-done.owed.left c.loop-done.owed.low c.loop-done.owed.high c.in-Some.byte = c.in_default-after.ensures in
    skip_stops c.args.len c.loop-done.done c.loop-done.owed c.in-Some.byte c.loop-done.self.rest.now c.in-Some.rest.now c.args.self.now.rest.now c.loop-done-test.true c.in-Some.ensures.cases
    (ap (has_room (c.args.len - 1 - c.loop-done.done)) (sym is)) c.loop-done.invariant

pub returns-then-len-done : goal.returns-then-len-done
returns-then-len-done c =
    let is : Some c.in-Some-after.next ≡ after_byte c.loop-done.owed.left c.loop-done.owed.low c.loop-done.owed.high c.in-Some.byte = c.in-Some-after.ensures in
    skip_stops c.args.len c.loop-done.done c.loop-done.owed c.in-Some.byte c.loop-done.self.rest.now c.in-Some.rest.now c.args.self.now.rest.now c.loop-done-test.true c.in-Some.ensures.cases
    (ap (has_room (c.args.len - 1 - c.loop-done.done)) (sym is) ∙ lt-leb c.in-Some-after.next.left (c.args.len - 1 - c.loop-done.done) c.if-len-done.true) c.loop-done.invariant

pub loop-done-preserved : goal.loop-done-preserved
loop-done-preserved c =
    skip_on c.args.len c.loop-done.done c.loop-done.owed c.in-Some-after.next c.in-Some.byte c.loop-done.self.rest.now c.in-Some.rest.now c.args.self.now.rest.now c.loop-done-test.true c.in-Some.ensures.cases c.in-Some-after.ensures c.if-len-done.false c.loop-done.invariant

pub returns : goal.returns
returns c = absurd (skip_ends c.args.len c.loop-done.done c.loop-done.owed c.loop-done.self.rest.now c.args.self.now.rest.now (omega arith) c.requires c.loop-done.invariant)
