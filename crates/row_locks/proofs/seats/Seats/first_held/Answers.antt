use Rattle.std.proofs.Common.{arith, subst, Some, ◌∙◌}
use Rattle.std.proofs.lemmas.List.{get_or_default}
use Rattle.std.proofs.lemmas.List.Elements.{AllWithin-more}
use Rattle.row_locks.specs.Locks.{IsFree}
use Rattle.row_locks.specs.Seats.{IsLeastHolder, locks_in}
use Rattle.row_locks.proofs.seats.Seats.first_held.Goals as goal

pub returns-in-Some : goal.returns-in-Some
returns-in-Some c = record {
  within = c.loop-index-test.true;
  held = λ d. subst (λ asked. IsLeastHolder (locks_in c.args.self.now) c.args.seat asked.0 asked.1 (Some c.in-Some.by)) (c.index-rows-index.is ∙ get_or_default c.args.rows.now c.loop-index.index c.index-rows-index.result d c.loop-index-test.true) c.in-Some.ensures;
  before = c.loop-index.invariant;
}

pub loop-index-preserved : goal.loop-index-preserved
loop-index-preserved c =
    AllWithin-more (λ asked. IsFree (locks_in c.args.self.now) c.args.seat asked.0 asked.1) c.args.rows.now 0 c.loop-index.index c.loop-index.invariant
    (λ d. subst (λ asked. IsFree (locks_in c.args.self.now) c.args.seat asked.0 asked.1) (c.index-rows-index.is ∙ get_or_default c.args.rows.now c.loop-index.index c.index-rows-index.result d c.loop-index-test.true) c.in_default.ensures)

pub returns : goal.returns
returns c = λ k d below. c.loop-index.invariant k d (omega arith) (omega arith)
