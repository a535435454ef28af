use Rattle.std.proofs.Common.{arith}
use Rattle.journal_keeper.proofs.Opening.{keeps_then}
use Rattle.journal_keeper.proofs.Others.{through}
use Rattle.std.proofs.lemmas.Result.{err_from_is_err_and}
use Rattle.journal_replay.proofs.Faults.{handed_on}
use Rattle.journal_replay.proofs.Runs.{alike_then, fault_since, opens_since}
use Rattle.journal_replay.proofs.opening.replay_all.Goals as goal

pub returns-in_err-replay_next-clause-any_moment : goal.returns-in_err-replay_next-clause-any_moment
returns-in_err-replay_next-clause-any_moment g c = keeps_then _ _ _ c.loop.invariant.any_moment c.replay_next.ensures.any_moment

pub returns-in_err-replay_next-clause-fault : goal.returns-in_err-replay_next-clause-fault
returns-in_err-replay_next-clause-fault g c =
    let p = err_from_is_err_and c.from_residual.result c.from_residual.ensures.1 in
    handed_on _ _ _ _ p.1 p.2 (fault_since _ _ _ c.loop.invariant.other c.loop.invariant.alike _ c.in_err-replay_next.ensures.fault)

pub returns-clause-opened : goal.returns-clause-opened
returns-clause-opened g c = opens_since _ _ _ c.loop.invariant.other c.loop.invariant.alike _ _ (rw c.if-branch.false at c.in_ok-replay_next.ensures.steps)

pub loop-preserved : goal.loop-preserved
loop-preserved g c =
    let so_far = c.loop.invariant in
    let step = rw c.if-branch.true at c.in_ok-replay_next.ensures.steps in
    record {
      replays = step.0;
      alike = alike_then _ _ _ so_far.other so_far.alike step.1;
      any_moment = keeps_then _ _ _ so_far.any_moment c.replay_next.ensures.any_moment;
      other = through _ _ _ so_far.other c.replay_next.ensures.other;
      later = omega (arith, so_far.later, c.replay_next.ensures.cause.later);
    }

pub returns-clause-any_moment : goal.returns-clause-any_moment
returns-clause-any_moment g c = keeps_then _ _ _ c.loop.invariant.any_moment c.replay_next.ensures.any_moment
