use Rattle.plan_model.proofs.AllowedMoves as allowed
use Rattle.plan_model.proofs.drafts.pushes_are_allowed.Goals as goal

pub returns-clause-enqueue : goal.returns-clause-enqueue
returns-clause-enqueue c = allowed.enqueue

pub returns-clause-dispatch : goal.returns-clause-dispatch
returns-clause-dispatch c = allowed.dispatch

pub returns-clause-retry : goal.returns-clause-retry
returns-clause-retry c = allowed.retry

pub returns-clause-unblock : goal.returns-clause-unblock
returns-clause-unblock c = allowed.unblock

pub returns-clause-claim : goal.returns-clause-claim
returns-clause-claim c = allowed.claim

pub returns-clause-done : goal.returns-clause-done
returns-clause-done c = allowed.done

pub returns-clause-fail : goal.returns-clause-fail
returns-clause-fail c = allowed.fail

pub returns-clause-release : goal.returns-clause-release
returns-clause-release c = allowed.release

pub returns-clause-discard : goal.returns-clause-discard
returns-clause-discard c = allowed.discard

pub returns-clause-clear : goal.returns-clause-clear
returns-clause-clear c = allowed.clear

pub returns-clause-register : goal.returns-clause-register
returns-clause-register c = allowed.register

pub returns-clause-beat : goal.returns-clause-beat
returns-clause-beat c = allowed.beat

pub returns-clause-deregister : goal.returns-clause-deregister
returns-clause-deregister c = allowed.deregister

pub returns-clause-pause : goal.returns-clause-pause
returns-clause-pause c = allowed.pause

pub returns-clause-resume : goal.returns-clause-resume
returns-clause-resume c = allowed.resume

pub returns-clause-expire : goal.returns-clause-expire
returns-clause-expire c = allowed.expire
