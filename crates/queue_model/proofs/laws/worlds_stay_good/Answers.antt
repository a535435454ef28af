use Rattle.std.proofs.Common.{arith}
use Rattle.job_states.specs.Moment.{IsMoment, is_moment}
use Rattle.std.proofs.Common.{◌≡◌, ℕ, true}
use Rattle.queue_model.proofs.Good.{step_good, after_good, replay_good}
use Rattle.queue_model.proofs.laws.worlds_stay_good.Goals as goal

is_moment_is : (m : ℕ) → IsMoment m → is_moment m ≡ true
is_moment_is m h = grind arith

pub returns-clause-transition : goal.returns-clause-transition
returns-clause-transition c w end moment t good fits legal = step_good w end moment t good (is_moment_is moment fits) legal

pub returns-clause-transaction : goal.returns-clause-transaction
returns-clause-transaction c w end tx good legal = after_good w end tx good legal

pub returns-clause-replay : goal.returns-clause-replay
returns-clause-replay c w end txs good legal = replay_good w end txs good legal
