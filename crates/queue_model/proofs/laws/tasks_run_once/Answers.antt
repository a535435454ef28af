use Rattle.std.proofs.lemmas.List.Elements.{All-from_recursion}
use Rattle.job_states.specs.declared.transition.Transition.TheVariants.{Run}
use Rattle.queue_model.specs.Replay.{runs_of, IsNewRun}
use Rattle.queue_model.proofs.Runs.{between, pairs, nothing_there}
use Rattle.queue_model.proofs.Steps.{step_is}
use Rattle.queue_model.proofs.laws.tasks_run_once.Goals as goal

pub returns-clause-once : goal.returns-clause-once
returns-clause-once c w end txs legal = pairs (runs_of txs) (between w end txs legal).apart

pub returns-clause-new : goal.returns-clause-new
returns-clause-new c w end txs legal = All-from_recursion (IsNewRun w) (runs_of txs) (between w end txs legal).new

pub returns-clause-recurring : goal.returns-clause-recurring
returns-clause-recurring c w end moment time task id good legal = let s = step_is w end moment (Run task time id) legal in nothing_there w moment task time id s.0 good s.1.legal
