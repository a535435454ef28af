use Rattle.queue_engine.proofs.Beginning.{either_short}
use Rattle.queue_engine.proofs.planned.commands_are_short.Goals as goal

pub returns : goal.returns
returns c = either_short c.plans_are_short.ensures.jobs c.plans_are_short.ensures.upkeep
