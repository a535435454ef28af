use Rattle.queue_engine.proofs.Beginning.{either}
use Rattle.queue_engine.proofs.planned.commands_may_open.Goals as goal

pub returns : goal.returns
returns c = either c.plans_may_open.ensures.jobs c.plans_may_open.ensures.upkeep
