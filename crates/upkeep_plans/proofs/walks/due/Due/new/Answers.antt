use Rattle.upkeep_plans.proofs.DueWalk.{due_at_begin}
use Rattle.upkeep_plans.proofs.walks.due.Due.new.Goals as goal

pub returns : goal.returns
returns c = due_at_begin c.args.tables.now.world c.args.moment c.requires
