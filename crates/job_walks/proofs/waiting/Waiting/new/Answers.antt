use Rattle.plan_model.specs.Orders.{is_blocked_at}
use Rattle.job_walks.proofs.Selections.{at_begin}
use Rattle.job_walks.proofs.waiting.Waiting.new.Goals as goal

pub returns : goal.returns
returns c = at_begin c.args.tables.now.world (is_blocked_at c.args.key.now)
