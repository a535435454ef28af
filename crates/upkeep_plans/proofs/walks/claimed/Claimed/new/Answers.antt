use Rattle.queue_model.specs.World.{is_claimed_by}
use Rattle.upkeep_plans.proofs.KeyWalks.{jobs_at_begin}
use Rattle.upkeep_plans.proofs.walks.claimed.Claimed.new.Goals as goal

pub returns : goal.returns
returns c = jobs_at_begin c.args.tables.now.world c.requires (is_claimed_by c.args.pid)
