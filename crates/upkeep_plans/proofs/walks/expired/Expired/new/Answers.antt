use Rattle.upkeep_plans.proofs.KeyWalks.{expired_at_begin}
use Rattle.upkeep_plans.proofs.walks.expired.Expired.new.Goals as goal

pub returns : goal.returns
returns c = expired_at_begin c.args.tables.now.world c.args.moment
