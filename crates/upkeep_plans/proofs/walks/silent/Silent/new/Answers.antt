use Rattle.upkeep_plans.proofs.KeyWalks.{silent_at_begin}
use Rattle.upkeep_plans.proofs.walks.silent.Silent.new.Goals as goal

pub returns : goal.returns
returns c = silent_at_begin c.args.scene.now c.is_good.ensures.book.world
