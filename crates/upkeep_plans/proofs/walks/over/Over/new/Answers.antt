use Rattle.plan_model.specs.UpkeepCommands.{is_over}
use Rattle.upkeep_plans.proofs.KeyWalks.{jobs_at_begin}
use Rattle.upkeep_plans.proofs.walks.over.Over.new.Goals as goal

pub returns : goal.returns
returns c = jobs_at_begin c.args.scene.now.book.world c.is_good.ensures.book.world (is_over c.args.scene.now)
