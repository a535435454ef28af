use Rattle.plan_model.specs.UpkeepCommands.{does, refusals}
use Rattle.upkeep_plans.proofs.finish.finish.Goals as goal

pub finish-requires : goal.finish-requires
finish-requires c =
    let command = c.requires.0 in
    let done = c.requires.1 in
    record { told = c.plans_are_told.ensures.upkeep c.args.scene.now command c.args.draft c.args.answer c.is_good.ensures done.ranges done.unmet done.comes }

pub returns : goal.returns
returns c = λ command done.
    c.refusals_come_first.ensures.finished c.args.scene.now (refusals c.args.scene.now command) (does c.args.scene.now command) c.args.draft c.args.answer c.finish.result
    done.unmet done.comes c.finish.ensures
