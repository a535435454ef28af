use Rattle.std.proofs.Common.{rules, refl}
use Rattle.job_states.specs.declared.command.Command.TheVariants.{Prune}
use Rattle.plan_model.specs.UpkeepCommands.{prune_first}
use Rattle.plan_scenes.specs.Begun.{ComesTo}
use Rattle.upkeep_plans.proofs.prune.prune.Goals as goal

pub finish-requires : goal.finish-requires
finish-requires c =
    let s = c.args.scene.now in
    let comes : ComesTo s (prune_first s) c.in_ok-draft.draft c.in_ok-draft.answer = search rules in
    (Prune, record { ranges = tt; unmet = refl; comes = comes })

pub returns : goal.returns
returns c =
    let s = c.args.scene.now in
    let comes : ComesTo s (prune_first s) c.in_ok-draft.draft c.in_ok-draft.answer = search rules in
    c.finish.ensures Prune (record { ranges = tt; unmet = refl; comes = comes })
