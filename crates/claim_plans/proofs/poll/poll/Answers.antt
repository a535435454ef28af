use Rattle.std.proofs.Common.{◌≡◌, None, rules}
use Rattle.job_states.specs.declared.command.Command.TheVariants as command
use Rattle.plan_model.specs.JobCommands.{does, refusals}
use Rattle.plan_model.specs.Refusals.{first_met}
use Rattle.plan_scenes.specs.Begun.{ComesTo}
use Rattle.claim_plans.proofs.poll.poll.Goals as goal

pub finish-requires : goal.finish-requires
finish-requires c =
    let s = c.args.scene.now in
    let asked = command.Poll c.args.pid c.args.items c.args.limit in
    let accepted : first_met (refusals s asked) ≡ None = search rules in
    let comes : ComesTo s (does s asked) c.in_ok-draft.draft c.in_ok-draft.answer = search rules in
    record { told = c.plans_are_told.ensures.jobs s asked c.in_ok-draft.draft c.in_ok-draft.answer c.is_good.ensures (c.requires.list, c.requires.few) accepted comes }

pub returns : goal.returns
returns c =
    let s = c.args.scene.now in
    let asked = command.Poll c.args.pid c.args.items c.args.limit in
    let accepted : first_met (refusals s asked) ≡ None = search rules in
    let comes : ComesTo s (does s asked) c.in_ok-draft.draft c.in_ok-draft.answer = search rules in
    c.refusals_come_first.ensures.finished s (refusals s asked) (does s asked) c.in_ok-draft.draft c.in_ok-draft.answer c.finish.result accepted comes c.finish.ensures
