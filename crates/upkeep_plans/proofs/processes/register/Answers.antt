use Rattle.std.proofs.Common.{◌≡◌, None, rules}
use Rattle.job_states.specs.declared.command.Command.TheVariants as command
use Rattle.job_states.specs.declared.transition.Transition.TheVariants.{Register}
use Rattle.plan_drafts.specs.Drafting.{Drafting, with_draft}
use Rattle.plan_model.specs.Drafts.{push}
use Rattle.plan_model.specs.Refusals.{no_room}
use Rattle.upkeep_plans.proofs.Doing.{registered}
use Rattle.upkeep_plans.proofs.Refusing.{not_met}
use Rattle.upkeep_plans.proofs.processes.register.Goals as goal

pub finish-requires : goal.finish-requires
finish-requires c =
    let s = c.args.scene.now in
    let d : Drafting = c.begin-draft.result in
    let room : no_room s ≡ None = not_met (no_room s) tt (search rules) in
    let at : c.push.new.self ≡ with_draft d (push d.moment (Register c.given-pid.result.pid c.args.kind c.args.name) d.draft) = search rules in
    (command.Register c.args.kind c.args.name, registered s d c.push.new.self c.begin-draft.ensures c.args.kind c.args.name c.given-pid.result c.requires room c.given-pid.ensures at)

pub returns : goal.returns
returns c =
    let s = c.args.scene.now in
    let d : Drafting = c.begin-draft.result in
    let room : no_room s ≡ None = not_met (no_room s) tt (search rules) in
    let at : c.push.new.self ≡ with_draft d (push d.moment (Register c.given-pid.result.pid c.args.kind c.args.name) d.draft) = search rules in
    c.finish.ensures (command.Register c.args.kind c.args.name) (registered s d c.push.new.self c.begin-draft.ensures c.args.kind c.args.name c.given-pid.result c.requires room c.given-pid.ensures at)
