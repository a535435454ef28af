use Rattle.std.proofs.Common.{◌≡◌, None, rules}
use Rattle.job_states.specs.declared.command.Command.TheVariants as command
use Rattle.job_states.specs.declared.transition.Transition.TheVariants.{Beat}
use Rattle.plan_drafts.specs.Drafting.{Drafting, with_draft}
use Rattle.plan_model.specs.Drafts.{push}
use Rattle.plan_model.specs.Refusals.{no_such_process}
use Rattle.upkeep_plans.proofs.Doing.{beaten}
use Rattle.upkeep_plans.proofs.Refusing.{not_met}
use Rattle.upkeep_plans.proofs.processes.beat.Goals as goal

pub finish-requires : goal.finish-requires
finish-requires c =
    let s = c.args.scene.now in
    let d : Drafting = c.begin-draft.result in
    let there : no_such_process s c.args.pid ≡ None = not_met (no_such_process s c.args.pid) tt (search rules) in
    let at : c.push.new.self ≡ with_draft d (push d.moment (Beat c.args.pid) d.draft) = search rules in
    (command.Beat c.args.pid, beaten s d c.push.new.self c.begin-draft.ensures c.args.pid there at)

pub returns : goal.returns
returns c =
    let s = c.args.scene.now in
    let d : Drafting = c.begin-draft.result in
    let there : no_such_process s c.args.pid ≡ None = not_met (no_such_process s c.args.pid) tt (search rules) in
    let at : c.push.new.self ≡ with_draft d (push d.moment (Beat c.args.pid) d.draft) = search rules in
    c.finish.ensures (command.Beat c.args.pid) (beaten s d c.push.new.self c.begin-draft.ensures c.args.pid there at)
