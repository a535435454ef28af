use Rattle.std.proofs.Common.{◌≡◌, rules}
use Rattle.job_states.specs.declared.answer.Answer.TheVariants as answer
use Rattle.job_states.specs.declared.command.Command.TheVariants as command
use Rattle.job_states.specs.declared.transition.Transition.TheVariants.{Release}
use Rattle.plan_drafts.specs.Drafting.{with_draft}
use Rattle.plan_model.specs.Drafts.{push}
use Rattle.plan_model.specs.JobCommands.{does, refusals}
use Rattle.claim_plans.proofs.Coming.{release_comes}
use Rattle.claim_plans.proofs.claim.release.Goals as goal

pub returns : goal.returns
returns c =
    let s = c.args.scene.now in
    let old = c.begin-draft.result in
    let released = command.Release c.args.pid c.args.id in
    let after : c.push.new.self ≡ with_draft old (push old.moment (Release c.args.id) old.draft) = search rules in
    c.refusals_come_first.ensures.finished s (refusals s released) (does s released) c.push.new.self (answer.Released c.args.id) c.finish.result c.in_ok-claimed.ensures.accepted
    (release_comes s c.args.pid c.args.id old c.push.new.self c.begin-draft.ensures after) c.finish.ensures
