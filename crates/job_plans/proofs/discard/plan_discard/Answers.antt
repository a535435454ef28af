use Rattle.std.proofs.Common.{refl, ◌≡◌, ◌∷◌, [], None, ◌∙◌, rules}
use Rattle.job_states.specs.declared.answer.Answer.TheVariants as answer
use Rattle.job_states.specs.declared.command.Command.TheVariants as command
use Rattle.plan_drafts.specs.Drafting.{GivesDraft}
use Rattle.job_states.specs.declared.transition.Transition.TheVariants.{Discard}
use Rattle.plan_model.specs.Drafts.{end}
use Rattle.plan_model.specs.JobCommands.{does, may_discard, refusals}
use Rattle.plan_model.specs.Refusals.{first_met, no_such_job, wrong_state}
use Rattle.plan_scenes.specs.Begun.{ComesTo}
use Rattle.job_plans.proofs.Coming.{comes, job_there, last, passing, unmet}
use Rattle.job_plans.proofs.discard.plan_discard.Goals as goal
use Rattle.job_plans.proofs.discard.plan_discard.Goals.{After-refusals_come_first}

none_met : (c : goal.After-refusals_come_first) → first_met (refusals c.args.scene.now (command.Discard c.args.id)) ≡ None
none_met c =
    let s = c.args.scene.now in
    passing (no_such_job s c.args.id) (wrong_state s c.args.id may_discard ∷ []) (job_there s c.args.id c.in_ok-job.job.now c.in_ok-job.ensures.found)
    ∙ last [] (wrong_state s c.args.id may_discard) None refl (unmet (wrong_state s c.args.id may_discard) c.in_ok-wrong_state.ensures)

came : (c : goal.After-refusals_come_first) → ComesTo c.args.scene.now (does c.args.scene.now (command.Discard c.args.id)) c.end.new.self (answer.Discarded c.args.id c.in_ok-unblocked.unblocked)
came c =
    let gives : GivesDraft c.begin-draft.result c.end.new.self (end c.begin-draft.result.moment c.args.id (Discard c.args.id) c.begin-draft.result.draft) c.in_ok-unblocked.unblocked = search rules in
    comes c.args.scene.now c.end.new.self (λ o. end o.moment c.args.id (Discard c.args.id) o.draft) c.in_ok-unblocked.unblocked (λ unblocked. answer.Discarded c.args.id unblocked) c.begin-draft.result c.begin-draft.ensures gives

pub finish-requires : goal.finish-requires
finish-requires c = record {
  told = c.plans_are_told.ensures.jobs c.args.scene.now (command.Discard c.args.id) c.end.new.self (answer.Discarded c.args.id c.in_ok-unblocked.unblocked) c.is_good.ensures tt (none_met c) (came c);
}

pub returns : goal.returns
returns c =
    let b = (goal.at.returns c).After-refusals_come_first in
    let s = c.args.scene.now in
    c.refusals_come_first.ensures.finished s (refusals s (command.Discard c.args.id)) (does s (command.Discard c.args.id)) c.end.new.self (answer.Discarded c.args.id c.in_ok-unblocked.unblocked) c.finish.result (none_met b) (came b) c.finish.ensures
