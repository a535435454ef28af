use Rattle.std.proofs.Common.{◌≡◌, ◌∷◌, [], None, Some, sym, refl, ◌∙◌, inl, inr, ⊎_elim, rules}
use Rattle.std.proofs.lemmas.Result.{err_from_is_err_and}
use Rattle.job_states.specs.States.{is_failed}
use Rattle.job_states.specs.declared.answer.Answer.TheVariants as answer
use Rattle.job_states.specs.declared.command.Command.TheVariants as command
use Rattle.job_states.specs.declared.transition.Transition.TheVariants.{Retry}
use Rattle.plan_drafts.specs.Drafting.{with_draft}
use Rattle.plan_model.specs.Drafts.{meets, push}
use Rattle.plan_model.specs.JobCommands.{does, refusals}
use Rattle.plan_model.specs.Refusals.{first_met, no_such_job, semaphore_closed, wrong_state}
use Rattle.plan_scenes.specs.Begun.{ComesTo}
use Rattle.plan_scenes.proofs.Causes as causes
use Rattle.job_plans.proofs.Coming.{job_there, last, met, passing, retried, unmet}
use Rattle.job_plans.proofs.retry.plan_retry.Goals as goal
use Rattle.job_plans.proofs.retry.plan_retry.Goals.{After-outcome_of-state}

pub returns-in_err-semaphore_closed : goal.returns-in_err-semaphore_closed
returns-in_err-semaphore_closed c =
    let s = c.args.scene.now in
    let id = c.args.id in
    let closed = semaphore_closed s id in
    let refused = c.in_err-semaphore_closed.field-0.0 in
    let p = err_from_is_err_and c.from_residual-in_err-semaphore_closed.result c.from_residual-in_err-semaphore_closed.ensures.1 in
    rw (p.1, p.2)
    (⊎_elim inl (λ e. inr (causes.met s (refusals s (command.Retry id)) (does s (command.Retry id)) refused
    (passing (no_such_job s id) (wrong_state s id is_failed ∷ closed ∷ []) (job_there s id c.in_ok-job.job.now c.in_ok-job.ensures.found)
    ∙ passing (wrong_state s id is_failed) (closed ∷ []) (unmet (wrong_state s id is_failed) c.in_ok-wrong_state.ensures)
    ∙ last [] closed (Some refused) refl (met closed refused (sym e))))) c.in_err-semaphore_closed.ensures)

none_met : (c : goal.After-outcome_of-state) → first_met (refusals c.args.scene.now (command.Retry c.args.id)) ≡ None
none_met c =
    let s = c.args.scene.now in
    let id = c.args.id in
    let closed = semaphore_closed s id in
    passing (no_such_job s id) (wrong_state s id is_failed ∷ closed ∷ []) (job_there s id c.in_ok-job.job.now c.in_ok-job.ensures.found)
    ∙ passing (wrong_state s id is_failed) (closed ∷ []) (unmet (wrong_state s id is_failed) c.in_ok-wrong_state.ensures)
    ∙ last [] closed None refl (unmet closed (sym c.in_ok-semaphore_closed.ensures))

came : (c : goal.After-outcome_of-state) → ComesTo c.args.scene.now (does c.args.scene.now (command.Retry c.args.id)) c.push.new.self (answer.Retried c.args.id c.outcome_of-state.result)
came c =
    let put : c.meets-put.result ≡ meets c.begin-draft.result.draft c.begin-draft.result.moment c.in_ok-job.job.now.row.limited = search rules in
    let pushed : c.push.new.self ≡ with_draft c.begin-draft.result (push c.begin-draft.result.moment (Retry c.args.id c.meets-put.result) c.begin-draft.result.draft) = search rules in
    retried c.args.scene.now c.args.id c.in_ok-job.job.now c.begin-draft.result c.push.new.self c.meets-put.result c.outcome_of-state.result c.begin-draft.ensures c.is_good.ensures c.in_ok-job.ensures.found put pushed c.outcome_of-state.ensures

pub finish-requires : goal.finish-requires
finish-requires c = record {
  told = c.plans_are_told.ensures.jobs c.args.scene.now (command.Retry c.args.id) c.push.new.self (answer.Retried c.args.id c.outcome_of-state.result) c.is_good.ensures tt (none_met c) (came c);
}

pub returns : goal.returns
returns c =
    let b = (goal.at.returns c).After-outcome_of-state in
    let s = c.args.scene.now in
    c.refusals_come_first.ensures.finished s (refusals s (command.Retry c.args.id)) (does s (command.Retry c.args.id)) c.push.new.self (answer.Retried c.args.id c.outcome_of-state.result) c.finish.result (none_met b) (came b) c.finish.ensures
