use Rattle.std.proofs.Common.{◌≡◌, ◌∷◌, [], None, subst, inl, inr, ⊎_elim, rules}
use Rattle.std.proofs.lemmas.Result.{err_from_is_err_and}
use Rattle.job_states.specs.declared.answer.Answer.TheVariants as answer
use Rattle.job_states.specs.declared.command.Command.TheVariants as command
use Rattle.plan_drafts.specs.Drafting.{GivesDraft}
use Rattle.plan_model.specs.Drafts.{begin, enqueue}
use Rattle.plan_model.specs.JobCommands.{does, new_row, of_jobs, refusals}
use Rattle.plan_model.specs.Planned.{answering}
use Rattle.plan_model.specs.Refusals.{first_met, full}
use Rattle.plan_scenes.specs.Begun.{ComesTo}
use Rattle.plan_scenes.proofs.Causes as causes
use Rattle.job_plans.specs.New.{new_of}
use Rattle.job_plans.proofs.Coming.{accepted, comes, last, refused_by, unmet}
use Rattle.job_plans.proofs.enqueue.plan_enqueue.Goals as goal
use Rattle.job_plans.proofs.enqueue.plan_enqueue.Goals.{After-refusals_come_first}

pub returns-in_err-row : goal.returns-in_err-row
returns-in_err-row c =
    let s = c.args.scene.now in
    let new = c.args.new in
    let refused = c.in_err-row.field-0.0 in
    let p = err_from_is_err_and c.from_residual.result c.from_residual.ensures.1 in
    rw (p.1, p.2)
    (⊎_elim inl (λ e. inr (causes.met s (refusals s (command.Enqueue new)) (does s (command.Enqueue new)) refused
    (causes.already (of_jobs s 0 (new ∷ [])) (full s 1 ∷ []) refused (refused_by (first_met (of_jobs s 0 (new ∷ []))) (new_of s new) refused e)))) c.in_err-row.ensures.given)

none_met : (c : goal.After-refusals_come_first) → first_met (refusals c.args.scene.now (command.Enqueue c.args.new)) ≡ None
none_met c =
    let s = c.args.scene.now in
    last (of_jobs s 0 (c.args.new ∷ [])) (full s 1) None (accepted (first_met (of_jobs s 0 (c.args.new ∷ []))) (new_of s c.args.new) c.in_ok-row.field-0 c.in_ok-row.ensures.given).0 (unmet (full s 1) c.in_ok-full.ensures)

came : (c : goal.After-refusals_come_first) → ComesTo c.args.scene.now (does c.args.scene.now (command.Enqueue c.args.new)) c.enqueue.new.self (answer.Enqueued c.in_ok-made.made)
came c =
    let s = c.args.scene.now in
    let new = c.args.new in
    let is = (accepted (first_met (of_jobs s 0 (new ∷ []))) (new_of s new) c.in_ok-row.field-0 c.in_ok-row.ensures.given).1 in
    let row : c.in_ok-row.row ≡ new_row c.args.scene.now c.args.new = cc in
    let at : c.in_ok-row.at ≡ c.args.new.at = cc in
    let gives : GivesDraft c.begin-draft.result c.enqueue.new.self (enqueue c.begin-draft.result.moment c.in_ok-row.row c.in_ok-row.at c.begin-draft.result.draft) c.in_ok-made.made = search rules in
    subst (λ r. ComesTo s (answering (enqueue s.moment r new.at (begin s)) (λ made. answer.Enqueued made)) c.enqueue.new.self (answer.Enqueued c.in_ok-made.made)) row
    (subst (λ at. ComesTo s (answering (enqueue s.moment c.in_ok-row.row at (begin s)) (λ made. answer.Enqueued made)) c.enqueue.new.self (answer.Enqueued c.in_ok-made.made)) at
    (comes s c.enqueue.new.self (λ o. enqueue o.moment c.in_ok-row.row c.in_ok-row.at o.draft) c.in_ok-made.made (λ made. answer.Enqueued made) c.begin-draft.result c.begin-draft.ensures gives))

pub finish-requires : goal.finish-requires
finish-requires c = record {
  told = c.plans_are_told.ensures.jobs c.args.scene.now (command.Enqueue c.args.new) c.enqueue.new.self (answer.Enqueued c.in_ok-made.made) c.is_good.ensures c.requires (none_met c) (came c);
}

pub returns : goal.returns
returns c =
    let b = (goal.at.returns c).After-refusals_come_first in
    let s = c.args.scene.now in
    c.refusals_come_first.ensures.finished s (refusals s (command.Enqueue c.args.new)) (does s (command.Enqueue c.args.new)) c.enqueue.new.self (answer.Enqueued c.in_ok-made.made) c.finish.result (none_met b) (came b) c.finish.ensures
