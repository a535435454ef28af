use Rattle.std.proofs.Common.{◌≡◌, ◌∷◌, [], List, length, map, None, Some, Ok, Err, ap, sym, ◌∙◌, subst, inl, inr, ⊎_elim, rules}
use Rattle.std.proofs.lemmas.Result.{err_from_is_err_and}
use Rattle.job_states.specs.declared.answer.Answer.TheVariants as answer
use Rattle.job_states.specs.declared.command.Command.TheVariants as command
use Rattle.plan_drafts.specs.Drafting.{GivesDraft}
use Rattle.plan_model.specs.Drafts.{begin}
use Rattle.plan_model.specs.JobCommands.{does, of_jobs, refusals}
use Rattle.plan_model.specs.Planned.{answering}
use Rattle.plan_model.specs.Refusals.{first_met, full}
use Rattle.plan_scenes.specs.Begun.{ComesTo}
use Rattle.plan_scenes.specs.Causes.{or_refused, unless}
use Rattle.plan_scenes.proofs.Causes as causes
use Rattle.job_states.specs.declared.command.NewJob.{NewJob}
use Rattle.job_plans.specs.New.{enqueue_each, new_of}
use Rattle.job_plans.specs.declared.enqueue.New.{New}
use Rattle.job_plans.proofs.Coming.{accepted, all_is, comes, last, met, refused_by, unmet}
use Rattle.job_plans.proofs.enqueue.plan_bulk.Goals as goal
use Rattle.job_plans.proofs.enqueue.plan_bulk.Goals.{After-refusals_come_first}

pub returns-in_err-news : goal.returns-in_err-news
returns-in_err-news c =
    let s = c.args.scene.now in
    let news = c.args.news in
    let refused = c.in_err-news.field-0.0 in
    let p = err_from_is_err_and c.from_residual.result c.from_residual.ensures.1 in
    rw (p.1, p.2)
    (⊎_elim inl (λ e. inr (causes.met s (refusals s (command.Bulk news)) (does s (command.Bulk news)) refused
    (causes.already (of_jobs s 0 news) (full s (length news) ∷ []) refused (refused_by (first_met (of_jobs s 0 news)) (map (new_of s) news) refused (subst (λ (xs : List NewJob). or_refused (first_met (of_jobs s 0 xs)) (map (new_of s) xs) ≡ Err refused) c.into_vec.ensures e))))) c.in_err-news.ensures.given)

pub returns-in_err-full : goal.returns-in_err-full
returns-in_err-full c =
    let s = c.args.scene.now in
    let news = c.args.news in
    let refused = c.in_err-full.field-0.0 in
    let given = subst (λ (xs : List NewJob). or_refused (first_met (of_jobs s 0 xs)) (map (new_of s) xs) ≡ Ok c.in_ok-news.news.items) c.into_vec.ensures c.in_ok-news.ensures.given in
    let full_is = subst (λ asked. Err refused ≡ unless (full s asked)) c.len-asked.ensures c.in_err-full.ensures in
    let p = err_from_is_err_and c.from_residual-in_err-full.result c.from_residual-in_err-full.ensures.1 in
    rw (p.1, p.2)
    (inr (causes.met s (refusals s (command.Bulk news)) (does s (command.Bulk news)) refused
    (last (of_jobs s 0 news) (full s (length news)) (Some refused) (accepted (first_met (of_jobs s 0 news)) (map (new_of s) news) c.in_ok-news.news.items given).0 (met (full s (length news)) refused full_is))))

found : (c : goal.After-refusals_come_first) → or_refused (first_met (of_jobs c.args.scene.now 0 c.args.news)) (map (new_of c.args.scene.now) c.args.news) ≡ Ok c.in_ok-news.news.items
found c = subst (λ (xs : List NewJob). or_refused (first_met (of_jobs c.args.scene.now 0 xs)) (map (new_of c.args.scene.now) xs) ≡ Ok c.in_ok-news.news.items) c.into_vec.ensures c.in_ok-news.ensures.given

none_met : (c : goal.After-refusals_come_first) → first_met (refusals c.args.scene.now (command.Bulk c.args.news)) ≡ None
none_met c =
    let s = c.args.scene.now in
    let news = c.args.news in
    last (of_jobs s 0 news) (full s (length news)) None (accepted (first_met (of_jobs s 0 news)) (map (new_of s) news) c.in_ok-news.news.items (found c)).0
    (unmet (full s (length news)) (subst (λ asked. Ok tt ≡ unless (full s asked)) c.len-asked.ensures c.in_ok-full.ensures))

came : (c : goal.After-refusals_come_first) → ComesTo c.args.scene.now (does c.args.scene.now (command.Bulk c.args.news)) c.enqueue_all.new.draft (answer.Bulk c.in_ok-made.made)
came c =
    let s = c.args.scene.now in
    let news = c.args.news in
    let is = (accepted (first_met (of_jobs s 0 news)) (map (new_of s) news) c.in_ok-news.news.items (found c)).1 in
    let gives : GivesDraft c.begin-draft.result c.enqueue_all.new.draft (enqueue_each c.begin-draft.result.moment c.in_ok-news.news.items c.begin-draft.result.draft) c.in_ok-made.made = search rules in
    subst (λ e. ComesTo s (answering e (λ made. answer.Bulk made)) c.enqueue_all.new.draft (answer.Bulk c.in_ok-made.made))
    (ap (λ (xs : List New). enqueue_each s.moment xs (begin s)) (sym is) ∙ all_is s news (begin s))
    (comes s c.enqueue_all.new.draft (λ o. enqueue_each o.moment c.in_ok-news.news.items o.draft) c.in_ok-made.made (λ made. answer.Bulk made) c.begin-draft.result c.begin-draft.ensures gives)

pub finish-requires : goal.finish-requires
finish-requires c = record {
  told = c.plans_are_told.ensures.jobs c.args.scene.now (command.Bulk c.args.news) c.enqueue_all.new.draft (answer.Bulk c.in_ok-made.made) c.is_good.ensures (c.requires.jobs, c.requires.few) (none_met c) (came c);
}

pub returns : goal.returns
returns c =
    let b = (goal.at.returns c).After-refusals_come_first in
    let s = c.args.scene.now in
    c.refusals_come_first.ensures.finished s (refusals s (command.Bulk c.args.news)) (does s (command.Bulk c.args.news)) c.enqueue_all.new.draft (answer.Bulk c.in_ok-made.made) c.finish.result (none_met b) (came b) c.finish.ensures
