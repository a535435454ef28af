use Rattle.std.proofs.Common.{◌≡◌, ℕ, [], ◌∷◌, ◌++◌, ◌+◌, length, map, Ok, Err, sym, subst, inl, inr, ⊎_elim, All, arith, rules}
use Rattle.std.proofs.lemmas.List.{length_push}
use Rattle.std.proofs.lemmas.List.Elements.{All-push}
use Rattle.std.proofs.lemmas.Result.{err_from_is_err_and}
use Rattle.plan_model.specs.JobCommands.{of_jobs}
use Rattle.plan_model.specs.Refusals.{first_met}
use Rattle.transition_table.specs.Seen.{IsFit}
use Rattle.plan_scenes.specs.Causes.{or_refused}
use Rattle.job_plans.specs.New.{new_of}
use Rattle.job_plans.proofs.News.{AreFound, all_refused, one_more}
use Rattle.job_plans.proofs.enqueue.all_accepted.Goals as goal

pub returns-in_err-new-clause-given : goal.returns-in_err-new-clause-given
returns-in_err-new-clause-given c =
    let s = c.args.scene.now in
    let news = c.args.news.items in
    let found = c.loop-new.accepted_news.items in
    let new = c.in-Some.new in
    let refused = c.in_err-new.field-0.0 in
    let so_far = subst (λ left. AreFound s news left found) c.in-Some.ensures.steps.0 c.loop-new.invariant.found in
    let index : c.len-index.result ≡ length found = search rules in
    let p = err_from_is_err_and c.from_residual.result c.from_residual.ensures.1 in
    rw (p.1, p.2)
    (⊎_elim inl (λ e. inr (all_refused s news c.next.new.self.rest.items new found so_far (map (new_of s) news) refused (subst (λ (n : ℕ). or_refused (first_met (of_jobs s n (new ∷ []))) (new_of s new) ≡ Err refused) index e))) c.in_err-new.ensures.given)

pub loop-new-preserved : goal.loop-new-preserved
loop-new-preserved c =
    let s = c.args.scene.now in
    let news = c.args.news.items in
    let found = c.loop-new.accepted_news.items in
    let new = c.in-Some.new in
    let row = c.in_ok-new.new in
    let so_far = subst (λ left. AreFound s news left found) c.in-Some.ensures.steps.0 c.loop-new.invariant.found in
    let index : c.len-index.result ≡ length c.loop-new.accepted_news.items = search rules in
    let grown : c.push.new.self.items ≡ c.loop-new.accepted_news.items ++ c.in_ok-new.new ∷ [] = search rules in
    let count : length c.loop-new.new-iterator.rest.items ≡ length c.next.new.self.rest.items + 1 = search rules in
    record {
      count = simp (grown, length_push) (omega (arith, count, c.loop-new.invariant.count));
      found = subst (AreFound s news c.next.new.self.rest.items) (sym grown) (one_more s news c.next.new.self.rest.items new found so_far row (subst (λ (n : ℕ). or_refused (first_met (of_jobs s n (new ∷ []))) (new_of s new) ≡ Ok row) index c.in_ok-new.ensures.given));
      fit = subst (All (λ new. IsFit new.row.limited)) (sym grown) (All-push (λ new. IsFit new.row.limited) found row c.loop-new.invariant.fit c.in_ok-new.ensures.fit);
    }
