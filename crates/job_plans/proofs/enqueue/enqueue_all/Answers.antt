use Rattle.std.proofs.Common.{◌≡◌, ◌∷◌, ◌++◌, [], List, sym, ap, ◌∙◌, subst, fold, All, rules}
use Rattle.std.proofs.lemmas.List.Elements.{All-tail}
use Rattle.plan_drafts.specs.Drafting.{GivesDraft}
use Rattle.plan_model.specs.Drafts.{enqueue}
use Rattle.transition_table.specs.Seen.{IsFit}
use Rattle.job_plans.specs.New.{enqueue_one}
use Rattle.job_plans.specs.declared.enqueue.New.{New}
use Rattle.job_plans.proofs.Coming.{one_more, still_with}
use Rattle.job_plans.proofs.enqueue.enqueue_all.Goals as goal

pub loop-new-preserved : goal.loop-new-preserved
loop-new-preserved c =
    let rest = c.next.new.self.rest.items in
    let new = c.in-Some.new in
    let made = c.in_ok-enqueue.field-0 in
    let left = c.in-Some.ensures.steps.0 in
    let gives : GivesDraft c.loop-new.draft c.enqueue.new.self (enqueue c.loop-new.draft.moment c.in-Some.new.row c.in-Some.new.at c.loop-new.draft.draft) c.in_ok-enqueue.field-0 = search rules in
    let grown : c.push.new.self.items ≡ c.loop-new.made.items ++ c.in_ok-enqueue.field-0 ∷ [] = search rules in
    record {
      draft = still_with c.args.draft.now c.loop-new.draft c.enqueue.new.self (enqueue c.loop-new.draft.moment new.row new.at c.loop-new.draft.draft).0 c.loop-new.invariant.draft gives.draft;
      left = one_more c.args.draft.now c.loop-new.draft c.enqueue.new.self new rest c.loop-new.made.items c.push.new.self.items made c.loop-new.invariant.draft gives grown
          ∙ sym (ap (λ (xs : List New). fold (enqueue_one c.args.draft.now.moment) (c.loop-new.draft.draft, c.loop-new.made.items) xs) left) ∙ c.loop-new.invariant.left;
      fit = All-tail (λ (n : New). IsFit n.row.limited) new rest (subst (All (λ (n : New). IsFit n.row.limited)) left c.loop-new.invariant.fit);
    }
