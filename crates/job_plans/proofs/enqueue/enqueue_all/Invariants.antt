use Rattle.std.proofs.Common.{◌≡◌, All, fold}
use Rattle.plan_drafts.specs.Drafting.{with_draft}
use Rattle.transition_table.specs.Seen.{IsFit}
use Rattle.job_plans.specs.New.{enqueue_each, enqueue_one}
use Rattle.job_plans.proofs.enqueue.enqueue_all.Given as goal

-- what became of the jobs so far, and then of what is left
abbrev pub invariant-loop-new : goal.invariant-loop-new
invariant-loop-new l = record {
  draft : l.draft ≡ with_draft l.fn.draft l.draft.draft;
  left : fold (enqueue_one l.fn.draft.moment) (l.draft.draft, l.made.items) l.new-iterator.rest.items ≡ enqueue_each l.fn.draft.moment l.fn.news.items l.fn.draft.draft;
  fit : All (λ new. IsFit new.row.limited) l.new-iterator.rest.items;
}
