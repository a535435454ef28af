use Rattle.std.proofs.Common.{◌≡◌, drop, map}
use Rattle.plan_drafts.specs.Drafting.{with_draft}
use Rattle.plan_model.specs.JobCommands as model
use Rattle.claim_plans.specs.Polls.{CanClaim}
use Rattle.claim_plans.proofs.poll.claim_all.Given as goal

abbrev pub invariant-loop-job : goal.invariant-loop-job
invariant-loop-job l = record {
  left : CanClaim l.draft l.pid (drop l.job-index (map (λ j. j.now) l.jobs));
  all : with_draft l.draft (model.claim_all l.draft.moment l.pid (drop l.job-index (map (λ j. j.now) l.jobs)) l.draft.draft) ≡ with_draft l.initial.draft (model.claim_all l.initial.draft.moment l.pid (map (λ j. j.now) l.jobs) l.initial.draft.draft);
}
