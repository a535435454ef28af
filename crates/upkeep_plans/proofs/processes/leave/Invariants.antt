use Rattle.std.proofs.Common.{◌≡◌, ◌+◌, ◌≤◌, length}
use Rattle.plan_drafts.specs.Drafting.{with_draft}
use Rattle.plan_model.specs.UpkeepCommands.{release_all}
use Rattle.upkeep_plans.specs.Standing.{HasClaims}
use Rattle.upkeep_plans.proofs.processes.leave.Given as goal

abbrev pub invariant-loop-job : goal.invariant-loop-job
invariant-loop-job l = record {
  frame : l.draft ≡ with_draft l.initial.draft l.draft.draft;
  same : release_all l.draft.moment l.claims l.draft.draft ≡ release_all l.initial.draft.moment l.initial.claims l.initial.draft.draft;
  claims : HasClaims l.pid l.claims l.draft;
  count : l.released + length l.claims ≡ length l.initial.claims;
  few : length l.initial.claims ≤ 500;
}

abbrev pub decreases-loop-job : goal.decreases-loop-job
decreases-loop-job l = length l.claims
