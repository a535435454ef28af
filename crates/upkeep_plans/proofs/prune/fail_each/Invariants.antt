use Rattle.std.proofs.Common.{◌≡◌, ◌+◌, ◌≤◌, length}
use Rattle.std.specs.List.{All}
use Rattle.queue_model.specs.GoodWorld.{IsGood}
use Rattle.plan_drafts.specs.Drafting.{with_draft}
use Rattle.plan_drafts.specs.Ends.{IsEnding}
use Rattle.plan_model.specs.UpkeepCommands.{fail_all}
use Rattle.upkeep_plans.specs.Standing.{HasClaims}
use Rattle.upkeep_plans.proofs.prune.fail_each.Given as goal

abbrev pub invariant-loop-job : goal.invariant-loop-job
invariant-loop-job l = record {
  frame : l.draft ≡ with_draft l.initial.draft l.draft.draft;
  same : fail_all l.draft.moment l.message l.claims l.draft.draft ≡ fail_all l.initial.draft.moment l.message l.initial.claims l.initial.draft.draft;
  claims : HasClaims l.pid l.claims l.draft;
  count : l.failed + length l.claims ≡ length l.initial.claims;
  few : length l.initial.claims ≤ 500;
  good : IsGood l.draft.draft.world;
  ends : All IsEnding l.draft.draft.steps;
}

abbrev pub decreases-loop-job : goal.decreases-loop-job
decreases-loop-job l = length l.claims
