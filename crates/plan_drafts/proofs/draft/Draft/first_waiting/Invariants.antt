use Rattle.std.proofs.Common.{◌≡◌, IsSome, length}
use Rattle.std.specs.List.{All}
use Rattle.queue_model.specs.Map as map
use Rattle.plan_drafts.specs.Ends.{first_waiting}
use Rattle.plan_drafts.proofs.draft.Draft.first_waiting.Given as goal

abbrev pub invariant-loop-job : goal.invariant-loop-job
invariant-loop-job l = record {
  first : first_waiting l.self.draft.world l.jobs ≡ first_waiting l.self.draft.world l.initial.jobs;
  there : All (λ j. IsSome (map.get l.self.begun.world.jobs j.row.id)) l.jobs;
}

abbrev pub decreases-loop-job : goal.decreases-loop-job
decreases-loop-job l = length l.jobs
