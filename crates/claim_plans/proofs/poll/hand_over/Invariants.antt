use Rattle.std.proofs.Common.{◌≡◌, map, take}
use Rattle.plan_model.specs.JobCommands as model
use Rattle.claim_plans.proofs.poll.hand_over.Given as goal

abbrev pub invariant-loop-job : goal.invariant-loop-job
invariant-loop-job l = l.handed.items ≡ map model.polled (map (λ j. j.now) (take l.job-index l.jobs))
