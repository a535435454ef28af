use Rattle.std.proofs.Common.{◌≡◌, filter, length}
use Rattle.claim_plans.specs.Polls.{is_free_job}
use Rattle.claim_plans.proofs.poll.next_offer.Given as goal

abbrev pub invariant-loop-job : goal.invariant-loop-job
invariant-loop-job l = filter (is_free_job l.book) l.left ≡ filter (is_free_job l.book) l.initial.left

abbrev pub decreases-loop-job : goal.decreases-loop-job
decreases-loop-job l = length l.left
