use Rattle.std.proofs.Common.{◌≡◌, ◌≤◌, ◌-◌, ◌++◌, filter, length, map, take}
use Rattle.plan_model.specs.Orders.{on_offer}
use Rattle.claim_plans.specs.Polls.{is_free_job}
use Rattle.claim_plans.proofs.poll.offers.Given as goal

abbrev pub invariant-loop-left : goal.invariant-loop-left
invariant-loop-left l = record {
  found : map (λ j. j.now) l.jobs.items ++ take (l.most - length l.jobs.items) (filter (is_free_job l.book) l.left) ≡ take l.most (on_offer l.book l.list);
  few : length l.jobs.items ≤ l.most;
}

abbrev pub decreases-loop-left : goal.decreases-loop-left
decreases-loop-left l = l.most - length l.jobs.items
