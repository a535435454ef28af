use Rattle.std.proofs.Common.{Some, ap}
use Rattle.job_states.specs.States.{stage_of, is_claimed}
use Rattle.claim_plans.proofs.claim.claimed.Goals as goal

pub returns-in-Claimed-clause-claim : goal.returns-in-Claimed-clause-claim
returns-in-Claimed-clause-claim c = record {
  found = c.in_ok-job.ensures.found;
  number = (c.is_good.ensures.book.world.jobs c.args.id c.in_ok-job.job.now c.in_ok-job.ensures.found).own_number;
  claimed = ap (λ s. is_claimed (Some (stage_of s))) c.in-Claimed.is;
}
