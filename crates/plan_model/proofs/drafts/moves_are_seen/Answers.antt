use Rattle.plan_model.proofs.AllowedClaims.{claim_counts, claim_ends}
use Rattle.plan_model.proofs.AllowedEnds.{stays_good}
use Rattle.plan_model.proofs.AllowedSeen as seen
use Rattle.plan_model.proofs.drafts.moves_are_seen.Goals as goal

pub returns-clause-legal : goal.returns-clause-legal
returns-clause-legal c = seen.legal_step

pub returns-clause-good : goal.returns-clause-good
returns-clause-good c = stays_good

pub returns-clause-rows : goal.returns-clause-rows
returns-clause-rows c = seen.rows_of

pub returns-clause-job_here : goal.returns-clause-job_here
returns-clause-job_here c = seen.job_here

pub returns-clause-job_there : goal.returns-clause-job_there
returns-clause-job_there c = seen.job_there

pub returns-clause-limits_stay : goal.returns-clause-limits_stay
returns-clause-limits_stay c = seen.limits_stay

pub returns-clause-semaphore_here : goal.returns-clause-semaphore_here
returns-clause-semaphore_here c = seen.semaphore_here

pub returns-clause-semaphore_there : goal.returns-clause-semaphore_there
returns-clause-semaphore_there c = seen.semaphore_there

pub returns-clause-semaphores_stay : goal.returns-clause-semaphores_stay
returns-clause-semaphores_stay c = seen.semaphores_stay

pub returns-clause-processes_stay : goal.returns-clause-processes_stay
returns-clause-processes_stay c = seen.processes_stay

pub returns-clause-pauses_stay : goal.returns-clause-pauses_stay
returns-clause-pauses_stay c = seen.pauses_stay

pub returns-clause-claimed : goal.returns-clause-claimed
returns-clause-claimed c = claim_counts

pub returns-clause-claim_ended : goal.returns-clause-claim_ended
returns-clause-claim_ended c = claim_ends

pub returns-clause-claims_stay : goal.returns-clause-claims_stay
returns-clause-claims_stay c = seen.claims_kept
