use Rattle.plan_model.proofs.FreshLemmas.{fresh_over, begins_fresh, stays_fresh, end_fresh, enqueue_fresh}
use Rattle.plan_model.proofs.drafts.drafts_stay_fresh.Goals as goal

pub returns-clause-good : goal.returns-clause-good
returns-clause-good c = fresh_over

pub returns-clause-begins : goal.returns-clause-begins
returns-clause-begins c = begins_fresh

pub returns-clause-pushed : goal.returns-clause-pushed
returns-clause-pushed c = stays_fresh

pub returns-clause-ended : goal.returns-clause-ended
returns-clause-ended c = end_fresh

pub returns-clause-enqueued : goal.returns-clause-enqueued
returns-clause-enqueued c = enqueue_fresh
