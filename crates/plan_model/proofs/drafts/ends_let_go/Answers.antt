use Rattle.plan_model.proofs.AllowedEnds.{unblocks, end_good}
use Rattle.plan_model.proofs.AllowedFirst.{first_unmoved}
use Rattle.plan_model.proofs.AllowedOthers.{others_stay, others_may_go, end_processes, end_claims}
use Rattle.plan_model.proofs.drafts.ends_let_go.Goals as goal

pub returns-clause-unblock : goal.returns-clause-unblock
returns-clause-unblock c = unblocks

pub returns-clause-good : goal.returns-clause-good
returns-clause-good c = end_good

pub returns-clause-others : goal.returns-clause-others
returns-clause-others c = others_stay

pub returns-clause-discardable : goal.returns-clause-discardable
returns-clause-discardable c = others_may_go

pub returns-clause-processes : goal.returns-clause-processes
returns-clause-processes c = end_processes

pub returns-clause-claims : goal.returns-clause-claims
returns-clause-claims c = end_claims

pub returns-clause-first : goal.returns-clause-first
returns-clause-first c = first_unmoved
