use Rattle.std.proofs.Common.{ap, ◌∙◌}
use Rattle.job_states.specs.Moment.{is_moment}
use Rattle.queue_model.specs.Chain.{◌>>◌, when}
use Rattle.queue_model.specs.Replay.{steps}
use Rattle.queue_model.proofs.Besides.{stays_legal, leaves}
use Rattle.queue_model.proofs.Steps.{passed, claims_after_all}
use Rattle.queue_model.proofs.laws.plans_stay_legal.Goals as goal

pub returns-clause-legal : goal.returns-clause-legal
returns-clause-legal c w v u first second mine other a b fit room =
    let p = passed (is_moment first.moment) (steps w first.moment first.steps) v a.legal in
    let q = passed (is_moment second.moment) (steps w second.moment second.steps) u b.legal in
    let law = stays_legal w v u first.moment second.moment first.steps second.steps mine other p.1 q.1 a.covered b.covered fit room in
    (law.0, record { legal = ap (λ x. when x >> steps v second.moment second.steps) q.0 ∙ law.1.legal; covered = law.1.covers }, law.1.same)

pub returns-clause-untouched : goal.returns-clause-untouched
returns-clause-untouched c w end tx rows others a fit = leaves w end tx.moment tx.steps rows others fit a.covered (passed (is_moment tx.moment) (steps w tx.moment tx.steps) end a.legal).1

pub returns-clause-claims : goal.returns-clause-claims
returns-clause-claims c w end tx rows pid a = claims_after_all w end tx.moment tx.steps pid (passed (is_moment tx.moment) (steps w tx.moment tx.steps) end a.legal).1
