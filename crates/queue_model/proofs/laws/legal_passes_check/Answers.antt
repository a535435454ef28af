use Rattle.queue_model.specs.Held.{holds}
use Rattle.queue_model.specs.Sights.{sees}
use Rattle.queue_model.proofs.Cases.{checked}
use Rattle.queue_model.proofs.Steps.{step_is}
use Rattle.queue_model.proofs.laws.legal_passes_check.Goals as goal

pub returns : goal.returns
returns c w end m t legal = let s = step_is w end m t legal in checked m (sees w (holds w t)) t s.0 s.1.legal
