use Rattle.situation_model.proofs.Stands.{differs, nothing_left}
use Rattle.situation_model.proofs.laws.refusals_change_nothing.Goals as goal

pub returns-clause-rolled_back : goal.returns-clause-rolled_back
returns-clause-rolled_back c = λ s end seat e. differs s end seat e

pub returns-clause-vacant : goal.returns-clause-vacant
returns-clause-vacant c = λ s end seat e. nothing_left s end seat e
