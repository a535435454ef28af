-- What an answer does to the store and the disk.
use Rattle.std.specs.Prelude.{◌≡◌, ◌⊎◌, List, Some}
use Rattle.job_states.specs.declared.transition.Transaction.{Transaction}
use Rattle.situation_model.specs.Steps.{Step, after_steps}
use Rattle.queue_engine.specs.Calls.{Writes}
use Rattle.queue_http.specs.Service.{Service}

-- nothing
pub record StaysAlike (old new : Service) : Type 0 where
  pub running : new.running ≡ old.running
  pub disk : new.disk ≡ old.disk

-- what these steps do, while the record of a transaction is written
pub record TakesSteps (old new : Service) : Type 0 where
  pub steps : List Step
  pub situation : after_steps old.running.settings old.running.situation steps ≡ Some new.running.situation
  pub tx : Transaction
  pub writes : Writes old.running tx old.disk.history new.disk.history

abbrev pub MayTakeSteps : Service → Service → Type 0
MayTakeSteps old new = StaysAlike old new ⊎ TakesSteps old new
