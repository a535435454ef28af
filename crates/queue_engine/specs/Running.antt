-- How an engine is seen.
use Rattle.queue_config.specs.Ranges.{IsConfig}
use Rattle.queue_config.specs.declared.config.Config.{Config}
use Rattle.journal_keeper.specs.Stands.{Keeper}
use Rattle.plan_model.specs.Books.{Book}
use Rattle.situation_model.specs.GoodSituation.{IsGoodSituation}
use Rattle.situation_model.specs.Situations.{Doubt, Situation}

-- its settings, the store with its open plans, and its journal
pub record Store : Type 0 where
  pub settings : Config
  pub book : Book
  pub journal : Keeper

abbrev pub store : Config → Book → Keeper → Store
store settings book journal = record { settings = settings; book = book; journal = journal }

-- the settings, and the situation of the store
pub record Running : Type 0 where
  pub settings : Config
  pub situation : Situation

-- an engine with this record in doubt
abbrev pub running : Store → Doubt → Running
running s doubt = record { settings = s.settings; situation = record { book = s.book; doubt = doubt } }

pub record IsGoodRunning (r : Running) : Type 0 where
  pub settings : IsConfig r.settings
  pub situation : IsGoodSituation r.situation
