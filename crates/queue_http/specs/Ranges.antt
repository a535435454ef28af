-- Where the ranges of a command are judged, and what holds of a job's limit there.
use Rattle.std.specs.Prelude.{List, ℕ, Option, IsTrue}
use Rattle.std.specs.Option.{ForSome}
use Rattle.job_states.specs.Length.{IsName}
use Rattle.job_states.specs.Ranges.{is_limited}
use Rattle.job_states.specs.declared.job.Limited.{Limited}
use Rattle.queue_config.specs.declared.config.Config.{Config}
use Rattle.queue_model.specs.World.{empty}
use Rattle.plan_model.specs.Scenes.{Scene}
use Rattle.situation_model.specs.Situations.{scene_at, situation_over}

-- of the ranges the settings alone decide, so any scene will do
abbrev pub scene_by : Config → Scene
scene_by settings = scene_at settings (situation_over empty) 0

abbrev pub IsFitKey : Option (List ℕ) → Type 0
IsFitKey key = ForSome key IsName

abbrev pub IsFitLimit : Option Limited → Type 0
IsFitLimit limited = IsTrue (is_limited limited)
