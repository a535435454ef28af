-- What callers, workers and maintenance do, and what the disk does to them, step by step.
use Rattle.std.specs.Prelude.{◌<◌, ◌≢◌, ℕ, Bool, true, is_none, List, [], ◌∷◌, ◌++◌, Option, Some, unwrap_or}
use Rattle.std.specs.Option.{option_map_or}
use Rattle.job_states.specs.Moment.{IsMoment}
use Rattle.job_states.specs.declared.command.Command.{Command}
use Rattle.job_states.specs.declared.transition.Transaction.{Transaction}
use Rattle.queue_config.specs.declared.config.Config.{Config}
use Rattle.queue_model.specs.Chain.{◌>>=◌, ◌>>◌, when}
use Rattle.queue_model.specs.World.{empty}
use Rattle.plan_model.specs.GoodScene.{IsWithinRanges}
use Rattle.situation_model.specs.Situations.{Left, Situation, begins, begun, checkpoint_faulted, checkpointed, committed, faulted, open_at, reopened, rolled_back, scene_at, situation_over}

-- What the outside decides is part of a step: the clock's moment, whether a fault is met and what it leaves in doubt, and
-- whether a reopening takes in the record in doubt.
pub data Step : Type 0 where
  Begin : (seat : ℕ) → Command → (now : ℕ) → Step
  Commit : (seat : ℕ) → Step
  CommitFault : (seat : ℕ) → Left → Step
  Rollback : (seat : ℕ) → Step
  Checkpoint : Step
  CheckpointFault : (stays : Bool) → Step
  Reopen : (takes_in : Bool) → Step

-- the situation after a step; a seat begins where nothing is open there, and ends what is open
abbrev pub after_step : Config → Situation → Step → Option Situation
after_step settings s (Begin seat c now) = do when (is_none (open_at s seat)); Some (begun s seat (begins settings s c now))
after_step settings s (Commit seat) = committed s seat
after_step settings s (CommitFault seat left) = faulted s seat left
after_step settings s (Rollback seat) = rolled_back s seat
after_step settings s Checkpoint = Some (checkpointed s)
after_step settings s (CheckpointFault stays) = Some (checkpoint_faulted s stays)
after_step settings s (Reopen takes_in) = reopened s takes_in

-- the situation after steps in turn
abbrev pub after_steps : Config → Situation → List Step → Option Situation
after_steps settings s [] = Some s
after_steps settings s (step ∷ steps) = do
  t ← after_step settings s step
  after_steps settings t steps

-- ---- accepted transactions

-- those that a step accepts: of a commit that meets no fault, and of a doubt that a reopening takes in
abbrev pub accepted_by : Situation → Step → List Transaction
accepted_by s (Commit seat) = option_map_or (λ plan. plan.tx ∷ []) (open_at s seat) []
accepted_by s (Reopen true) = unwrap_or s.doubt []
accepted_by s step = []

-- those that steps accept, in order
abbrev pub accepted : Config → Situation → List Step → List Transaction
accepted settings s [] = []
accepted settings s (step ∷ steps) = accepted_by s step ++ option_map_or (λ t. accepted settings t steps) (after_step settings s step) []

-- ---- which steps may come

-- any of the 64 seats, any moment, and any command within its ranges, of which the settings alone decide
abbrev pub IsInRange : Config → Step → Type 0
IsInRange settings (Begin seat c now) = (seat < 64) × IsMoment now × IsWithinRanges (scene_at settings (situation_over empty) 0) c
IsInRange settings step = Unit {0}

-- the step is no end of what is open at the seat: neither a commit nor a rollback there, nor a reopening
abbrev pub IsElsewhere : (seat : ℕ) → Step → Type 0
IsElsewhere seat (Commit other) = other ≢ seat
IsElsewhere seat (CommitFault other left) = other ≢ seat
IsElsewhere seat (Rollback other) = other ≢ seat
IsElsewhere seat (Reopen takes_in) = ⊥
IsElsewhere seat step = Unit {0}
