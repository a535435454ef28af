-- A good situation leads to good ones, step by step.
use Rattle.std.proofs.Common.{◌≡◌, true, None, Option, Some, List, [], ◌∷◌, All, is_none, refl, subst}
use Rattle.std.proofs.lemmas.List.Elements.{All-head, All-tail}
use Rattle.queue_config.specs.Ranges.{IsConfig}
use Rattle.queue_config.specs.declared.config.Config.{Config}
use Rattle.queue_model.proofs.Steps.{passed, same_Some, then}
use Rattle.plan_model.specs.JobCommands.{job_plan}
use Rattle.plan_model.specs.Plans.{Plan}
use Rattle.plan_model.specs.UpkeepCommands.{upkeep_plan}
use Rattle.situation_model.specs.GoodSituation.{IsGoodSituation}
use Rattle.situation_model.specs.Situations.{Situation, begins, begun, open_at}
use Rattle.situation_model.specs.Steps.{Begin, Checkpoint, CheckpointFault, Commit, CommitFault, IsInRange, Reopen, Rollback, Step, after_step, after_steps}
use Rattle.situation_model.proofs.Begun.{Opens, WithPlan, begun_good}
use Rattle.situation_model.proofs.Made.{Untouched}
use Rattle.situation_model.proofs.Ended.{Applied, Opened, Replayed, Without, checkpoint_faulted_good, committed_good, faulted_good, reopened_good, rolled_back_good, without_doubt}

-- what the laws of plans, books and worlds say
pub record Laws : Type 0 where
  pub jobs : Opens job_plan
  pub upkeep : Opens upkeep_plan
  pub with_plan : WithPlan
  pub opened : Opened
  pub applied : Applied
  pub without : Without
  pub replayed : Replayed
  pub untouched : Untouched

nothing_there : (o : Option Plan) → is_none o ≡ true → o ≡ None
nothing_there None e = refl
nothing_there (Some plan) e = cc

module _ (laws : Laws) (settings : Config) (config : IsConfig settings) where
  pub step_good : (s t : Situation) (step : Step) → IsInRange settings step → IsGoodSituation s → after_step settings s step ≡ Some t → IsGoodSituation t
  step_good s t (Begin seat c now) within good e =
      let vacant = passed (is_none (open_at s seat)) _ t e in
      subst IsGoodSituation (same_Some (begun s seat (begins settings s c now)) t vacant.1)
      (begun_good laws.jobs laws.upkeep laws.with_plan settings config s good seat now c within.0 within.1 within.2 (nothing_there (open_at s seat) vacant.0))
  step_good s t (Commit seat) within good e = committed_good s t good laws.applied laws.untouched seat e
  step_good s t (CommitFault seat left) within good e = faulted_good s t good laws.without seat left e
  step_good s t (Rollback seat) within good e = rolled_back_good s t good laws.without seat e
  step_good s t Checkpoint within good e = subst IsGoodSituation (same_Some _ t e) (without_doubt s t good)
  step_good s t (CheckpointFault stays) within good e = subst IsGoodSituation (same_Some _ t e) (checkpoint_faulted_good s t good stays)
  step_good s t (Reopen takes_in) within good e = reopened_good s t good laws.opened laws.replayed takes_in e

-- and so does each list of them
module _ (settings : Config) (one : (s t : Situation) (step : Step) → IsInRange settings step → IsGoodSituation s → after_step settings s step ≡ Some t → IsGoodSituation t) where
  pub steps_good : (s end : Situation) (steps : List Step) → All (IsInRange settings) steps → IsGoodSituation s → after_steps settings s steps ≡ Some end → IsGoodSituation end
  steps_good s end [] within good e = subst IsGoodSituation (same_Some s end e) good
  steps_good s end (step ∷ steps) within good e =
      let first = then (after_step settings s step) (λ t. after_steps settings t steps) end e in
      steps_good first.0 end steps (All-tail (IsInRange settings) step steps within)
      (one s first.0 step (All-head (IsInRange settings) step steps within) good first.1) first.2
