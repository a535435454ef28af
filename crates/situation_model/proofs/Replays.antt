-- The world after steps is a replay.
use Rattle.std.proofs.Common.{◌≡◌, ℕ, true, false, List, [], ◌∷◌, ◌++◌, Option, Some, is_none, Result, Ok, Err, ap, ◌∙◌}
use Rattle.std.specs.Option.{option_map_or, unwrap_or}
use Rattle.job_states.specs.declared.answer.Refused.{Refused}
use Rattle.job_states.specs.declared.transition.Transaction.{Transaction}
use Rattle.queue_config.specs.declared.config.Config.{Config}
use Rattle.queue_model.specs.Chain.{◌>>=◌}
use Rattle.queue_model.specs.Replay.{after, replay}
use Rattle.queue_model.specs.World.{World}
use Rattle.queue_model.proofs.Steps.{passed, same_Some, then}
use Rattle.plan_model.specs.Plans.{Plan}
use Rattle.situation_model.specs.Situations.{Situation, begins, begun, is_written, open_at, recovered, situation_over}
use Rattle.situation_model.specs.Steps.{Begin, Checkpoint, CheckpointFault, Commit, CommitFault, Reopen, Rollback, Step, accepted, accepted_by, after_step, after_steps}

-- one list of transactions, and then another one
in_turn : (w v : World) (xs ys : List Transaction) → replay w xs ≡ Some v → replay w (xs ++ ys) ≡ replay v ys
in_turn w v [] ys e = ap (λ u. replay u ys) (same_Some w v e)
in_turn w v (tx ∷ xs) ys e =
    let first = then (after w tx) (λ u. replay u xs) v e in
    ap (λ o. o >>= (λ u. replay u (xs ++ ys))) first.1 ∙ in_turn first.0 v xs ys first.2

same_world : (s t : Situation) → ◌≡◌ {A = Option Situation} (Some s) (Some t) → ◌≡◌ {A = Option World} (Some s.book.world) (Some t.book.world)
same_world s t e = ap (λ (o : Option Situation). o >>= (λ u. Some u.book.world)) e

begun_world : (s t : Situation) (seat : ℕ) (r : Result Plan Refused) → ◌≡◌ {A = Option Situation} (Some (begun s seat r)) (Some t) → ◌≡◌ {A = Option World} (Some s.book.world) (Some t.book.world)
begun_world s t seat (Err refused) e = same_world s t e
begun_world s t seat (Ok plan) e = same_world (begun s seat (Ok plan)) t e

one_step : (settings : Config) (s t : Situation) (step : Step) → after_step settings s step ≡ Some t → replay s.book.world (accepted_by s step) ≡ Some t.book.world
one_step settings s t (Begin seat c now) e = begun_world s t seat (begins settings s c now) (passed (is_none (open_at s seat)) _ t e).1
one_step settings s t (Commit seat) e =
    let found = then (open_at s seat) _ t e in
    let legal = then (after s.book.world found.0.tx) _ t found.2 in
    ap (λ o. replay s.book.world (option_map_or (λ (plan : Plan). plan.tx ∷ []) o [])) found.1
    ∙ ap (λ (o : Option World). o >>= (λ v. Some v)) legal.1
    ∙ same_world _ t legal.2
one_step settings s t (CommitFault seat left) e =
    let found = then (open_at s seat) _ t e in
    same_world _ t (passed (is_written found.0.tx) _ t found.2).1
one_step settings s t (Rollback seat) e = same_world _ t (then (open_at s seat) _ t e).2
one_step settings s t Checkpoint e = same_world _ t e
one_step settings s t (CheckpointFault true) e = same_world _ t e
one_step settings s t (CheckpointFault false) e = same_world _ t e
one_step settings s t (Reopen true) e =
    let found = then (recovered s true) _ t e in
    let doubt = then s.doubt _ found.0 found.1 in
    ap (λ (o : Option (List Transaction)). replay s.book.world (unwrap_or o [])) doubt.1 ∙ doubt.2 ∙ same_world _ t found.2
one_step settings s t (Reopen false) e = same_world (situation_over s.book.world) t e

pub all_steps : (settings : Config) (s end : Situation) (steps : List Step) → after_steps settings s steps ≡ Some end → replay s.book.world (accepted settings s steps) ≡ Some end.book.world
all_steps settings s end [] e = ap (λ (o : Option Situation). o >>= (λ t. Some t.book.world)) e
all_steps settings s end (step ∷ steps) e =
    let first = then (after_step settings s step) (λ t. after_steps settings t steps) end e in
    ap (λ o. replay s.book.world (accepted_by s step ++ option_map_or (λ t. accepted settings t steps) o [])) first.1
    ∙ in_turn s.book.world first.0.book.world (accepted_by s step) (accepted settings first.0 steps) (one_step settings s first.0 step first.1)
    ∙ all_steps settings first.0 end steps first.2
