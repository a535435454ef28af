-- A command that ends a claim and isn't refused finds it.
use Rattle.std.proofs.Common.{◌≡◌, ℕ, true, [], ◌∷◌, Some, Ok}
use Rattle.job_states.specs.States.{stage_of, is_claimed}
use Rattle.queue_model.specs.Map as map
use Rattle.queue_model.specs.declared.Job.{Job}
use Rattle.plan_model.specs.JobCommands.{of_claim}
use Rattle.plan_model.specs.Planned.{Drafted, planned}
use Rattle.plan_model.specs.Plans.{Plan}
use Rattle.plan_model.specs.Refusals.{no_such_job, wrong_state, not_claimant, numbers_spent}
use Rattle.plan_model.specs.Scenes.{Scene}
use Rattle.plan_model.proofs.PlanLemmas.{accepted, unmet, job_there, right_state}

pub record IsClaim (s : Scene) (id : ℕ) : Type 0 where
  pub job : Job
  pub found : map.get s.book.world.jobs id ≡ Some job
  pub claimed : is_claimed (Some (stage_of job.state)) ≡ true

-- a command that ends a claim wasn't refused, so there is one
pub claim_there : (s : Scene) (pid id : ℕ) (made : Drafted) (plan : Plan) → planned s (of_claim s pid id) made ≡ Ok plan → IsClaim s id
claim_there s pid id made plan e =
    let causes = accepted s (of_claim s pid id) made plan e in
    let first = unmet (no_such_job s id) (wrong_state s id is_claimed ∷ not_claimant s pid id ∷ numbers_spent s made.draft ∷ []) causes.0 in
    let second = unmet (wrong_state s id is_claimed) (not_claimant s pid id ∷ numbers_spent s made.draft ∷ []) first.1 in
    let j = job_there s id first.0 in
    record { job = j.0; found = j.1; claimed = right_state s id is_claimed j.0 j.1 second.0 }
