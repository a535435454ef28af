-- Which commands are about claims, and the claim that they find.
use Rattle.std.specs.Prelude.{◌≡◌, ℕ, Bool, true, false, IsTrue, Some}
use Rattle.job_states.specs.States.{stage_of, is_claimed}
use Rattle.job_states.specs.declared.command.Command.{Command}
use Rattle.job_states.specs.declared.command.Command.TheVariants as command
use Rattle.queue_model.specs.Map as map
use Rattle.queue_model.specs.declared.Job.{Job}
use Rattle.plan_model.specs.Scenes.{Scene}

abbrev pub is_about_claims : Command → Bool
is_about_claims (command.Poll pid items limit) = true
is_about_claims (command.Done pid id) = true
is_about_claims (command.Raised pid id error message) = true
is_about_claims (command.Release pid id) = true
is_about_claims c = false

-- the job stands there under its number, and is claimed
pub record IsClaim (s : Scene) (id : ℕ) (j : Job) : Type 0 where
  pub found : map.get s.book.world.jobs id ≡ Some j
  pub number : j.row.id ≡ id
  pub claimed : IsTrue (is_claimed (Some (stage_of j.state)))
