-- Whether a command is within its ranges is decided by the settings alone.
use Rattle.std.proofs.Common.{ℕ}
use Rattle.job_states.specs.declared.command.Command.{Command}
use Rattle.job_states.specs.declared.command.Command.TheVariants as command
use Rattle.job_states.specs.declared.command.NewJob.{NewJob}
use Rattle.queue_config.specs.declared.config.Config.{Config}
use Rattle.plan_model.specs.Books.{Book}
use Rattle.plan_model.specs.GoodScene.{IsNewJob, IsWithinRanges}
use Rattle.plan_model.specs.Scenes.{Scene}

module _ (settings : Config) (b : Book) (m : ℕ) (other : Book) (n : ℕ) where
  abbrev here : Scene
  here = record { book = b; settings = settings; moment = m }

  abbrev there : Scene
  there = record { book = other; settings = settings; moment = n }

  new_job : (new : NewJob) → IsNewJob here new → IsNewJob there new
  new_job new h = record { row = h.row; at = h.at }

  pub in_any_scene : (c : Command) → IsWithinRanges here c → IsWithinRanges there c
  in_any_scene (command.Enqueue new) h = new_job new h
  in_any_scene (command.Bulk news) h = ((λ k d below. new_job _ (h.0 k d below)), h.1)
  in_any_scene c h = h
