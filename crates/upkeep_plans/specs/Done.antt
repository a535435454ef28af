-- A draft that has come to what a command does.
use Rattle.std.specs.Prelude.{◌≡◌, None}
use Rattle.job_states.specs.declared.answer.Answer.{Answer}
use Rattle.job_states.specs.declared.command.Command.{Command}
use Rattle.plan_drafts.specs.Drafting.{Drafting}
use Rattle.plan_model.specs.GoodScene.{IsWithinRanges}
use Rattle.plan_model.specs.Refusals.{first_met}
use Rattle.plan_model.specs.Scenes.{Scene}
use Rattle.plan_model.specs.UpkeepCommands.{does, refusals}
use Rattle.plan_scenes.specs.Begun.{ComesTo}

-- the command isn't refused, and the draft and the answer are what it does
pub record IsDone (s : Scene) (d : Drafting) (reply : Answer) (c : Command) : Type 0 where
  pub ranges : IsWithinRanges s c
  pub unmet : first_met (refusals s c) ≡ None
  pub comes : ComesTo s (does s c) d reply
