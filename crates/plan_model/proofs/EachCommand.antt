-- The plan of each command may be opened.
use Rattle.std.proofs.Common.{◌≡◌, ℕ, [], None, Ok, refl}
use Rattle.job_states.specs.declared.command.Command.{Command}
use Rattle.job_states.specs.declared.command.Command.TheVariants as command
use Rattle.job_states.specs.declared.answer.Answer.TheVariants as answer
use Rattle.queue_model.specs.Map as finite
use Rattle.plan_model.specs.Drafts.{begin}
use Rattle.plan_model.specs.GoodBook.{MayOpen}
use Rattle.plan_model.specs.GoodScene.{IsGoodScene, IsWithinRanges}
use Rattle.plan_model.specs.JobCommands.{job_plan}
use Rattle.plan_model.specs.Planned.{drafted, planned}
use Rattle.plan_model.specs.Plans.{Plan}
use Rattle.plan_model.specs.Scenes.{Scene}
use Rattle.plan_model.specs.UpkeepCommands.{upkeep_plan}
use Rattle.plan_model.proofs.Commands as commands
use Rattle.plan_model.proofs.Departures as departures
use Rattle.plan_model.proofs.Discards as discards
use Rattle.plan_model.proofs.Expiry as expiry
use Rattle.plan_model.proofs.ManyCommands as many
use Rattle.plan_model.proofs.Opening.{IsSound, base, from_base, sound_opens}
use Rattle.plan_model.proofs.PlanLemmas.{begins_empty}
use Rattle.plan_model.proofs.Polls as polls
use Rattle.plan_model.proofs.Processes as processes
use Rattle.plan_model.proofs.Raising as raising

-- of a command that isn't planned by this table the plan is empty
module _ (s : Scene) (seat : ℕ) (good : IsGoodScene s) (vacant : finite.get s.book.open_plans seat ≡ None) where
  empty : (plan : Plan) → planned s [] (drafted (begin s) answer.NotDue) ≡ Ok plan → MayOpen s.book seat plan
  empty plan e = sound_opens s seat good vacant [] (drafted (begin s) answer.NotDue) plan e (from_base s (IsSound s 0) (base s good, begins_empty s)) refl

  pub job_opens : (c : Command) (plan : Plan) → IsWithinRanges s c → job_plan s c ≡ Ok plan → MayOpen s.book seat plan
  job_opens (command.Enqueue new) plan fits e = commands.enqueue s seat good vacant new plan fits e
  job_opens (command.Bulk news) plan fits e = commands.bulk s seat good vacant news plan fits.0 e
  job_opens (command.Poll pid items limit) plan fits e = polls.poll s seat good vacant pid items limit plan e
  job_opens (command.Done pid id) plan fits e = commands.done s seat good vacant pid id plan e
  job_opens (command.Raised pid id error message) plan fits e = raising.raised_error s seat good vacant pid id error message plan fits e
  job_opens (command.Release pid id) plan fits e = commands.release s seat good vacant pid id plan e
  job_opens (command.Retry id) plan fits e = raising.retry_one s seat good vacant id plan e
  job_opens (command.RetryMany queue class) plan fits e = many.retry_many s seat good vacant queue class plan e
  job_opens (command.Discard id) plan fits e = commands.discard s seat good vacant id plan e
  job_opens (command.DiscardMany status queue class) plan fits e = discards.discard_many s seat good vacant status queue class plan fits e
  job_opens (command.Pause queue) plan fits e = commands.pause s seat good vacant queue plan fits e
  job_opens (command.Resume queue) plan fits e = commands.resume s seat good vacant queue plan fits e
  job_opens c plan fits e = empty plan e

  pub upkeep_opens : (c : Command) (plan : Plan) → IsWithinRanges s c → upkeep_plan s c ≡ Ok plan → MayOpen s.book seat plan
  upkeep_opens (command.Register kind name) plan fits e = processes.register s seat good vacant kind name plan fits e
  upkeep_opens (command.Beat pid) plan fits e = processes.beat s seat good vacant pid plan e
  upkeep_opens (command.Deregister pid) plan fits e = departures.deregister s seat good vacant pid plan e
  upkeep_opens command.Dispatch plan fits e = many.dispatch s seat good vacant plan e
  upkeep_opens command.Expire plan fits e = expiry.expire s seat good vacant plan e
  upkeep_opens command.Unblock plan fits e = many.unblock s seat good vacant plan e
  upkeep_opens command.Prune plan fits e = departures.prune_one s seat good vacant plan e
  upkeep_opens command.ClearFinished plan fits e = many.clear_finished s seat good vacant plan e
  upkeep_opens c plan fits e = empty plan e
