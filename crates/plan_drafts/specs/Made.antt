-- What is true of a draft while it is made.
use Rattle.std.specs.Prelude.{◌≡◌, ℕ, List, Some}
use Rattle.job_states.specs.Moment.{IsMoment}
use Rattle.queue_model.specs.GoodWorld.{IsGood}
use Rattle.queue_model.specs.Map as map
use Rattle.queue_model.specs.World.{World}
use Rattle.queue_model.specs.declared.Job.{Job}
use Rattle.queue_model.specs.declared.Numbers.{Numbers}
use Rattle.transition_table.specs.Seen.{job_seen, stand_of}
use Rattle.plan_model.specs.GoodBook.{AreAbove}
use Rattle.plan_model.specs.GoodDraft.{IsFresh}
use Rattle.plan_drafts.specs.Left.{world_after, stand_after, semaphore_after, found_at}
use Rattle.plan_drafts.specs.declared.pushed.Pushed.{Pushed}

-- these transitions were pushed on a draft that began in this world
pub record IsMade (w : World) (m : ℕ) (given : Numbers) (pushed : List Pushed) : Type 0 where
  pub good : IsGood w
  pub moment : IsMoment m
  pub above : AreAbove w.numbers given
  pub fresh : IsFresh (world_after w m pushed) given
  -- a job that was there at the begin stands where it was left last, under the limit that it had
  pub jobs : (id : ℕ) (j : Job) → map.get w.jobs id ≡ Some j → job_seen (map.get (world_after w m pushed).jobs id) ≡ found_at j.row.limited (stand_after pushed id (Some (stand_of j.state)))
  pub semaphores : (key : List ℕ) → map.get (world_after w m pushed).semaphores key ≡ semaphore_after pushed key (map.get w.semaphores key)
