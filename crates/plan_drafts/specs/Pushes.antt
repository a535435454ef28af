-- What a draft may be told to push.
use Rattle.std.specs.Prelude.{◌≡◌, ◌≤◌, ◌<◌, ◌-◌, ◌^◌, ℕ, Bool, true, false, Option, None, Some, IsSome, IsTrue, IsFalse, option_map}
use Rattle.std.specs.Option.{ForSome}
use Rattle.job_states.specs.declared.transition.Transition.{Transition}
use Rattle.job_states.specs.declared.transition.Transition.TheVariants.{Enqueue, Register, Run}
use Rattle.queue_model.specs.Chain.{◌>>=◌}
use Rattle.queue_model.specs.Held.{holds}
use Rattle.queue_model.specs.Map as map
use Rattle.queue_model.specs.Named.{job_named, generation_named}
use Rattle.queue_model.specs.Sights.{Rows, sees}
use Rattle.queue_model.specs.Transitions.{changes}
use Rattle.queue_model.specs.World.{World}
use Rattle.queue_model.specs.declared.Numbers.{Numbers}
use Rattle.transition_table.specs.Seen.{Found, job_seen, stand_at}
use Rattle.plan_drafts.specs.declared.pushed.Pushed.{Pushed}

abbrev pub is_run : Transition → Bool
is_run (Run task time id) = true
is_run t = false

-- the job that it moves: a new one isn't there yet, and a run moves none
abbrev pub job_moved : Transition → Option ℕ
job_moved (Enqueue row put) = None
job_moved (Run task time id) = None
job_moved t = job_named t

-- the number of a new job
abbrev pub job_made : Transition → Option ℕ
job_made (Enqueue row put) = Some row.id
job_made t = None

-- the number of a new process
abbrev pub process_made : Transition → Option ℕ
process_made (Register pid kind name) = Some pid
process_made t = None

-- the job that it moves, if it moves one, was there at the begin
abbrev pub IsKnown : World → Transition → Type 0
IsKnown w t = ForSome (job_moved t) (λ id. IsSome (map.get w.jobs id))

-- a new job and a new process have the numbers that are given next, and no permit is of a later generation
pub record NamesNext (given : Numbers) (t : Transition) : Type 0 where
  pub job : ForSome (job_made t) (λ id. id ≡ given.job)
  pub pid : ForSome (process_made t) (λ pid. pid ≡ given.pid)
  pub generation : ForSome (generation_named t) (λ generation. generation ≤ given.generation)

-- each number that is given next can be followed by another one
pub record MayRise (given : Numbers) : Type 0 where
  pub job : given.job < 2 ^ 64 - 1
  pub pid : given.pid < 2 ^ 64 - 1
  pub generation : given.generation < 2 ^ 64 - 1

-- this is what the transition reads of its job; a run's rows don't depend on its job, of which nothing is read
pub record IsRead (w : World) (t : Transition) (read : Option Found) : Type 0 where
  pub job : IsFalse (is_run t) → read ≡ job_seen (job_named t >>= map.get w.jobs)
  pub run : IsTrue (is_run t) → read ≡ None

-- this is what a transition leaves that is legal in the world
pub record IsLeft (w : World) (m : ℕ) (t : Transition) (pushed : Pushed) : Type 0 where
  pub step : pushed.step ≡ t
  pub job : (rows : Rows) → changes m (sees w (holds w t)) t ≡ Some rows → pushed.job ≡ option_map (λ id. (id, stand_at (job_seen rows.job))) (job_moved t)
  pub semaphore : (rows : Rows) → changes m (sees w (holds w t)) t ≡ Some rows → pushed.semaphore ≡ option_map (λ key. (key, rows.semaphore)) (holds w t).key
