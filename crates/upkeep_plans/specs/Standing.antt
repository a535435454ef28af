-- What is left of a walk stands in the draft as it stood at the begin.
use Rattle.std.specs.Prelude.{◌≡◌, ◌≢◌, ◌≤◌, ℕ, Bool, true, ◌&&◌, List, [], ◌∷◌, Contains, IsSome, Some, length}
use Rattle.semaphores.specs.Semaphore.{Semaphore, is_expired}
use Rattle.queue_model.specs.Map as map
use Rattle.queue_model.specs.Transitions.{is_due}
use Rattle.queue_model.specs.World.{claims, is_claimed_by, is_key}
use Rattle.queue_model.specs.declared.Job.{Job}
use Rattle.plan_drafts.specs.Drafting.{Drafting}
use Rattle.plan_model.specs.Drafts.{Draft}
use Rattle.plan_model.specs.Scenes.{Scene}
use Rattle.plan_model.specs.UpkeepCommands.{is_overdue}

-- no item is there twice
abbrev pub AreApart : {X : Type 0} → List X → Type 0
AreApart [] = Unit {0}
AreApart {X} (x ∷ xs) = ((y : X) → Contains xs y → y ≢ x) × AreApart xs

-- ---- keys

-- the keys are those of different semaphores, which are expired in the draft
pub record AreExpired (s : Scene) (keys : List (List ℕ)) (d : Draft) : Type 0 where
  pub there : (key : List ℕ) → Contains keys key → (sem : Semaphore) × (map.get d.world.semaphores key ≡ Some sem) × (is_expired sem s.moment ≡ true)
  pub apart : AreApart keys

-- ---- jobs

abbrev pub itself : Job → Job
itself j = j

abbrev pub is_due_at : (moment : ℕ) → Job → Bool
is_due_at m j = is_due m j.state

-- the items are of different jobs, which pass, and stand in the draft as they stood at its begin
pub record StandJobs {A : Type 0} (job_of : A → Job) (passes : A → Bool) (s : Scene) (items : List A) (d : Draft) : Type 0 where
  pub was : (x : A) → Contains items x → IsSome (map.get s.book.world.jobs (job_of x).row.id)
  pub there : (x : A) → Contains items x → map.get d.world.jobs (job_of x).row.id ≡ Some (job_of x)
  pub pass : (x : A) → Contains items x → passes x ≡ true
  pub one : (x y : A) → Contains items x → Contains items y → job_of x ≡ job_of y → x ≡ y
  pub apart : AreApart items

-- the job's time is over, and this is its key
abbrev pub is_late : (moment : ℕ) → List ℕ × Job → Bool
is_late m e = is_overdue m e.1 && is_key e.0 e.1.row.limited

abbrev pub StandLate : Scene → List (List ℕ × Job) → Draft → Type 0
StandLate s = StandJobs (λ e. e.1) (is_late s.moment) s

-- ---- claims

-- the process has these claims and no others
pub record HasClaims (pid : ℕ) (jobs : List Job) (d : Drafting) : Type 0 where
  pub was : (j : Job) → Contains jobs j → IsSome (map.get d.begun.world.jobs j.row.id)
  pub there : (j : Job) → Contains jobs j → map.get d.draft.world.jobs j.row.id ≡ Some j
  pub claimed : (j : Job) → Contains jobs j → is_claimed_by pid j ≡ true
  pub apart : AreApart jobs
  pub process : IsSome (map.get d.draft.world.processes pid)
  pub count : claims d.draft.world pid ≡ length jobs
  pub few : length jobs ≤ 500
