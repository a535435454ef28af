-- The jobs that a poll may claim.
use Rattle.std.specs.Prelude.{◌≡◌, ◌≢◌, ◌≤◌, ◌+◌, ℕ, Bool, IsTrue, IsSome, List, [], ◌∷◌, length, All, Some}
use Rattle.job_states.specs.States.{stage_of, is_ready}
use Rattle.job_states.specs.declared.row.Mode.TheVariants.{Alone}
use Rattle.job_states.specs.declared.row.Row.TheVariants as row
use Rattle.queue_model.specs.Map as map
use Rattle.queue_model.specs.World.{claims}
use Rattle.queue_model.specs.declared.Job.{Job}
use Rattle.plan_model.specs.Books.{Book}
use Rattle.plan_model.specs.Scenes.{is_free}
use Rattle.plan_drafts.specs.Drafting.{Drafting}

-- no open plan holds the job's row
abbrev pub is_free_job : Book → Job → Bool
is_free_job b j = is_free b (row.Job j.row.id) Alone

-- the job was there at the draft's begin, and is ready where it stands
pub record IsReadyIn (d : Drafting) (j : Job) : Type 0 where
  pub known : IsSome (map.get d.begun.world.jobs j.row.id)
  pub found : map.get d.draft.world.jobs j.row.id ≡ Some j
  pub ready : IsTrue (is_ready (Some (stage_of j.state)))

-- none stands there twice
abbrev pub AreApart : List Job → Type 0
AreApart [] = Unit {0}
AreApart (j ∷ jobs) = All (λ other. other.row.id ≢ j.row.id) jobs × AreApart jobs

-- the process may claim these jobs, one after another
pub record CanClaim (d : Drafting) (pid : ℕ) (jobs : List Job) : Type 0 where
  pub ready : All (IsReadyIn d) jobs
  pub apart : AreApart jobs
  pub process : IsSome (map.get d.draft.world.processes pid)
  pub few : claims d.draft.world pid + length jobs ≤ 500
