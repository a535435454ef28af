-- Why a command is refused: each cause, with what it reports.
use Rattle.std.specs.Prelude.{◌==◌, ◌+◌, ◌^◌, ℕ, Bool, false, not, ◌&&◌, nat_lt, nat_le, if◌then◌else◌, List, [], ◌∷◌, Option, None, Some, is_none}
use Rattle.job_states.specs.States.{stage_of}
use Rattle.job_states.specs.declared.answer.Refused.{Refused}
use Rattle.job_states.specs.declared.answer.Refused.TheVariants.{UnknownClass, KeyRefused, Full, ClaimLimit, NoSuchJob, WrongState, NotClaimant, NoSuchProcess, SemaphoreClosed, NumbersSpent}
use Rattle.job_states.specs.declared.command.NewJob.{NewJob}
use Rattle.job_states.specs.declared.job.Limited.{Limited}
use Rattle.job_states.specs.declared.job.Stage.{Stage}
use Rattle.job_states.specs.declared.job.State.{State}
use Rattle.job_states.specs.declared.job.State.TheVariants.{Claimed}
use Rattle.semaphores.specs.Semaphore.{is_closed}
use Rattle.queue_config.specs.Limits.{find_class, limited_of, is_refused}
use Rattle.queue_model.specs.Chain.{◌>>=◌}
use Rattle.queue_model.specs.Map as map
use Rattle.queue_model.specs.World.{World}
use Rattle.plan_model.specs.Books.{jobs_kept, claims_kept, processes_kept}
use Rattle.plan_model.specs.Drafts.{Draft}
use Rattle.plan_model.specs.Scenes.{Scene}

-- the first cause that is met
abbrev pub first_met : List (Option Refused) → Option Refused
first_met [] = None
first_met (None ∷ causes) = first_met causes
first_met (Some refused ∷ causes) = Some refused

abbrev pub refuse : Bool → Refused → Option Refused
refuse b refused = if b then Some refused else None

-- ---- the causes

-- the settings don't have the class of the job at this place
abbrev pub unknown_class : Scene → (index : ℕ) → NewJob → Option Refused
unknown_class s index new = refuse (is_none (find_class new.class s.settings.classes)) (UnknownClass index new.class)

-- its class takes a key from an argument that can't be one
abbrev pub key_refused : Scene → (index : ℕ) → NewJob → Option Refused
key_refused s index new = refuse (is_refused (limited_of s.settings new.class new.args)) (KeyRefused index)

-- with these more there are too many jobs
abbrev pub full : Scene → (asked : ℕ) → Option Refused
full s asked = refuse (nat_lt s.settings.jobs.kept_max (jobs_kept s.book + asked)) (Full (jobs_kept s.book))

-- there are 1024 processes
abbrev pub no_room : Scene → Option Refused
no_room s = refuse (nat_le 1024 (processes_kept s.book)) (Full (processes_kept s.book))

abbrev pub no_such_process : Scene → (pid : ℕ) → Option Refused
no_such_process s pid = refuse (is_none (map.get s.book.world.processes pid)) (NoSuchProcess pid s.book.world.numbers.pid)

-- with these more the process would have more than 500 claims
abbrev pub claim_limit : Scene → (pid limit : ℕ) → Option Refused
claim_limit s pid limit = refuse (nat_lt 500 (claims_kept s.book pid + limit)) (ClaimLimit pid (claims_kept s.book pid))

abbrev pub no_such_job : Scene → (id : ℕ) → Option Refused
no_such_job s id = refuse (is_none (map.get s.book.world.jobs id)) (NoSuchJob id s.book.world.numbers.job)

-- the job isn't at a stage that passes
abbrev pub wrong_state : Scene → (id : ℕ) → (Option Stage → Bool) → Option Refused
wrong_state s id passes = do
  j ← map.get s.book.world.jobs id
  refuse (not (passes (Some (stage_of j.state)))) (WrongState id (stage_of j.state))

-- another process has claimed the job
abbrev pub not_claimant : Scene → (pid id : ℕ) → Option Refused
not_claimant s pid id = do
  j ← map.get s.book.world.jobs id
  by j.state
  where
    by : State → Option Refused
    by (Claimed p permit) = refuse (not (p == pid)) (NotClaimant id p)
    by state = None

-- a job of this limit would be discarded, since its key is closed
abbrev pub is_shut_out : World → Option Limited → Bool
is_shut_out w None = false
is_shut_out w (Some limited) = limited.discard && is_closed (map.get w.semaphores limited.key)

abbrev pub semaphore_closed : Scene → (id : ℕ) → Option Refused
semaphore_closed s id = do
  j ← map.get s.book.world.jobs id
  limited ← j.row.limited
  refuse (is_shut_out s.book.world (Some limited)) (SemaphoreClosed limited.key)

-- ---- numbers

-- a number above 2^63 of this kind would be given
abbrev pub spent : (before after : ℕ) → Option Refused
spent before after = refuse (nat_lt before after && nat_lt (2 ^ 63 + 1) after) (NumbersSpent before)

-- of the first kind: of a job, of a process, of a generation
abbrev pub numbers_spent : Scene → Draft → Option Refused
numbers_spent s d = first_met (spent s.book.given.job d.given.job ∷ spent s.book.given.pid d.given.pid ∷ spent s.book.given.generation d.given.generation ∷ [])
