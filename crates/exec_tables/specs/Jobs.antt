-- What is kept beside the rows of jobs, and what is true of them.
use Rattle.std.specs.Prelude.{◌≡◌, ◌<◌, ◌==◌, ◌+◌, ◌-◌, if◌then◌else◌, cond, max, ℕ, Bool, List, Option, None, Some, IsTrue}
use Rattle.std.specs.List.{count_by}
use Rattle.std.specs.Option.{unwrap_or}
use Rattle.std.specs.Ordering.{nat_cmp}
use Rattle.job_states.specs.Ranges.{is_limited}
use Rattle.job_states.specs.States.{permit_of, stage_of, is_blocked, is_claimed, is_failed, is_finished, is_ready, is_scheduled}
use Rattle.job_states.specs.declared.job.Stage.{Stage}
use Rattle.job_states.specs.declared.job.Stage.TheVariants as stage
use Rattle.job_states.specs.declared.job.State.{State}
use Rattle.job_states.specs.declared.job.State.TheVariants.{Claimed}
use Rattle.queue_model.specs.Map as map
use Rattle.queue_model.specs.Sights.{set}
use Rattle.queue_model.specs.World.{World, is_claimed_by, is_holder}
use Rattle.queue_model.specs.declared.Job.{Job}

-- how many of these jobs a process has claimed
abbrev pub claims_in : map.Map nat_cmp Job → ℕ → ℕ
claims_in jobs pid = count_by (is_claimed_by pid) (map.values jobs)

-- how many of these jobs hold a permit of this key and generation
abbrev pub holders_in : map.Map nat_cmp Job → List ℕ → ℕ → ℕ
holders_in jobs key generation = count_by (is_holder key generation) (map.values jobs)

-- is a job at this stage?
abbrev pub is_at : Stage → Job → Bool
is_at stage.Scheduled j = is_scheduled (Some (stage_of j.state))
is_at stage.Ready j = is_ready (Some (stage_of j.state))
is_at stage.Blocked j = is_blocked (Some (stage_of j.state))
is_at stage.Claimed j = is_claimed (Some (stage_of j.state))
is_at stage.Failed j = is_failed (Some (stage_of j.state))
is_at stage.Finished j = is_finished (Some (stage_of j.state))

-- how many of these jobs are at this stage
abbrev pub at_stage_in : map.Map nat_cmp Job → Stage → ℕ
at_stage_in jobs s = count_by (is_at s) (map.values jobs)

-- how many jobs of the world are
abbrev pub at_stage : Stage → World → ℕ
at_stage s w = at_stage_in w.jobs s

-- one of a count, or none
abbrev pub bit : Bool → ℕ
bit b = cond b 1 0

-- a count that is kept where it isn't 0
abbrev pub kept_count : ℕ → Option ℕ
kept_count n = if n == 0 then None else Some n

-- the counts that these entries are, and the count of one process
abbrev pub counts_of : List (ℕ × ℕ) → map.Map nat_cmp ℕ
counts_of entries = map.from_entries entries

abbrev pub count_in : map.Map nat_cmp ℕ → ℕ → ℕ
count_in counts pid = unwrap_or (map.get counts pid) 0

-- with a claim less, and with a claim more
abbrev pub lowered : map.Map nat_cmp ℕ → Option ℕ → map.Map nat_cmp ℕ
lowered counts None = counts
lowered counts (Some pid) = set counts (Some pid) (kept_count (count_in counts pid - 1))

abbrev pub raised : map.Map nat_cmp ℕ → Option ℕ → map.Map nat_cmp ℕ
raised counts None = counts
raised counts (Some pid) = map.insert counts pid (count_in counts pid + 1)

-- the process that has claimed a job in this state
abbrev pub claimant_of : State → Option ℕ
claimant_of (Claimed pid permit) = Some pid
claimant_of state = None

abbrev pub claimant_at : Option Job → Option ℕ
claimant_at None = None
claimant_at (Some j) = claimant_of j.state

-- the greater of this generation and that of the permit that a job in this state holds
abbrev pub newer : ℕ → State → ℕ
newer top state = max top (unwrap_or (permit_of state) 0)

pub record AreKept (jobs : map.Map nat_cmp Job) (counts : map.Map nat_cmp ℕ) (top : ℕ) : Type 0 where
  pub claims : (pid : ℕ) → map.get counts pid ≡ kept_count (claims_in jobs pid)
  -- no job holds a permit of a greater generation
  pub newest : (key : List ℕ) (generation : ℕ) → top < generation → holders_in jobs key generation ≡ 0
  pub limits : (id : ℕ) (j : Job) → map.get jobs id ≡ Some j → IsTrue (is_limited j.row.limited)
