-- What the look-ups that end in `_after` find: the least above a place among those that belong to a family.
use Rattle.std.specs.Prelude.{◌≡◌, ◌≢◌, ℕ, ℤ, Bool, true, false, ◌&&◌, List, Option, None, Some, if◌then◌else◌}
use Rattle.std.specs.Ordering.{is_lt, int_cmp, nat_cmp, ordering_then}
use Rattle.std.specs.Str.{bytes_eq}
use Rattle.std.specs.declared.cmp.Ordering.{Ordering}
use Rattle.std.specs.declared.cmp.Ordering.TheVariants.{Less}
use Rattle.job_states.specs.States.{stage_of, is_blocked, is_ready}
use Rattle.job_states.specs.declared.job.State.{State}
use Rattle.job_states.specs.declared.job.State.TheVariants.{Scheduled}
use Rattle.queue_model.specs.Held.{key_of}
use Rattle.queue_model.specs.Map as map
use Rattle.queue_model.specs.World.{is_key, run_cmp}
use Rattle.queue_model.specs.declared.Job.{Job}

-- where there is no place, everything is above it
abbrev pub is_above : {X : Type 0} → (X → X → Ordering) → Option X → X → Bool
is_above R None x = true
is_above R (Some past) x = is_lt (R past x)

-- the least of the family above the place, or none where none is above it
pub record IsNext {X : Type 0} (R : X → X → Ordering) (Family : X → Type 0) (past found : Option X) : Type 0 where
  pub belongs : (x : X) → found ≡ Some x → Family x
  pub above : (x : X) → found ≡ Some x → is_above R past x ≡ true
  pub least : (x y : X) → found ≡ Some x → Family y → is_above R past y ≡ true → R y x ≢ Less
  pub none : found ≡ None → (y : X) → Family y → is_above R past y ≡ false

-- the places at which the rows of a map are listed
abbrev pub Listed : {K V X : Type 0} {R : K → K → Ordering} → (K → V → Option X) → map.Map R V → X → Type 0
Listed {K} {V} {X} place rows x = (k : K) × (v : V) × (map.get rows k ≡ Some v) × (place k v ≡ Some x)

-- ---- places

-- by its key
abbrev pub by_key : {K V : Type 0} → K → V → Option K
by_key k v = Some k

-- with its row, by its key
abbrev pub by_row : {K V : Type 0} → K → V → Option (K × V)
by_row k v = Some (k, v)

abbrev pub run_row_cmp : (List ℕ × ℕ) × ℕ → (List ℕ × ℕ) × ℕ → Ordering
run_row_cmp a b = run_cmp a.0 b.0

-- by number, where it passes
abbrev pub by_number : (Job → Bool) → ℕ → Job → Option ℕ
by_number passes id j = if passes j then Some id else None

-- by priority and number, where it passes
abbrev pub by_priority : (Job → Bool) → ℕ → Job → Option (ℤ × ℕ)
by_priority passes id j = if passes j then Some (j.row.priority, id) else None

abbrev pub priority_cmp : ℤ × ℕ → ℤ × ℕ → Ordering
priority_cmp a b = ordering_then (int_cmp a.0 b.0) (nat_cmp a.1 b.1)

-- a scheduled job, by its moment, its priority and its number
abbrev pub by_moment : ℕ → Job → Option (ℕ × ℤ × ℕ)
by_moment id j = at j.state
  where
    at : State → Option (ℕ × ℤ × ℕ)
    at (Scheduled moment) = Some (moment, j.row.priority, id)
    at state = None

abbrev pub moment_cmp : ℕ × ℤ × ℕ → ℕ × ℤ × ℕ → Ordering
moment_cmp a b = ordering_then (ordering_then (nat_cmp a.0 b.0) (int_cmp a.1 b.1)) (nat_cmp a.2 b.2)

-- a blocked job, by its key
abbrev pub by_blocked_key : ℕ → Job → Option (List ℕ)
by_blocked_key id j = if is_blocked (Some (stage_of j.state)) then key_of j.row.limited else None

-- a ready job, by its queue
abbrev pub by_ready_queue : ℕ → Job → Option (List ℕ)
by_ready_queue id j = if is_ready (Some (stage_of j.state)) then Some j.row.queue else None

-- ---- which jobs

abbrev pub is_any_ready : Job → Bool
is_any_ready j = is_ready (Some (stage_of j.state))

abbrev pub is_ready_in : List ℕ → Job → Bool
is_ready_in queue j = is_ready (Some (stage_of j.state)) && bytes_eq j.row.queue queue

abbrev pub is_blocked_at : List ℕ → Job → Bool
is_blocked_at key j = is_blocked (Some (stage_of j.state)) && is_key key j.row.limited

-- ---- among several

-- it comes before what was found so far
abbrev pub is_better : {X : Type 0} → (X → X → Ordering) → Option X → X → Bool
is_better R None x = true
is_better R (Some least) x = is_lt (R x least)
