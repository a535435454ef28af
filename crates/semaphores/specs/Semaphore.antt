-- The semaphore of a concurrency key: what takes and returns its permits.
use Rattle.std.specs.Prelude.{◌==◌, ℕ, ◌+◌, ◌-◌, ◌≤◌, Bool, false, min, nat_le, Option, None, Some, if◌then◌else◌}

pub record Semaphore : Type 0 where
  pub generation : ℕ
  pub limit : ℕ
  -- how many permits are free
  pub free : ℕ
  -- the moment from which on it may be removed
  pub expires : ℕ

abbrev pub semaphore : (generation limit free expires : ℕ) → Semaphore
semaphore generation limit free expires = record { generation = generation; limit = limit; free = free; expires = expires }

-- it has a permit, and no more are free than there are
pub record IsSoundSemaphore (s : Semaphore) : Type 0 where
  pub some_permit : 1 ≤ s.limit
  pub within_limit : s.free ≤ s.limit

-- a semaphore stands, and no permit is free
abbrev pub is_closed : Option Semaphore → Bool
is_closed None = false
is_closed (Some s) = s.free == 0

-- a semaphore of this generation stands
abbrev pub is_of_generation : Option Semaphore → ℕ → Bool
is_of_generation None generation = false
is_of_generation (Some s) generation = s.generation == generation

abbrev pub is_expired : Semaphore → (now : ℕ) → Bool
is_expired s now = nat_le s.expires now

-- What the key has once a permit is taken; none where it is closed. A standing semaphore keeps its generation and its
-- limit, and a key without one gets a new one.
abbrev pub taken : Option Semaphore → (fresh limit expires : ℕ) → Option Semaphore
taken None fresh limit expires = Some (semaphore fresh limit (limit - 1) expires)
taken (Some s) fresh limit expires = if s.free == 0 then None else Some (record s { free = s.free - 1; expires = expires })

-- What the key has once a job gave back what it held. Only a permit of the standing generation counts: one more is free,
-- at most the limit.
abbrev pub given_back : Option Semaphore → (permit : Option ℕ) → (expires : ℕ) → Option Semaphore
given_back None permit expires = None
given_back (Some s) None expires = Some s
given_back (Some s) (Some generation) expires = if s.generation == generation then Some (record s { free = min (s.free + 1) s.limit; expires = expires }) else Some s
