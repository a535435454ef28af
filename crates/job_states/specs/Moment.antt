-- Moments: microseconds since 1970.
use Rattle.std.specs.Prelude.{ℕ, ◌+◌, ◌≤◌, min, Bool, nat_le}

-- the last microsecond of the year 9998
abbrev pub last_moment : ℕ
last_moment = 253_370_764_799_999_999

abbrev pub IsMoment : ℕ → Type 0
IsMoment moment = moment ≤ last_moment

-- the same as a test
abbrev pub is_moment : ℕ → Bool
is_moment moment = nat_le moment last_moment

-- the moment that comes so many microseconds after this one; what would be past the last moment is the last one
abbrev pub later_moment : ℕ → ℕ → ℕ
later_moment moment micros = min (moment + micros) last_moment
