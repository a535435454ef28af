-- Moments are microseconds since 1970, and those that a clock gives in turn.
use Rattle.std.specs.Prelude.{◌≡◌, ◌≤◌, ℕ, List, [], ◌∷◌, Option, None, Some, All}

-- the last microsecond of the year 9998
abbrev pub last_moment : ℕ
last_moment = 253370764799999999

abbrev pub IsMoment : ℕ → Type 0
IsMoment moment = moment ≤ last_moment

abbrev pub AreMoments : List ℕ → Type 0
AreMoments moments = All IsMoment moments

-- the one that comes first; a clock without moments gives 0
abbrev pub first_moment : List ℕ → ℕ
first_moment [] = 0
first_moment (moment ∷ moments) = moment

-- those that come after a call: the last one stays
abbrev pub later_moments : List ℕ → List ℕ
later_moments [] = []
later_moments (last ∷ []) = last ∷ []
later_moments (first ∷ next ∷ moments) = next ∷ moments

-- exposed moments go on by one
abbrev pub Drops : Option (List ℕ) → Option (List ℕ) → Type 0
Drops None new = Unit {0}
Drops (Some moments) None = ⊥
Drops (Some moments) (Some later) = later ≡ later_moments moments
