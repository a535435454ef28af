-- Names that are given as places.
use Rattle.std.specs.Prelude.{◌≡◌, ◌<◌, ℕ, List, [], ◌∷◌, length}

-- there is one place, and a name stands there
abbrev pub IsOneOf : (names : List (List ℕ)) (places : List ℕ) → Type 0
IsOneOf names places = (place : ℕ) × (places ≡ place ∷ []) × (place < length names)
