-- The place of each name in a list.
use Rattle.std.specs.Prelude.{◌≡◌, ℕ, ◌+◌, List, [], ◌∷◌, Option, Some, None, if◌then◌else◌}
use Rattle.std.specs.HashMap.{HashMap, get}
use Rattle.std.specs.Str.{bytes_eq}
use Rattle.queue_config.specs.Named.{first_repeat}

-- the place of the first element of a name, where the first of all has the place n
abbrev pub place_from : {X : Type 0} → (X → List ℕ) → ℕ → List X → List ℕ → Option ℕ
place_from name_of n [] name = None
place_from name_of n (x ∷ xs) name = if bytes_eq (name_of x) name then Some n else place_from name_of (n + 1) xs name

-- a map gives the place of each name
abbrev pub ArePlaces : {X S : Type 0} → (X → List ℕ) → HashMap (List ℕ) ℕ S → List X → Type 0
ArePlaces name_of places xs = (name : List ℕ) → get bytes_eq places name ≡ place_from name_of 0 xs name

-- beside them the place of the first name that is repeated
pub record IsIndex {X S : Type 0} (name_of : X → List ℕ) (xs : List X) (places : HashMap (List ℕ) ℕ S) (repeat : Option ℕ) : Type 0 where
  pub are_places : ArePlaces name_of places xs
  pub is_repeat : repeat ≡ first_repeat name_of xs
