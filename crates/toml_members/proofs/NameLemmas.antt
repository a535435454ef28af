-- Lists of texts, and texts that are names.
use Rattle.std.proofs.Common.{◌≡◌, Bool, true, List, [], ◌∷◌, ℕ, length, map, refl, arith}
use Rattle.std.specs.List.{list_any}
use Rattle.job_states.specs.Length.{IsName, is_name}

pub list_any-map : {X Y : Type 0} (f : X → Y) (p : Y → Bool) (xs : List X) → list_any p (map f xs) ≡ list_any (λ x. p (f x)) xs
list_any-map f p [] = refl
list_any-map f p (x ∷ xs) = rw (list_any-map f p xs) refl

pub IsName-from_is_name : (text : List ℕ) → is_name text ≡ true → IsName text
IsName-from_is_name text is = grind arith
