-- Elements with names: which are repeated, and the element of a name.
use Rattle.std.specs.Prelude.{ℕ, Bool, ◌++◌, List, [], ◌∷◌, length, Option, Some, None, if◌then◌else◌}
use Rattle.std.specs.List.{find, list_any}
use Rattle.std.specs.Str.{bytes_eq}

-- the element of a name: the first one
abbrev pub find_named : {X : Type 0} → (X → List ℕ) → List ℕ → List X → Option X
find_named name_of name xs = find (λ x. bytes_eq (name_of x) name) xs

-- the place of the first element that clashes with one before it
unfoldable pub first_clash : {X : Type 0} → (X → X → Bool) → List X → List X → Option ℕ
first_clash clash before [] = None
first_clash clash before (x ∷ xs) = if list_any (λ earlier. clash earlier x) before then Some (length before) else first_clash clash (before ++ x ∷ []) xs

-- two have one name
abbrev pub same_name : {X : Type 0} → (X → List ℕ) → X → X → Bool
same_name name_of a b = bytes_eq (name_of a) (name_of b)

-- the place of the first element whose name stands before it too
abbrev pub first_repeat : {X : Type 0} → (X → List ℕ) → List X → Option ℕ
first_repeat name_of xs = first_clash (same_name name_of) [] xs
