-- The text of a list of errors.
use Rattle.std.specs.Prelude.{ℕ, List, [], ◌∷◌, ◌++◌, codes}

-- each with a comma and a space before it
abbrev pub followed : List (List ℕ) → List ℕ
followed [] = []
followed (name ∷ names) = codes ", " ++ (name ++ followed names)

-- names with a comma and a space between two
abbrev pub joined : List (List ℕ) → List ℕ
joined [] = []
joined (name ∷ names) = name ++ followed names

-- the text of a list of errors, by which retries are counted, as `[A, B]`
abbrev pub list_text : List (List ℕ) → List ℕ
list_text names = codes "[" ++ (joined names ++ codes "]")
