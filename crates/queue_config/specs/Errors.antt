-- Errors, and what they are kinds of.
use Rattle.std.specs.Prelude.{◌≡◌, ℕ, zero, suc, ◌+◌, Bool, List, [], ◌∷◌, length, codes, Option, Some, None}
use Rattle.std.specs.List.{list_any}
use Rattle.job_states.specs.Texts.{is_among}
use Rattle.queue_config.specs.declared.config.ErrorKeys.{ErrorKeys}
use Rattle.queue_config.specs.Named.{find_named}

abbrev pub standard_error : List ℕ
standard_error = codes "StandardError"

abbrev pub find_error : List ℕ → List ErrorKeys → Option ErrorKeys
find_error name errors = find_named (λ error. error.name) name errors

abbrev pub parent_in : Option ErrorKeys → List ℕ
parent_in None = standard_error
parent_in (Some error) = error.parent

-- what an error is a kind of: `StandardError`, unless it is declared with another parent
abbrev pub parent_of : List ErrorKeys → List ℕ → List ℕ
parent_of errors name = parent_in (find_error name errors)

-- the error so many parents above
abbrev pub ancestor : List ErrorKeys → ℕ → List ℕ → List ℕ
ancestor errors zero name = name
ancestor errors (suc n) name = ancestor errors n (parent_of errors name)

-- the error itself, or an ancestor of it
abbrev pub IsKindOf : List ErrorKeys → List ℕ → List ℕ → Type 0
IsKindOf errors name kind = (n : ℕ) × (ancestor errors n name ≡ kind)

-- an error, and so many errors above it
unfoldable pub line : List ErrorKeys → ℕ → List ℕ → List (List ℕ)
line errors zero name = name ∷ []
line errors (suc n) name = name ∷ line errors n (parent_of errors name)

-- one of the names is the error, or one of so many errors above it
abbrev pub meets : List ErrorKeys → List (List ℕ) → ℕ → List ℕ → Bool
meets errors names parents error = list_any (is_among names) (line errors parents error)

-- One of the names is the error or an ancestor of it: where no parents come round, a line of declared errors has at most as
-- many as there are, then comes one that isn't declared, and then `StandardError`.
abbrev pub is_kind_of : List ErrorKeys → List (List ℕ) → List ℕ → Bool
is_kind_of errors names error = meets errors names (length errors + 1) error

-- its parents come round to it: a circle of declared errors has at most as many as there are
abbrev pub is_own_ancestor : List ErrorKeys → ErrorKeys → Bool
is_own_ancestor errors error = meets errors (error.name ∷ []) (length errors) error.parent
