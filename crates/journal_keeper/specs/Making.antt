-- How file 0 stands while it is made.
use Rattle.std.specs.Prelude.{◌≡◌, ◌⊎◌, ℕ, List, [], ◌∷◌, ◌++◌, drop, slice_index}
use Rattle.journal_format.specs.Header.{header}
use Rattle.journal_keeper.specs.Writes.{IsReplaced}

-- a journal without records: a header of turn 0, and a closed gate
abbrev pub new_journal : List ℕ
new_journal = header 0 ++ 0 ∷ []

-- it begins with `00`
abbrev pub IsUnmade : List ℕ → Type 0
IsUnmade file = slice_index file 0 ≡ 0

-- its first byte is closed; the rest is laid; the first byte is written
abbrev pub IsMaking : List ℕ → List ℕ → Type 0
IsMaking before file = IsReplaced 0 before file ⊎ (IsUnmade file ⊎ ((byte : ℕ) × (file ≡ byte ∷ drop 1 new_journal)))
