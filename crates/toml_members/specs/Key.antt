-- How a key is written.
use Rattle.std.specs.Prelude.{ℕ, ◌==◌, List, ◌++◌, length, codes, if◌then◌else◌}
use Rattle.std.specs.Fmt.{decimal}

-- A key of a table, as `jobs.kept_max`. At the top, whose place is the empty text, it is the key alone.
abbrev pub key_in : List ℕ → List ℕ → List ℕ
key_in table key = if length table == 0 then key else table ++ (codes "." ++ key)

-- an element of an array, as `classes[0]`
abbrev pub element_of : List ℕ → ℕ → List ℕ
element_of array i = array ++ (codes "[" ++ (decimal i ++ codes "]"))
