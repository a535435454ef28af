-- The values of a field, as the numbers that pass a test.
use Rattle.std.specs.Prelude.{ℕ, Bool, ◌==◌, List, filter}
use Rattle.std.specs.List.{list_any, range_with_len}

-- the numbers below 60 that pass a test, in rising order
unfoldable pub values_where : (ℕ → Bool) → List ℕ
values_where test = filter test (range_with_len 0 60)

-- whether a value is one of these
abbrev pub has : List ℕ → ℕ → Bool
has values value = list_any (λ known. known == value) values
