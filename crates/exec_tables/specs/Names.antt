-- Lists of names in order.
use Rattle.std.specs.Prelude.{ℕ, List, Contains}
use Rattle.std.specs.List.Sorted.{IsStrictlySortedBy}
use Rattle.queue_model.specs.World.{text_cmp}

-- those of the family, strictly sorted
pub record AreSorted (Family : List ℕ → Type 0) (names : List (List ℕ)) : Type 0 where
  pub sorted : IsStrictlySortedBy text_cmp names
  pub belong : (name : List ℕ) → Contains names name → Family name
  pub all : (name : List ℕ) → Family name → Contains names name
