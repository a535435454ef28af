-- Records after open gates, and where they end.
use Rattle.std.specs.Prelude.{◌≡◌, ℕ, Bool, true, not, ◌==◌, IsTrue, List, [], ◌∷◌, ◌++◌, length}
use Rattle.std.specs.List.{All}
use Rattle.job_states.specs.Length.{is_within}
use Rattle.journal_format.specs.Spelling.{big_endian, ◌⧺◌}

-- what stands after a record's gate: the payload's length in four bytes, and the payload
abbrev pub framed : List ℕ → List ℕ
framed payload = big_endian 4 (length payload) ⧺ payload

-- each record after an open gate, the byte 0x52
abbrev pub records : List (List ℕ) → List ℕ
records [] = []
records (payload ∷ payloads) = 0x52 ∷ framed payload ⧺ records payloads

-- a gate is closed at any other byte, and at the end
abbrev pub is_closed : List ℕ → Bool
is_closed [] = true
is_closed (gate ∷ rest) = not (gate == 0x52)

-- the text begins with these records, and a closed gate follows them
pub record HoldsRecords (text : List ℕ) (payloads : List (List ℕ)) : Type 0 where
  pub rest : List ℕ
  pub lengths : All (λ payload. IsTrue (is_within 1 16_777_216 (length payload))) payloads
  pub text_is : text ≡ records payloads ++ rest
  pub closed : IsTrue (is_closed rest)
