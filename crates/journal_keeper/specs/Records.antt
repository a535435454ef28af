-- A record as it is read and as it is handed in.
use Rattle.std.specs.Prelude.{◌≡◌, ℕ, ◌-◌, IsTrue, List, [], ◌∷◌, ◌++◌, length, take, drop}
use Rattle.job_states.specs.Length.{is_within}
use Rattle.journal_format.specs.Records.{framed}

-- 1 to 16777216 bytes
abbrev pub IsPayload : List ℕ → Type 0
IsPayload payload = IsTrue (is_within 1 16_777_216 (length payload))

-- an open gate, and the record of a payload
pub record BeginsWithRecord (payload text : List ℕ) : Type 0 where
  pub fits : IsPayload payload
  pub rest : List ℕ
  pub is : text ≡ 0x52 ∷ framed payload ++ rest

-- what stands after the gate of a record that is added: its payload is between the length and the closed gate
abbrev pub payload_of : List ℕ → List ℕ
payload_of record_text = take (length record_text - 5) (drop 4 record_text)

pub record IsRecord (record_text : List ℕ) : Type 0 where
  pub fits : IsPayload (payload_of record_text)
  pub is : record_text ≡ framed (payload_of record_text) ++ 0 ∷ []
