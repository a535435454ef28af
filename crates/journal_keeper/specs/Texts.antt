-- How the keeper leaves its file: a header and records, and what stands after them.
use Rattle.std.specs.Prelude.{◌≡◌, ◌⊎◌, ℕ, zero, suc, ◌<◌, List, ◌∷◌, ◌++◌, Option, None, Some}
use Rattle.std.specs.List.{All}
use Rattle.journal_format.specs.Header.{header}
use Rattle.journal_format.specs.Records.{framed, records}
use Rattle.sq_outside.specs.File.{File, settled}
use Rattle.journal_keeper.specs.Records.{IsPayload}

pub record IsText (payloads : List (List ℕ)) (text : List ℕ) : Type 0 where
  pub turn : ℕ
  pub small : turn < 3
  pub lengths : All IsPayload payloads
  pub is : text ≡ header turn ++ records payloads

pub record Begins (text file : List ℕ) : Type 0 where
  pub rest : List ℕ
  pub is : file ≡ text ++ rest

-- after the text stands a gate that is closed by `00`
pub record IsClosed (text file : List ℕ) : Type 0 where
  pub rest : List ℕ
  pub is : file ≡ text ++ (0 ∷ rest)

-- after the text stands a gate of any value, with a whole record and a gate `00` after it
pub record IsInDoubt (text payload file : List ℕ) : Type 0 where
  pub fits : IsPayload payload
  pub gate : ℕ
  pub rest : List ℕ
  pub is : file ≡ text ++ (gate ∷ (framed payload ++ (0 ∷ rest)))

abbrev pub Holds : List ℕ → Option (List ℕ) → List ℕ → Type 0
Holds text None file = IsClosed text file
Holds text (Some payload) file = IsClosed text file ⊎ IsInDoubt text payload file

-- all of the file is synced
abbrev pub IsSettled : File → Type 0
IsSettled file = file ≡ settled file.reads

-- the text with a record more
abbrev pub with_record : List ℕ → List ℕ → List ℕ
with_record text payload = text ++ (0x52 ∷ framed payload)

-- How far an append has come in a file at rest: the record is written; its gate is opened.
abbrev pub HoldsAt : List ℕ → List ℕ → ℕ → List ℕ → Type 0
HoldsAt text payload zero file = IsClosed text file
HoldsAt text payload (suc _) file = Holds text (Some payload) file
