-- What the journal's file stands for, and which files go on to stand for it whatever becomes of the bytes that an opening closes.
use Rattle.std.specs.Prelude.{◌≡◌, ◌≢◌, ◌⊎◌, ℕ, zero, suc, ◌+◌, ◌<◌, List, [], ◌∷◌, ◌++◌, length, drop, slice_index, Option, None, Some}
use Rattle.journal_format.specs.Records.{records, HoldsRecords}
use Rattle.sq_outside.specs.File.{overwritten}
use Rattle.journal_keeper.specs.Files.{IsLiveFile, IsIdleFile}

-- a live file with these records up to its first closed gate
pub record HoldsPayloads (payloads : List (List ℕ)) (file : List ℕ) : Type 0 where
  pub turn : ℕ
  pub live : IsLiveFile turn file
  pub records : HoldsRecords (drop 16 file) payloads

-- what is recovered: the payloads of a live file, and none from an idle one
abbrev pub Recovers : List (List ℕ) → List ℕ → Type 0
Recovers payloads file = HoldsPayloads payloads file ⊎ (IsIdleFile file × (payloads ≡ []))

-- with the payload in doubt or without
abbrev pub RecoversWith : List (List ℕ) → Option (List ℕ) → List ℕ → Type 0
RecoversWith payloads None file = Recovers payloads file
RecoversWith payloads (Some doubt) file = Recovers payloads file ⊎ Recovers (payloads ++ doubt ∷ []) file

-- at this place stands another byte than `00`, or the file ends
abbrev pub IsAjar : ℕ → List ℕ → Type 0
IsAjar place file = (place ≡ length file) ⊎ (slice_index file place ≢ 0)

-- the first closed gate of a live file, where it isn't `00`
pub record IsLooseGate (place : ℕ) (file : List ℕ) : Type 0 where
  pub payloads : List (List ℕ)
  pub holds : HoldsPayloads payloads file
  pub here : place ≡ 16 + length (records payloads)
  pub ajar : IsAjar place file

-- byte 0 of an idle file, where it isn't `00`
pub record IsLooseStart (place : ℕ) (file : List ℕ) : Type 0 where
  pub idle : IsIdleFile file
  pub here : place ≡ 0
  pub loose : slice_index file 0 ≢ 0

-- a loose byte becomes any byte
pub record Loosens (old new : List ℕ) : Type 0 where
  pub place : ℕ
  pub loose : IsLooseGate place old ⊎ IsLooseStart place old
  pub byte : ℕ
  pub small : byte < 256
  pub becomes : new ≡ overwritten old place (byte ∷ [])

-- one loose byte after another
abbrev pub ComesFrom : List ℕ → List (List ℕ) → List ℕ → Type 0
ComesFrom file [] last = last ≡ file
ComesFrom file (next ∷ more) last = Loosens file next × ComesFrom next more last

-- whatever comes of the file recovers these payloads, with the one in doubt or without
abbrev pub IsKept : List (List ℕ) → Option (List ℕ) → List ℕ → Type 0
IsKept payloads doubt file = (steps : List (List ℕ)) (last : List ℕ) → ComesFrom file steps last → RecoversWith payloads doubt last

-- How far an append has come: what was kept before it; the new payload is in doubt.
abbrev pub IsKeptAt : List (List ℕ) → Option (List ℕ) → List ℕ → ℕ → List ℕ → Type 0
IsKeptAt payloads doubt added zero file = IsKept payloads doubt file
IsKeptAt payloads doubt added (suc _) file = IsKept payloads (Some added) file
