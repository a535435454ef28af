-- When a journal stands on a disk.
use Rattle.std.specs.Prelude.{◌≡◌, ℕ, Bool, true, false, List, length, take, drop, Option, None, Some}
use Rattle.sq_outside.specs.Disk.{History}
use Rattle.sq_outside.specs.File.{File, IsImage}
use Rattle.journal_keeper.specs.declared.journal.Stage.{Stage}
use Rattle.journal_keeper.specs.declared.journal.Stage.TheVariants.{Unsynced, Reading, Ready, InDoubt}
use Rattle.journal_keeper.specs.Texts.{IsText, Begins, IsClosed, Holds, IsSettled}

-- a journal as contracts see it: where its next record goes, how far it has come, and the bytes read ahead from there
pub record Keeper : Type 0 where
  pub end : ℕ
  pub stage : Stage
  pub ahead : List ℕ

-- were all records read?
abbrev pub is_read : Stage → Bool
is_read Unsynced = false
is_read Reading = false
is_read Ready = true
is_read InDoubt = true

-- these bytes stand at this place
abbrev pub IsAhead : ℕ → List ℕ → List ℕ → Type 0
IsAhead place file ahead = ahead ≡ take (length ahead) (drop place file)

-- the text was read or written, and what stands after it
abbrev pub IsAt : Stage → ℕ → List ℕ → List ℕ → Option (List ℕ) → File → Type 0
IsAt Unsynced end ahead text doubt file = (doubt ≡ None) × ((image : List ℕ) → IsImage file.unsynced image → Begins text image)
IsAt Reading end ahead text doubt file = (doubt ≡ None) × IsSettled file × Begins text file.reads × IsAhead end file.reads ahead
IsAt Ready end ahead text doubt file = (doubt ≡ None) × IsSettled file × IsClosed text file.reads
IsAt InDoubt end ahead text doubt file = (image : List ℕ) → IsImage file.unsynced image → Holds text doubt image

pub record StandsOn (keeper : Keeper) (payloads : List (List ℕ)) (doubt : Option (List ℕ)) (file : File) : Type 0 where
  pub text : List ℕ
  pub is_text : IsText payloads text
  pub end : keeper.end ≡ length text
  pub at : IsAt keeper.stage keeper.end keeper.ahead text doubt file

-- The journal stands on the disk, with these payloads read or accepted, and this one in doubt.
abbrev pub Stands : Keeper → List (List ℕ) → Option (List ℕ) → Option History → Type 0
Stands keeper payloads doubt None = Unit {0}
Stands keeper payloads doubt (Some history) = StandsOn keeper payloads doubt history.now.0

-- it stands there with some payloads and doubt
abbrev pub IsStanding : Keeper → Option History → Type 0
IsStanding keeper history = (payloads : List (List ℕ)) × ((doubt : Option (List ℕ)) × Stands keeper payloads doubt history)
