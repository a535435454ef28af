-- What becomes of a synced file while one byte of it is written, and of the other file.
use Rattle.std.specs.Prelude.{◌≡◌, ◌⊎◌, ℕ, ◌<◌, List, [], ◌∷◌, Option, None, Some}
use Rattle.sq_outside.specs.Disk.{History}
use Rattle.sq_outside.specs.File.{overwritten}
use Rattle.journal_keeper.specs.Kept.{IsAjar}

-- the file as it was, or with another byte in place of one that isn't `00`
abbrev pub IsReplaced : ℕ → List ℕ → List ℕ → Type 0
IsReplaced place file image = (image ≡ file) ⊎ (IsAjar place file × ((byte : ℕ) × (byte < 256) × (image ≡ overwritten file place (byte ∷ []))))

-- file 1 is as it was, where the disk exposes its history
abbrev pub IsOtherKept : Option History → Option History → Type 0
IsOtherKept None new = new ≡ None
IsOtherKept (Some old) None = ⊥
IsOtherKept (Some old) (Some new) = new.now.1 ≡ old.now.1
