-- The two files of a disk through all its calls, and what a crash at each moment may leave of them.
use Rattle.std.specs.Prelude.{◌≡◌, ◌⊎◌, ℕ, zero, suc, ◌-◌, ◌≤◌, List, [], ◌∷◌, ◌++◌, Option, None, Some}
use Rattle.sq_outside.specs.File.{File, IsImage, IsSound, settled}

-- file 0 and file 1
abbrev pub Two : Type 0 → Type 0
Two A = A × A

abbrev pub nth : {A : Type 0} → ℕ → Two A → A
nth zero two = two.0
nth (suc _) two = two.1

-- a crash may leave these two files, each for itself
abbrev pub AreImages : Two File → Two (List ℕ) → Type 0
AreImages files image = IsImage files.0.unsynced image.0 × IsImage files.1.unsynced image.1

-- each image of the files has P
abbrev pub Leaves : (Two (List ℕ) → Type 0) → Two File → Type 0
Leaves P files = (image : Two (List ℕ)) → AreImages files image → P image

-- How the files stood before each call that changed them, in order, and how they stand now. A crash inside a call leaves
-- an image of how they stood before it or of how they stand after it.
pub record History : Type 0 where
  pub earlier : List (Two File)
  pub now : Two File

-- nothing was done yet to files of these bytes
abbrev pub fresh : Two (List ℕ) → History
fresh bytes = record { earlier = []; now = (settled bytes.0, settled bytes.1) }

-- this file takes a step, and the other one stays
pub record Changes (file : ℕ) (step : File → File → Type 0) (old new : Two File) : Type 0 where
  pub this : step (nth file old) (nth file new)
  pub other : nth (1 - file) new ≡ nth (1 - file) old

-- one step more
abbrev pub GoesOn : ℕ → (File → File → Type 0) → Option History → Option History → Type 0
GoesOn file step None new = new ≡ None
GoesOn file step (Some old) None = ⊥
GoesOn file step (Some old) (Some new) = (new.earlier ≡ old.earlier ++ old.now ∷ []) × Changes file step old.now new.now

-- nothing was done, or one step more
abbrev pub MayGoOn : ℕ → (File → File → Type 0) → Option History → Option History → Type 0
MayGoOn file step old new = (new ≡ old) ⊎ GoesOn file step old new

abbrev pub AreSound : Two File → Type 0
AreSound files = IsSound files.0 × IsSound files.1

-- Each image at each of these moments has P of a number, and from moment to moment the numbers never fall.
abbrev pub Rises : (ℕ → Two (List ℕ) → Type 0) → ℕ → List (Two File) → ℕ → Type 0
Rises P from [] to = from ≤ to
Rises P from (files ∷ more) to = (number : ℕ) × (from ≤ number) × Leaves (P number) files × Rises P number more to

-- how the files stood at each moment so far
abbrev pub moments_of : History → List (Two File)
moments_of history = history.earlier ++ history.now ∷ []

-- A crash at any moment from old on up to new leaves an image that has P of a number, and from moment to moment the
-- numbers never fall, where the disk exposes its history.
abbrev pub LeavesRising : (ℕ → Two (List ℕ) → Type 0) → ℕ → ℕ → Option History → Option History → Type 0
LeavesRising P from to None new = Unit {0}
LeavesRising P from to (Some old) None = ⊥
LeavesRising P from to (Some old) (Some new) = (since : List (Two File)) × (moments_of new ≡ moments_of old ++ since) × Rises P from (old.now ∷ since) to

-- the same with one P
abbrev pub LeavesOnly : (Two (List ℕ) → Type 0) → Option History → Option History → Type 0
LeavesOnly P old new = LeavesRising (λ _. P) 0 0 old new
