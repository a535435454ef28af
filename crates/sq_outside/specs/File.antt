-- A file of a disk: what a read gives, what a crash may leave, and what the calls do to both.
use Rattle.std.specs.Prelude.{◌≡◌, ◌⊎◌, ℕ, ◌+◌, ◌^◌, ◌<◌, ◌≤◌, min, max, List, [], ◌∷◌, ◌++◌, length, take, drop, slice_index}
use Rattle.sq_outside.specs.declared.memory.range.Range.{Range}

-- what the last sync left, and what calls have asked for since, failed ones too
pub record Unsynced : Type 0 where
  pub synced : List ℕ
  -- where bytes were written, the newest first
  pub written : List Range
  -- the shortest and the greatest length
  pub shortest : ℕ
  pub greatest : ℕ

pub record File : Type 0 where
  -- what a read gives
  pub reads : List ℕ
  -- what a crash may leave
  pub unsynced : Unsynced

-- none of the ranges holds the place
abbrev pub IsOutside : List Range → ℕ → Type 0
IsOutside [] place = Unit {0}
IsOutside (range ∷ ranges) place = (place < range.at ⊎ range.at + range.count ≤ place) × IsOutside ranges place

abbrev pub AreBytes : List ℕ → Type 0
AreBytes bytes = (place : ℕ) → slice_index bytes place < 256

-- A crash may leave these bytes: no fewer than the shortest length and no more than the greatest. Below the shortest
-- length and outside what was written they are as synced. The others may be any.
pub record IsImage (file : Unsynced) (image : List ℕ) : Type 0 where
  pub no_shorter : file.shortest ≤ length image
  pub no_longer : length image ≤ file.greatest
  pub stays : (place : ℕ) → place < file.shortest → IsOutside file.written place → slice_index image place ≡ slice_index file.synced place
  pub bytes : AreBytes image

-- nothing was asked for since the last sync: what a read gives is the one image
abbrev pub settled : List ℕ → File
settled bytes = record { reads = bytes; unsynced = record { synced = bytes; written = []; shortest = length bytes; greatest = length bytes } }

-- a write into the range was asked for
abbrev pub in_doubt : Range → Unsynced → Unsynced
in_doubt range file = record file { written = range ∷ file.written; greatest = max file.greatest (range.at + range.count) }

-- a cut to this length was asked for
abbrev pub shortened : ℕ → Unsynced → Unsynced
shortened len file = record file { shortest = min file.shortest len }

-- the bytes with a piece at this place, over what is there and past the end
abbrev pub overwritten : List ℕ → ℕ → List ℕ → List ℕ
overwritten bytes at piece = take at bytes ++ piece ++ drop (at + length piece) bytes

-- a write that was made
pub record Writes (at : ℕ) (piece : List ℕ) (old new : File) : Type 0 where
  pub reads : new.reads ≡ overwritten old.reads at piece
  pub unsynced : new.unsynced ≡ in_doubt (record { at = at; count = length piece }) old.unsynced

-- within the range there are any bytes, and up to its end there may be more of them than before
pub record IsTorn (range : Range) (old new : List ℕ) : Type 0 where
  pub no_shorter : length old ≤ length new
  pub no_longer : length new ≤ max (length old) (range.at + range.count)
  pub elsewhere : (place : ℕ) → (place < range.at ⊎ range.at + range.count ≤ place) → slice_index new place ≡ slice_index old place

-- a write that failed
pub record HalfWrites (at count : ℕ) (old new : File) : Type 0 where
  pub fits : at + count < 2 ^ 63
  pub reads : IsTorn (record { at = at; count = count }) old.reads new.reads
  pub unsynced : new.unsynced ≡ in_doubt (record { at = at; count = count }) old.unsynced

-- a cut that was made
pub record Cuts (len : ℕ) (old new : File) : Type 0 where
  pub reads : new.reads ≡ take len old.reads
  pub unsynced : new.unsynced ≡ shortened len old.unsynced

-- a cut that failed: the length is the old one, the new one, or one between
pub record HalfCuts (len : ℕ) (old new : File) : Type 0 where
  pub no_shorter : len ≤ length new.reads
  pub reads : new.reads ≡ take (length new.reads) old.reads
  pub unsynced : new.unsynced ≡ shortened len old.unsynced

-- a sync that was made
abbrev pub Syncs : File → File → Type 0
Syncs old new = new ≡ settled old.reads

-- a sync that failed: a crash leaves what it might have left, and what a read gives may be lost
abbrev pub HalfSyncs : File → File → Type 0
HalfSyncs old new = new.unsynced ≡ old.unsynced

-- the file as it reads and the file as synced are among its images, and none is longer than a file can be
pub record IsSound (file : File) : Type 0 where
  pub reads : IsImage file.unsynced file.reads
  pub synced : IsImage file.unsynced file.unsynced.synced
  pub bounded : file.unsynced.greatest < 2 ^ 63
