use Rattle.std.specs.Prelude.{ℕ, ◌<◌, ◌≤◌, reverse}
use Rattle.sq_outside.specs.File.{File, IsOutside, IsSound}
use Rattle.sq_outside.specs.declared.memory.file.MemFile.TheInside.{Inside}

-- the file that the fields stand for
abbrev pub file_of : Inside → File
file_of f = record {
  reads = f.reads.items;
  unsynced = record { synced = f.synced.items; written = reverse f.written.items; shortest = f.shortest; greatest = f.greatest };
}

-- up to `intact` nothing was asked for since the last sync
pub record IsMemoryFile (f : Inside) : Type 0 where
  pub sound : IsSound (file_of f)
  pub short : f.intact ≤ f.shortest
  pub outside : (place : ℕ) → place < f.intact → IsOutside (reverse f.written.items) place
