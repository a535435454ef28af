-- A disk in memory: the files after each change, and how its calls fail.
use Rattle.std.specs.Prelude.{ℕ, zero, suc, List, [], ◌∷◌, ◌++◌, Vec, Option, option_map, find, ◌==◌}
use Rattle.std.specs.declared.alloc.Global.{Global}
use Rattle.sq_outside.specs.Fault.{raised}
use Rattle.sq_outside.specs.File.{File}
use Rattle.sq_outside.specs.Disk.{Two, History, fresh}
use Rattle.sq_outside.specs.MemoryFile.{after}
use Rattle.sq_outside.specs.declared.memory.change.Entry.{Entry}

-- one of the two is changed
abbrev pub with_nth : {A : Type 0} → ℕ → (A → A) → Two A → Two A
with_nth zero f two = (f two.0, two.1)
with_nth (suc _) f two = (two.0, f two.1)

abbrev pub entered : Entry → Two File → Two File
entered entry files = with_nth entry.file (after entry.change) files

-- the files before each change
abbrev pub before_each : Two File → List Entry → List (Two File)
before_each files [] = []
before_each files (entry ∷ log) = files ∷ before_each (entered entry files) log

-- the files after all changes
abbrev pub after_all : Two File → List Entry → Two File
after_all files [] = files
after_all files (entry ∷ log) = after_all (entered entry files) log

-- a change more
abbrev pub went_on : Entry → History → History
went_on entry history = record { earlier = history.earlier ++ history.now ∷ []; now = entered entry history.now }

-- a disk in memory
pub record MemoryDisk : Type 0 where
  pub history : History
  -- the numbers of the calls that fail, counted from 1, and how many bytes of a failing write are kept
  pub fail : List (ℕ × ℕ)
  -- how many calls were made, and how many of them failed, each up to the greatest u64
  pub calls : ℕ
  pub faults : ℕ

-- the bytes of two files
abbrev pub bytes_of : List (Vec ℕ Global) → Two (List ℕ)
bytes_of (zeroth ∷ first ∷ _) = (zeroth.items, first.items)
bytes_of _ = ([], [])

-- what a read gives
abbrev pub reads_of : Two File → Two (List ℕ)
reads_of files = (files.0.reads, files.1.reads)

-- what the last syncs left
abbrev pub synced_of : Two File → Two (List ℕ)
synced_of files = (files.0.unsynced.synced, files.1.unsynced.synced)

-- with no call made yet
abbrev pub unused : Two (List ℕ) → List (ℕ × ℕ) → MemoryDisk
unused bytes fail = record { history = fresh bytes; fail = fail; calls = 0; faults = 0 }

-- after a call
abbrev pub disk_called : MemoryDisk → MemoryDisk
disk_called d = record d { calls = raised d.calls }

-- after a call that failed
abbrev pub disk_failed : MemoryDisk → MemoryDisk
disk_failed d = record d { calls = raised d.calls; faults = raised d.faults }

-- after a change of one file
abbrev pub disk_changed : ℕ → (File → File) → MemoryDisk → MemoryDisk
disk_changed file change d = record d { history = record { earlier = d.history.earlier ++ d.history.now ∷ []; now = with_nth file change d.history.now } }

-- how many bytes the next call keeps, where it is one of those that fail
abbrev pub kept_next : MemoryDisk → Option ℕ
kept_next d = option_map (λ entry. entry.1) (find (λ entry. entry.0 == raised d.calls) d.fail)
