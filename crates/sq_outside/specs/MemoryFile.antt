-- A file in memory as contracts see it, and what the changes do to it.
use Rattle.std.specs.Prelude.{ℕ, ◌+◌, ◌^◌, ◌<◌, ◌≤◌, List, length, take}
use Rattle.sq_outside.specs.File.{File, in_doubt, shortened, overwritten, settled}
use Rattle.sq_outside.specs.declared.memory.change.Change.{Change}
use Rattle.sq_outside.specs.declared.memory.change.Change.TheVariants.{Written, Cut, Synced}

-- after a write of these bytes, where count were asked for
abbrev pub written : ℕ → List ℕ → ℕ → File → File
written at bytes count file = record { reads = overwritten file.reads at bytes; unsynced = in_doubt (record { at = at; count = count }) file.unsynced }

-- after a cut that leaves len bytes, where asked were asked for
abbrev pub cut : ℕ → ℕ → File → File
cut asked len file = record { reads = take len file.reads; unsynced = shortened asked file.unsynced }

abbrev pub after : Change → File → File
after (Written at bytes count) file = written at bytes.items count file
after (Cut asked len) file = cut asked len file
after Synced file = settled file.reads

-- the change can be made
abbrev pub FitsFile : Change → File → Type 0
FitsFile (Written at bytes count) file = (at ≤ length file.reads) × (length bytes.items ≤ count) × (at + count < 2 ^ 63)
FitsFile (Cut asked len) file = (asked ≤ len) × (len ≤ length file.reads)
FitsFile Synced file = Unit {0}
