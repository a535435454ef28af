-- A file of a real disk.
use Rattle.std.specs.Prelude.{Result, Ok, Err, None, Some, false}
use Rattle.sq_outside.specs.declared.host.file_disk.DiskFile.{DiskFile}

-- a file as its opening went: none where it failed; no sync of it has failed yet
abbrev pub as_opened : {F E : Type 0} → Result F E → DiskFile F
as_opened (Ok file) = record { file = Some file; sync_failed = false }
as_opened (Err error) = record { file = None; sync_failed = false }
