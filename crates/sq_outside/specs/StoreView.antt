use Rattle.std.specs.Prelude.{◌≡◌}
use Rattle.sq_outside.specs.File.{File, settled}
use Rattle.sq_outside.specs.Disk.{Two, History, AreSound}
use Rattle.sq_outside.specs.MemoryDisk.{before_each, after_all}
use Rattle.sq_outside.specs.declared.memory.store.Store.TheInside.{Inside}

-- the files as the store was made
abbrev pub initial_files : Inside → Two File
initial_files s = (settled s.initial.0.items, settled s.initial.1.items)

abbrev pub history_of : Inside → History
history_of s = record { earlier = before_each (initial_files s) s.log.items; now = s.files }

-- the files stand as the log says
pub record IsStore (s : Inside) : Type 0 where
  pub follows : after_all (initial_files s) s.log.items ≡ s.files
  pub sound : AreSound s.files
