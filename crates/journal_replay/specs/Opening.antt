-- What comes of an opening.
use Rattle.std.specs.Prelude.{◌≡◌, true, List, ℕ, None, Option, IfSome}
use Rattle.journal_keeper.specs.Answers.{IsRefusedFor}
use Rattle.journal_keeper.specs.Files.{IsForeignFile, IsVersionFile}
use Rattle.journal_keeper.specs.Kept.{Recovers}
use Rattle.journal_keeper.specs.Stands.{Keeper, Stands, is_read}
use Rattle.journal_keeper.specs.declared.fault.OpenFault.{OpenFault}
use Rattle.journal_keeper.specs.declared.fault.OpenFault.TheVariants.{BadRecord, DiskFault, NoMemory, NotAJournal, Version}
use Rattle.journal_replay.specs.Records.{IsBadAt, StandFor}
use Rattle.queue_model.specs.GoodWorld.{IsGood}
use Rattle.queue_model.specs.World.{World}
use Rattle.sq_outside.specs.Disk.{History}

-- The records that the file recovered stand for this world, and the journal stands on the disk with them.
pub record Opens (journal : Keeper) (w : World) (before after : Option History) : Type 0 where
  pub payloads : List (List ℕ)
  pub recovered : IfSome before (λ h. Recovers payloads h.now.0.reads)
  pub stand_for : StandFor payloads w
  pub good : IsGood w
  pub stands : Stands journal payloads None after
  pub read : is_read journal.stage ≡ true

-- nothing is written to a file that is refused
abbrev pub IsFault : Option History → Option History → OpenFault → Type 0
IsFault before after (NotAJournal file) = (file ≡ 0) × IsRefusedFor IsForeignFile before after
IsFault before after (Version file n) = (file ≡ 0) × IsRefusedFor (IsVersionFile n) before after
IsFault before after (BadRecord at) = IsRefusedFor (λ file. IsBadAt file at) before after
IsFault before after DiskFault = Unit {0}
IsFault before after NoMemory = Unit {0}
