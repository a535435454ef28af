-- The journal of a run, which is opened once the settings are read.
use Rattle.std.specs.Prelude.{◌≡◌, ◌≤◌, ◌⊎◌, ℕ, List, Option, None, Some}
use Rattle.journal_keeper.specs.Answers.{IsBlamed}
use Rattle.journal_keeper.specs.Files.{IsForeignFile, IsVersionFile}
use Rattle.journal_keeper.specs.Writes.{IsOtherKept}
use Rattle.journal_keeper.specs.declared.fault.OpenFault.{OpenFault}
use Rattle.journal_keeper.specs.declared.fault.OpenFault.TheVariants as fault
use Rattle.journal_replay.specs.Kept.{IsEitherOf, IsNoRefusalOf, StaysKeptFor}
use Rattle.journal_replay.specs.Opening.{IsFault}
use Rattle.journal_replay.specs.Records.{IsBadAt, RecoversWorld}
use Rattle.queue_config.specs.declared.config.Config.{Config}
use Rattle.queue_engine.specs.Calls.{Opens}
use Rattle.queue_engine.specs.Running.{Store}
use Rattle.queue_http.specs.Service.{DiskState}
use Rattle.queue_model.specs.GoodWorld.{IsGood}
use Rattle.queue_model.specs.World.{World}
use Rattle.sq_outside.specs.Disk.{History}
use Rattle.queue_cli.specs.declared.end.End.{End}
use Rattle.queue_cli.specs.declared.end.End.TheVariants.{DiskFault, NotAJournal, JournalVersion, BadRecord, NoMemory}

-- the end that a fault of the opening is
abbrev pub open_end : OpenFault → End
open_end (fault.NotAJournal file) = NotAJournal file
open_end (fault.Version file n) = JournalVersion file n
open_end (fault.BadRecord at) = BadRecord at
open_end fault.DiskFault = DiskFault
open_end fault.NoMemory = NoMemory

-- The journal is opened, and this is the engine over it. Each crash until then leaves a disk that is kept for what it was
-- kept for, and the engine's world is one of those.
pub record HasJournal (settings : Config) (old new : DiskState) (engine : Store) : Type 0 where
  pub opens : Opens settings old.history engine new.history
  pub good : IsGood engine.book.world
  pub kept : StaysKeptFor old.history new.history
  pub either : IsEitherOf old.history engine.book.world
  pub later : old.faults ≤ new.faults
  pub other : IsOtherKept old.history new.history

-- Why a run ends whose journal isn't opened. A disk that was kept is kept still, and is never refused.
pub record LacksJournal (old new : DiskState) (end : End) : Type 0 where
  pub fault : OpenFault
  pub end_is : end ≡ open_end fault
  pub why : IsFault old.history new.history fault
  pub blamed : IsBlamed old.faults new.faults fault
  pub kept : StaysKeptFor old.history new.history
  pub accepted : IsNoRefusalOf old.history fault
  pub other : IsOtherKept old.history new.history

-- ---- files, as they read

abbrev pub IsRefusedFile : List ℕ → Type 0
IsRefusedFile file = IsForeignFile file ⊎ ((n : ℕ) × IsVersionFile n file) ⊎ ((at : ℕ) × IsBadAt file at)

abbrev pub IsAcceptedFile : List ℕ → Type 0
IsAcceptedFile file = (w : World) × RecoversWorld file w

-- the disk exposes file 0, and that is so
abbrev pub Reads : (List ℕ → Type 0) → Option History → Type 0
Reads P None = ⊥
Reads P (Some history) = P history.now.0.reads
