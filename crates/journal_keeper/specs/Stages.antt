-- How the inner calls of a journal leave it.
use Rattle.std.specs.Prelude.{◌≡◌, ℕ, List, [], ◌∷◌, ◌++◌, Option, None, Some, IfSome, Result, Ok, Err, IfErr, OnOk}
use Rattle.sq_outside.specs.Disk.{History, LeavesRising}
use Rattle.sq_outside.specs.File.{Unsynced as UnsyncedPart, IsImage, settled}
use Rattle.journal_keeper.specs.declared.fault.DiskFault.{DiskFault as DiskFailed}
use Rattle.journal_keeper.specs.declared.fault.OpenFault.{OpenFault}
use Rattle.journal_keeper.specs.declared.fault.OpenFault.TheVariants.{DiskFault}
use Rattle.journal_keeper.specs.declared.journal.Stage.{Stage}
use Rattle.journal_keeper.specs.declared.journal.Stage.TheVariants.{Unsynced, Reading, Ready}
use Rattle.journal_keeper.specs.Answers.{KeepsAll}
use Rattle.journal_keeper.specs.Kept.{IsKeptAt}
use Rattle.journal_keeper.specs.Stands.{Keeper, Stands}
use Rattle.journal_keeper.specs.Writes.{IsReplaced, IsOtherKept}

-- an image of a file as it was, with another byte at the gate or not
abbrev pub IsReclosed : ℕ → UnsyncedPart → List ℕ → Type 0
IsReclosed gate file image = (was : List ℕ) × (IsImage file was × IsReplaced gate was image)

-- the end is closed, or has to be read again
abbrev pub stage_after : Result (Unit {0}) OpenFault → Stage
stage_after (Ok _) = Ready
stage_after (Err _) = Unsynced

pub record Finishes (old : Keeper) (before : Option History) (result : Result (Unit {0}) OpenFault) (new : Keeper) (after : Option History) : Type 0 where
  pub stage : new.stage ≡ stage_after result
  pub stands : (payloads : List (List ℕ)) (doubt : Option (List ℕ)) → Stands old payloads doubt before → Stands new payloads doubt after
  pub any_moment : KeepsAll before after
  pub other : IsOtherKept before after

-- the file is read on once it is synced
abbrev pub stage_synced : Result (Unit {0}) OpenFault → Stage
stage_synced (Ok _) = Reading
stage_synced (Err _) = Unsynced

pub record Settles (old : Keeper) (before : Option History) (result : Result (Unit {0}) OpenFault) (new : Keeper) (after : Option History) : Type 0 where
  pub stage : new.stage ≡ stage_synced result
  pub end : new.end ≡ old.end
  pub fault : IfErr result (λ fault. fault ≡ DiskFault)
  pub reads : OnOk result (IfSome before (λ old. IfSome after (λ new. new.now.0 ≡ settled old.now.0.reads)))
  pub stands : (payloads : List (List ℕ)) (doubt : Option (List ℕ)) → Stands old payloads doubt before → Stands new payloads doubt after
  pub any_moment : KeepsAll before after
  pub other : IsOtherKept before after

-- a record is added, or in doubt
abbrev pub IsAdded : List (List ℕ) → List ℕ → Result (Unit {0}) DiskFailed → Keeper → Option History → Type 0
IsAdded payloads added (Ok _) new after = Stands new (payloads ++ added ∷ []) None after
IsAdded payloads added (Err _) new after = Stands new payloads (Some added) after

pub record Adds (old : Keeper) (before : Option History) (added : List ℕ) (result : Result (Unit {0}) DiskFailed) (new : Keeper) (after : Option History) : Type 0 where
  pub moments : (payloads : List (List ℕ)) → Stands old payloads None before → LeavesRising (λ n image. IsKeptAt payloads None added n image.0) 0 1 before after
  pub stands : (payloads : List (List ℕ)) → Stands old payloads None before → IsAdded payloads added result new after
  pub other : IsOtherKept before after
