-- What the calls of a journal answer, and how they leave the journal and the disk.
use Rattle.std.specs.Prelude.{◌≡◌, ◌⊎◌, ℕ, ◌≤◌, Bool, true, false, List, [], ◌∷◌, ◌++◌, drop, Option, None, Some, IfSome, Result, Ok, Err, IfErr}
use Rattle.journal_format.specs.Records.{is_closed}
use Rattle.sq_outside.specs.Disk.{History, Leaves, LeavesOnly, LeavesRising}
use Rattle.sq_outside.specs.Fault.{Rose}
use Rattle.sq_outside.specs.File.{File, settled}
use Rattle.journal_keeper.specs.declared.fault.DiskFault.{DiskFault as DiskFailed}
use Rattle.journal_keeper.specs.declared.fault.OpenFault.{OpenFault}
use Rattle.journal_keeper.specs.declared.fault.OpenFault.TheVariants.{NotAJournal, Version, BadRecord, DiskFault, NoMemory}
use Rattle.journal_keeper.specs.declared.journal.Stage.TheVariants.{Ready}
use Rattle.journal_keeper.specs.Files.{IsLiveFile, IsIdleFile, IsVersionFile, IsForeignFile}
use Rattle.journal_keeper.specs.Kept.{Recovers, IsKept, IsKeptAt}
use Rattle.journal_keeper.specs.Making.{new_journal}
use Rattle.journal_keeper.specs.Records.{BeginsWithRecord}
use Rattle.journal_keeper.specs.Stands.{Keeper, Stands, is_read}
use Rattle.journal_keeper.specs.Writes.{IsOtherKept}

-- the disk is blamed only where its count rose
abbrev pub IsBlamed : ℕ → ℕ → OpenFault → Type 0
IsBlamed before now DiskFault = Rose before now
IsBlamed before now _ = Unit {0}

pub record HasOpenCause {T : Type 0} (before now : ℕ) (result : Result T OpenFault) : Type 0 where
  pub later : before ≤ now
  pub failed : IfErr result (IsBlamed before now)

-- of a record that isn't read it is never said that the file is no journal
abbrev pub IsRecordCause : ℕ → ℕ → OpenFault → Type 0
IsRecordCause before now (NotAJournal file) = ⊥
IsRecordCause before now (Version file n) = ⊥
IsRecordCause before now (BadRecord at) = Unit {0}
IsRecordCause before now DiskFault = Rose before now
IsRecordCause before now NoMemory = Unit {0}

pub record HasRecordCause {T : Type 0} (before now : ℕ) (result : Result T OpenFault) : Type 0 where
  pub later : before ≤ now
  pub failed : IfErr result (IsRecordCause before now)

-- a read fails by the disk or for want of memory
abbrev pub IsReadCause : ℕ → ℕ → OpenFault → Type 0
IsReadCause before now (NotAJournal file) = ⊥
IsReadCause before now (Version file n) = ⊥
IsReadCause before now (BadRecord at) = ⊥
IsReadCause before now DiskFault = Rose before now
IsReadCause before now NoMemory = Unit {0}

pub record HasReadCause {T : Type 0} (before now : ℕ) (result : Result T OpenFault) : Type 0 where
  pub later : before ≤ now
  pub failed : IfErr result (IsReadCause before now)

-- At each moment of a call file 0 is kept for all that it was kept for before.
abbrev pub KeepsAll : Option History → Option History → Type 0
KeepsAll before after = (payloads : List (List ℕ)) (doubt : Option (List ℕ))
    → IfSome before (λ old. Leaves (λ image. IsKept payloads doubt image.0) old.now → LeavesOnly (λ image. IsKept payloads doubt image.0) before after)

-- a journal was found, or one was made where the file isn't in use
abbrev pub IsOpened : List ℕ → File → Type 0
IsOpened file now = (((turn : ℕ) × IsLiveFile turn file) × (now ≡ settled file)) ⊎ (IsIdleFile file × (now ≡ settled new_journal))

-- nothing is written to a file that is refused
abbrev pub IsRefusedFor : (List ℕ → Type 0) → Option History → Option History → Type 0
IsRefusedFor P before after = IfSome before (λ old. P old.now.0.reads × IfSome after (λ new. new.now.0 ≡ settled old.now.0.reads))

abbrev pub IsOpenFault : Option History → Option History → OpenFault → Type 0
IsOpenFault before after (NotAJournal file) = (file ≡ 0) × IsRefusedFor IsForeignFile before after
IsOpenFault before after (Version file n) = (file ≡ 0) × IsRefusedFor (IsVersionFile n) before after
IsOpenFault before after (BadRecord at) = ⊥
IsOpenFault before after DiskFault = Unit {0}
IsOpenFault before after NoMemory = Unit {0}

-- what stands at this place is read
abbrev pub IsNext : ℕ → List ℕ → Result (Option (List ℕ)) OpenFault → Type 0
IsNext place text (Ok (Some payload)) = BeginsWithRecord payload text
IsNext place text (Ok None) = is_closed text ≡ true
IsNext place text (Err (BadRecord at)) = (at ≡ place) × (is_closed text ≡ false) × ((payload : List ℕ) → BeginsWithRecord payload text → ⊥)
IsNext place text (Err DiskFault) = Unit {0}
IsNext place text (Err NoMemory) = Unit {0}
IsNext place text (Err _) = ⊥

-- the payloads that were read
abbrev pub read_after : List (List ℕ) → Result (Option (List ℕ)) OpenFault → List (List ℕ)
read_after payloads (Ok (Some payload)) = payloads ++ payload ∷ []
read_after payloads _ = payloads

-- were all records read?
abbrev pub is_end : Result (Option (List ℕ)) OpenFault → Bool
is_end (Ok None) = true
is_end _ = false

-- Nothing is written before the end.
abbrev pub IsUnwritten : Result (Option (List ℕ)) OpenFault → Option History → Option History → Type 0
IsUnwritten (Ok None) before after = Unit {0}
IsUnwritten (Err DiskFault) before after = Unit {0}
IsUnwritten _ before after = IfSome before (λ old. IfSome after (λ new. new.now.0 ≡ settled old.now.0.reads))

-- The next record is read, or the end is found and its gate closed.
pub record ReadsNext (old : Keeper) (before : Option History) (result : Result (Option (List ℕ)) OpenFault) (new : Keeper) (after : Option History) : Type 0 where
  pub answer : IfSome before (λ h. IsNext old.end (drop old.end h.now.0.reads) result)
  pub stands : (payloads : List (List ℕ)) (doubt : Option (List ℕ)) → Stands old payloads doubt before → Stands new (read_after payloads result) doubt after
  pub stage : is_read new.stage ≡ is_end result
  -- all payloads of the file as it reads
  pub all : is_end result ≡ true → (payloads : List (List ℕ)) (doubt : Option (List ℕ)) → Stands old payloads doubt before → IfSome before (λ h. Recovers payloads h.now.0.reads)
  pub unwritten : IsUnwritten result before after
  pub any_moment : KeepsAll before after
  pub other : IsOtherKept before after

-- After a fault the new payload is in doubt, or the one that was before.
abbrev pub IsAppended : List (List ℕ) → Option (List ℕ) → List ℕ → Result (Unit {0}) DiskFailed → Keeper → Option History → Type 0
IsAppended payloads doubt added (Ok _) new after = Stands new (payloads ++ added ∷ []) None after
IsAppended payloads doubt added (Err _) new after = Stands new payloads doubt after ⊎ Stands new payloads (Some added) after

pub record Appends (old : Keeper) (before : Option History) (added : List ℕ) (result : Result (Unit {0}) DiskFailed) (new : Keeper) (after : Option History) : Type 0 where
  pub moments : (payloads : List (List ℕ)) (doubt : Option (List ℕ)) → Stands old payloads doubt before
      → LeavesRising (λ n image. IsKeptAt payloads doubt added n image.0) 0 1 before after
  pub stands : (payloads : List (List ℕ)) (doubt : Option (List ℕ)) → Stands old payloads doubt before → IsAppended payloads doubt added result new after
  pub read : is_read new.stage ≡ true
  pub other : IsOtherKept before after

abbrev pub IsRepaired : List (List ℕ) → Option (List ℕ) → Result (Unit {0}) DiskFailed → Keeper → Option History → Type 0
IsRepaired payloads doubt (Ok _) new after = (new.stage ≡ Ready) × Stands new payloads None after
IsRepaired payloads doubt (Err _) new after = Stands new payloads doubt after

pub record Repairs (old : Keeper) (before : Option History) (result : Result (Unit {0}) DiskFailed) (new : Keeper) (after : Option History) : Type 0 where
  pub moments : (payloads : List (List ℕ)) (doubt : Option (List ℕ)) → Stands old payloads doubt before → LeavesOnly (λ image. IsKept payloads doubt image.0) before after
  pub stands : (payloads : List (List ℕ)) (doubt : Option (List ℕ)) → Stands old payloads doubt before → IsRepaired payloads doubt result new after
  pub read : is_read new.stage ≡ true
  -- where nothing is in doubt nothing is done
  pub ready : old.stage ≡ Ready → (after ≡ before) × (new ≡ old)
  pub other : IsOtherKept before after
