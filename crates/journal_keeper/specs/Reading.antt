-- How a record is read: its frame, and then its payload.
use Rattle.std.specs.Prelude.{◌≡◌, ℕ, ◌+◌, ◌<◌, ◌≤◌, true, false, List, ◌∷◌, length, take, drop, Option, Some, IfSome, Result, Ok, Err}
use Rattle.journal_format.specs.Records.{is_closed}
use Rattle.journal_format.specs.Spelling.{big_endian}
use Rattle.sq_outside.specs.Disk.{History}
use Rattle.journal_keeper.specs.declared.fault.OpenFault.{OpenFault}
use Rattle.journal_keeper.specs.declared.fault.OpenFault.TheVariants.{NotAJournal, Version, BadRecord, DiskFault, NoMemory}
use Rattle.journal_keeper.specs.declared.frame.Frame.{Frame}
use Rattle.journal_keeper.specs.declared.frame.Frame.TheVariants.{Closed, Broken, Open}
use Rattle.journal_keeper.specs.Answers.{IsNext}
use Rattle.journal_keeper.specs.Records.{BeginsWithRecord}
use Rattle.journal_keeper.specs.Stands.{Keeper, IsAhead}

-- what the first bytes of a text say, of which five are ahead or all
abbrev pub IsFrame : List ℕ → Frame → Type 0
IsFrame text Closed = is_closed text ≡ true
IsFrame text Broken = (is_closed text ≡ false) × ((payload : List ℕ) → BeginsWithRecord payload text → ⊥)
IsFrame text (Open n) = (1 ≤ n) × (n ≤ 16_777_216) × (take 5 text ≡ 0x52 ∷ big_endian 4 n)

-- a payload is cut short
abbrev pub IsShort : ℕ → ℕ → ℕ → OpenFault → Type 0
IsShort n place len (NotAJournal file) = ⊥
IsShort n place len (Version file v) = ⊥
IsShort n place len (BadRecord at) = (at ≡ place) × (len < place + 5 + n)
IsShort n place len DiskFault = Unit {0}
IsShort n place len NoMemory = Unit {0}

-- the payload of a record at this place is taken
abbrev pub IsTaken : ℕ → ℕ → List ℕ → Result (List ℕ) OpenFault → Keeper → Type 0
IsTaken n place file (Ok payload) new = (place + 5 + n ≤ length file) × (payload ≡ take n (drop (place + 5) file)) × (new.end ≡ place + 5 + n) × IsAhead new.end file new.ahead
IsTaken n place file (Err fault) new = IsShort n place (length file) fault × (new.end ≡ place) × IsAhead new.end file new.ahead

pub record TakesPayload (n : ℕ) (old : Keeper) (before : Option History) (result : Result (List ℕ) OpenFault) (new : Keeper) (after : Option History) : Type 0 where
  pub kept : after ≡ before
  pub stage : new.stage ≡ old.stage
  pub taken : IfSome before (λ h. IsAhead old.end h.now.0.reads old.ahead → IsTaken n old.end h.now.0.reads result new)

-- where the journal stands after what was read
abbrev pub end_after : ℕ → Result (Option (List ℕ)) OpenFault → ℕ
end_after end (Ok (Some payload)) = end + 5 + length payload
end_after end _ = end

pub record ReadsRecord (old : Keeper) (before : Option History) (result : Result (Option (List ℕ)) OpenFault) (new : Keeper) (after : Option History) : Type 0 where
  pub kept : after ≡ before
  pub stage : new.stage ≡ old.stage
  pub answer : IfSome before (λ h. IsAhead old.end h.now.0.reads old.ahead
      → IsNext old.end (drop old.end h.now.0.reads) result × (new.end ≡ end_after old.end result) × IsAhead new.end h.now.0.reads new.ahead)
