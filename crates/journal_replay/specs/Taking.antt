-- How records are taken in, one after another.
use Rattle.std.specs.Prelude.{◌≡◌, ◌<◌, ℕ, Bool, true, false, List, None, Some, Option, IfSome}
use Rattle.job_states.specs.declared.transition.Transaction.{Transaction}
use Rattle.journal_keeper.specs.Answers.{IsRefusedFor}
use Rattle.journal_keeper.specs.Stands.{Keeper, Stands, is_read}
use Rattle.journal_keeper.specs.declared.fault.OpenFault.{OpenFault}
use Rattle.journal_keeper.specs.declared.fault.OpenFault.TheVariants.{BadRecord, DiskFault, NoMemory, NotAJournal, Version}
use Rattle.journal_replay.specs.Opening.{Opens}
use Rattle.journal_replay.specs.Records.{IsBadAt, Spells, StandFor}
use Rattle.queue_model.specs.Replay.{replay}
use Rattle.queue_model.specs.World.{World}
use Rattle.sq_outside.specs.Disk.{History}

-- this holds where a record is found to be bad
abbrev pub IsBadFor : ℕ → Type 0 → OpenFault → Type 0
IsBadFor place bad (NotAJournal file) = ⊥
IsBadFor place bad (Version file n) = ⊥
IsBadFor place bad (BadRecord at) = (at ≡ place) × bad
IsBadFor place bad DiskFault = ⊥
IsBadFor place bad NoMemory = Unit {0}

-- the record's transactions lead from one world to another
pub record Takes (bytes : List ℕ) (old new : World) : Type 0 where
  pub txs : List Transaction
  pub spelled : Spells bytes txs
  pub world : replay old txs ≡ Some new

-- no transactions that the record spells are legal
abbrev pub IsIllegal : List ℕ → World → Type 0
IsIllegal bytes w = (txs : List Transaction) → Spells bytes txs → replay w txs ≡ None

-- the records read so far stand for this world, and more may follow
pub record Replays (journal : Keeper) (w : World) (history : Option History) : Type 0 where
  pub payloads : List (List ℕ)
  pub stand_for : StandFor payloads w
  pub stands : Stands journal payloads None history
  pub unread : is_read journal.stage ≡ false

abbrev pub ReadsAlike : Option History → Option History → Type 0
ReadsAlike before after = IfSome before (λ h. IfSome after (λ n. n.now.0.reads ≡ h.now.0.reads))

-- a record was taken in, or all were read
abbrev pub StepsTo : Keeper → Keeper → World → Option History → Option History → (more : Bool) → Type 0
StepsTo old new w before after true = Replays new w after × ReadsAlike before after × (old.end < new.end)
StepsTo old new w before after false = Opens new w before after

abbrev pub IsStepFault : Option History → Option History → OpenFault → Type 0
IsStepFault before after (NotAJournal file) = ⊥
IsStepFault before after (Version file n) = ⊥
IsStepFault before after (BadRecord at) = IsRefusedFor (λ file. IsBadAt file at) before after
IsStepFault before after DiskFault = Unit {0}
IsStepFault before after NoMemory = Unit {0}
