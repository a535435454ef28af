-- For which world a file is kept: it stands for the world, with the record in doubt after it or without, whatever becomes of
-- loose bytes.
use Rattle.std.specs.Prelude.{◌≡◌, ◌⊎◌, ℕ, List, Option, None, Some, IfSome, IsSome, option_map}
use Rattle.std.specs.Option.{ForSome}
use Rattle.job_states.specs.declared.transition.Transaction.{Transaction}
use Rattle.journal_format.specs.Payload.{HasText}
use Rattle.journal_format.specs.Spelling.{payload}
use Rattle.journal_keeper.specs.Kept.{IsKept}
use Rattle.journal_keeper.specs.declared.fault.OpenFault.{OpenFault}
use Rattle.journal_keeper.specs.declared.fault.OpenFault.TheVariants.{BadRecord, DiskFault, NoMemory, NotAJournal, Version}
use Rattle.journal_replay.specs.Records.{RecoversWorld, StandFor}
use Rattle.queue_model.specs.Replay.{replay}
use Rattle.queue_model.specs.World.{World}
use Rattle.sq_outside.specs.Disk.{History, Leaves, LeavesOnly, Two}
use Rattle.sq_outside.specs.File.{File}

-- ---- a record in doubt: its transactions, where there is one

abbrev pub text_of : Option (List Transaction) → Option (List ℕ)
text_of doubt = option_map payload doubt

-- it has a text, and is legal in the world
abbrev pub MayFollow : World → Option (List Transaction) → Type 0
MayFollow w doubt = ForSome doubt (λ txs. HasText txs × IsSome (replay w txs))

-- this is the world, or what the record in doubt makes of it
abbrev pub IsEither : World → Option (List Transaction) → World → Type 0
IsEither w None v = v ≡ w
IsEither w (Some txs) v = (v ≡ w) ⊎ (replay w txs ≡ Some v)

-- ---- files

pub record IsKeptFor (w : World) (doubt : Option (List Transaction)) (file : List ℕ) : Type 0 where
  pub payloads : List (List ℕ)
  pub stand_for : StandFor payloads w
  pub follows : MayFollow w doubt
  pub kept : IsKept payloads (text_of doubt) file

-- one of the two worlds is recovered
pub record RecoversEither (w : World) (doubt : Option (List Transaction)) (file : List ℕ) : Type 0 where
  pub world : World
  pub either : IsEither w doubt world
  pub recovers : RecoversWorld file world

-- ---- disks

-- the same records stand in each image
pub record AreKeptFor (w : World) (doubt : Option (List Transaction)) (files : Two File) : Type 0 where
  pub payloads : List (List ℕ)
  pub stand_for : StandFor payloads w
  pub follows : MayFollow w doubt
  pub kept : Leaves (λ image. IsKept payloads (text_of doubt) image.0) files

-- a disk that exposes its history was kept for this world and record in doubt
abbrev pub WasKeptFor : World → Option (List Transaction) → Option History → Type 0
WasKeptFor w doubt None = ⊥
WasKeptFor w doubt (Some history) = AreKeptFor w doubt history.now

-- ---- an opening of a disk that was kept

-- it is kept at each moment, and after it
pub record StaysKept (w : World) (doubt : Option (List Transaction)) (old new : Option History) : Type 0 where
  pub moments : LeavesOnly (λ image. IsKeptFor w doubt image.0) old new
  pub after : IfSome new (λ history. AreKeptFor w doubt history.now)

abbrev pub StaysKeptFor : Option History → Option History → Type 0
StaysKeptFor before after = (w : World) (doubt : Option (List Transaction)) → WasKeptFor w doubt before → StaysKept w doubt before after

-- this world is one of the two for which it was kept
abbrev pub IsEitherOf : Option History → World → Type 0
IsEitherOf before v = (w : World) (doubt : Option (List Transaction)) → WasKeptFor w doubt before → IsEither w doubt v

-- the disk failed, or there was no memory
abbrev pub IsNoRefusal : OpenFault → Type 0
IsNoRefusal (NotAJournal file) = ⊥
IsNoRefusal (Version file n) = ⊥
IsNoRefusal (BadRecord at) = ⊥
IsNoRefusal DiskFault = Unit {0}
IsNoRefusal NoMemory = Unit {0}

abbrev pub IsNoRefusalOf : Option History → OpenFault → Type 0
IsNoRefusalOf before fault = (w : World) (doubt : Option (List Transaction)) → WasKeptFor w doubt before → IsNoRefusal fault
