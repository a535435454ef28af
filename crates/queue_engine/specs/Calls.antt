-- What the calls of an engine make of it, and of the disk on which it stands.
use Rattle.std.specs.Prelude.{◌≡◌, ◌⊎◌, ℕ, zero, suc, [], ◌∷◌, Option, None, Some, IsFalse, IfSome, Result, Ok, Err, IfErr, OnErr, OnOk}
use Rattle.job_states.specs.declared.answer.Answer.{Answer}
use Rattle.job_states.specs.declared.answer.Refused.{Refused}
use Rattle.job_states.specs.declared.answer.Refused.TheVariants.{NoMemory}
use Rattle.job_states.specs.declared.command.Command.{Command}
use Rattle.job_states.specs.declared.transition.Transaction.{Transaction}
use Rattle.journal_keeper.specs.declared.fault.DiskFault.{DiskFault}
use Rattle.journal_keeper.specs.Writes.{IsOtherKept}
use Rattle.journal_replay.specs.Kept.{IsKeptFor}
use Rattle.journal_replay.specs.Records.{RecoversWorld}
use Rattle.plan_model.specs.Books.{opened_over}
use Rattle.plan_model.specs.Plans.{Plan}
use Rattle.queue_config.specs.declared.config.Config.{Config}
use Rattle.queue_engine.specs.Running.{Running, Store, running}
use Rattle.queue_engine.specs.Standing.{StandsOn}
use Rattle.situation_model.specs.Situations.{Doubt, Left, begins, begun, committed, faulted, is_written, open_at, rolled_back}
use Rattle.sq_outside.specs.Disk.{History, LeavesRising}

-- ---- opening

-- nothing is open over the world that the disk recovered, and nothing in doubt
pub record Opens (config : Config) (before : Option History) (new : Store) (after : Option History) : Type 0 where
  pub settings : new.settings ≡ config
  pub book : new.book ≡ opened_over new.book.world
  pub recovered : IfSome before (λ h. RecoversWorld h.now.0.reads new.book.world)
  pub stands : StandsOn new None after

-- ---- begin

-- the plan of the command, and that it is open at the seat
pub record BeginsPlan (old : Running) (seat : ℕ) (command : Command) (now : ℕ) (new : Running) : Type 0 where
  pub plan : Plan
  pub begins : begins old.settings old.situation command now ≡ Ok plan
  pub situation : new.situation ≡ begun old.situation seat (Ok plan)

-- there was no memory, or the command is refused or locked
abbrev pub IsRefusal : Running → Command → (now : ℕ) → Refused → Type 0
IsRefusal old command now refused = (refused ≡ NoMemory) ⊎ (begins old.settings old.situation command now ≡ Err refused)

pub record Begins (old : Running) (seat : ℕ) (command : Command) (now : ℕ) (result : Result (Unit {0}) Refused) (new : Running) : Type 0 where
  pub settings : new.settings ≡ old.settings
  pub opens : OnOk result (BeginsPlan old seat command now new)
  pub refused : IfErr result (IsRefusal old command now)
  pub kept : OnErr result (new ≡ old)

-- ---- commit

-- How far the writing of a transaction's record has come: the disk is kept for the world with what was in doubt, and then
-- with this record in doubt.
abbrev pub doubt_at : Doubt → Transaction → ℕ → Doubt
doubt_at doubt tx zero = doubt
doubt_at doubt tx (suc _) = Some (tx ∷ [])

-- what is written of the transaction, whether or not the disk fails
pub record Writes (old : Running) (tx : Transaction) (before after : Option History) : Type 0 where
  pub moments : LeavesRising (λ n image. IsKeptFor old.situation.book.world (doubt_at old.situation.doubt tx n) image.0) 0 1 before after
  -- of one without transitions nothing is
  pub unwritten : IsFalse (is_written tx) → after ≡ before
  pub other : IsOtherKept before after

-- the plan that is open at the seat is applied
pub record Commits (seat : ℕ) (old : Running) (before : Option History) (answer : Answer) (new : Running) (after : Option History) : Type 0 where
  pub plan : Plan
  pub opened : open_at old.situation seat ≡ Some plan
  pub settings : new.settings ≡ old.settings
  pub situation : committed old.situation seat ≡ Some new.situation
  pub answered : answer ≡ plan.answer
  pub writes : Writes old plan.tx before after

-- the disk failed, and the plan is gone
pub record Faults (seat : ℕ) (old : Running) (before : Option History) (new : Running) (after : Option History) : Type 0 where
  pub plan : Plan
  pub opened : open_at old.situation seat ≡ Some plan
  pub settings : new.settings ≡ old.settings
  pub left : Left
  pub situation : faulted old.situation seat left ≡ Some new.situation
  pub writes : Writes old plan.tx before after

abbrev pub CommitsOrFaults : (seat : ℕ) → Running → Option History → Result Answer DiskFault → Running → Option History → Type 0
CommitsOrFaults seat old before (Ok answer) new after = Commits seat old before answer new after
CommitsOrFaults seat old before (Err fault) new after = Faults seat old before new after

-- and the engine stands on the disk then, with this record in doubt or none
pub record Ends (seat : ℕ) (old : Running) (before : Option History) (result : Result Answer DiskFault) (new : Store) (after : Option History) : Type 0 where
  pub doubt : Doubt
  pub ends : CommitsOrFaults seat old before result (running new doubt) after
  pub stands : StandsOn new doubt after

abbrev pub EndsPlan : (seat : ℕ) → Store → Option History → Result Answer DiskFault → Store → Option History → Type 0
EndsPlan seat old before result new after = (doubt : Doubt) → StandsOn old doubt before → Ends seat (running old doubt) before result new after

-- ---- rollback

pub record RollsBack (old : Running) (seat : ℕ) (new : Running) : Type 0 where
  pub settings : new.settings ≡ old.settings
  pub situation : rolled_back old.situation seat ≡ Some new.situation

-- ---- calls that touch no disk

-- the engine stands where it stood
abbrev pub StaysStanding : Store → Store → Type 0
StaysStanding old new = (doubt : Doubt) (history : Option History) → StandsOn old doubt history → StandsOn new doubt history
