-- What comes of a command over an engine that stands on a disk, from each record that was in doubt: a commit, a fault or a
-- refusal, with its reply.
use Rattle.std.specs.Prelude.{◌≡◌, ◌⊎◌, ℕ, List, Option}
use Rattle.sq_outside.specs.Fault.{Rose}
use Rattle.job_states.specs.declared.answer.Answer.{Answer}
use Rattle.job_states.specs.declared.command.Command.{Command}
use Rattle.http_wire.specs.declared.reply.Reply.{Reply}
use Rattle.situation_model.specs.Situations.{Doubt}
use Rattle.queue_engine.specs.Calls as calls
use Rattle.queue_engine.specs.Running.{Running, Store, running}
use Rattle.queue_engine.specs.Standing.{StandsOn}
use Rattle.queue_replies.specs.Answers.{reply_of}
use Rattle.queue_replies.specs.Faults.{disk_fault, no_memory}
use Rattle.queue_http.specs.Service.{DiskState, Performs, service}

-- it is the known one, unless there is no memory for that
abbrev pub IsReply : (reply known : Reply) → Type 0
IsReply reply known = (reply ≡ known) ⊎ (reply ≡ no_memory)

-- ---- the end of what is open at the seat

-- it commits, and the reply is that of its answer
pub record IsCommitted (seat : ℕ) (old : Running) (before : DiskState) (reply : Reply) (new : Running) (after : DiskState) : Type 0 where
  pub answer : Answer
  pub commits : calls.Commits seat old before.history answer new after.history
  pub reply_is : IsReply reply (reply_of answer)

-- the disk failed, as is replied
pub record IsFaulted (seat : ℕ) (old : Running) (before : DiskState) (reply : Reply) (new : Running) (after : DiskState) : Type 0 where
  pub faults : calls.Faults seat old before.history new after.history
  pub reply_is : reply ≡ disk_fault
  pub rose : Rose before.faults after.faults

-- and the engine stands on the disk then, with this record in doubt or none
pub record Ends (seat : ℕ) (old : Running) (before : DiskState) (reply : Reply) (new : Store) (after : DiskState) : Type 0 where
  pub doubt : Doubt
  pub ends : IsCommitted seat old before reply (running new doubt) after ⊎ IsFaulted seat old before reply (running new doubt) after
  pub stands : StandsOn new doubt after.history

abbrev pub EndsFrom : (seat : ℕ) → Store → DiskState → Reply → Store → DiskState → Type 0
EndsFrom seat old before reply new after = (doubt : Doubt) → StandsOn old doubt before.history → Ends seat (running old doubt) before reply new after

-- ---- a command at a moment

-- it is performed, whatever moments the clock has, and the engine stands on the disk then
pub record IsDone (seat : ℕ) (old : Running) (before : DiskState) (command : Command) (now : ℕ) (reply : Reply) (new : Store) (after : DiskState)
    : Type 0 where
  pub doubt : Doubt
  pub performs : (moments later : Option (List ℕ))
      → Performs seat (service old moments before) command now reply (service (running new doubt) later after)
  pub stands : StandsOn new doubt after.history

abbrev pub PerformsFrom : (seat : ℕ) → Store → DiskState → Command → (now : ℕ) → Reply → Store → DiskState → Type 0
PerformsFrom seat old before command now reply new after =
    (doubt : Doubt) → StandsOn old doubt before.history → IsDone seat (running old doubt) before command now reply new after
