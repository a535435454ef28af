-- What one request does to the service, and what is replied.
use Rattle.std.specs.Prelude.{◌≡◌, ◌⊎◌, ℕ, List, [], ◌∷◌, Option, None, Some, Ok, Err, IfSome}
use Rattle.std.specs.Io.KnownBytes.{Keeps}
use Rattle.sq_outside.specs.Disk.{History}
use Rattle.sq_outside.specs.Fault.{Rose}
use Rattle.sq_outside.specs.Moments.{IsMoment, Drops, first_moment}
use Rattle.job_states.specs.declared.answer.Answer.{Answer}
use Rattle.job_states.specs.declared.answer.Refused.{Refused}
use Rattle.job_states.specs.declared.command.Command.{Command}
use Rattle.http_wire.specs.declared.reply.Reply.{Reply}
use Rattle.http_wire.specs.declared.request.Request.{Request}
use Rattle.plan_model.specs.Books.{Book}
use Rattle.plan_model.specs.Plans.{Plan}
use Rattle.queue_model.specs.Map as map
use Rattle.situation_model.specs.Situations.{Doubt, Left, begins}
use Rattle.situation_model.specs.Steps.{Begin, Commit, CommitFault, after_steps}
use Rattle.queue_engine.specs.Calls.{Writes}
use Rattle.queue_engine.specs.Running.{Running, Store, running}
use Rattle.queue_engine.specs.Standing.{StandsOn}
use Rattle.queue_replies.specs.Answers.{reply_of}
use Rattle.queue_replies.specs.Faults.{disk_fault, no_memory}
use Rattle.queue_replies.specs.Refusals.{refused_reply}
use Rattle.queue_http.specs.Asked.{asked_of}
use Rattle.queue_http.specs.declared.asked.Asked.{Asked}
use Rattle.queue_http.specs.declared.asked.Asked.TheVariants as asked

-- the files of the disk through all its calls, where it exposes them, and its count of faults
pub record DiskState : Type 0 where
  pub history : Option History
  pub faults : ℕ

abbrev pub disk_state : Option History → ℕ → DiskState
disk_state history faults = record { history = history; faults = faults }

-- the engine, the moments that the clock will give, where it exposes them, and the disk
pub record Service : Type 0 where
  pub running : Running
  pub moments : Option (List ℕ)
  pub disk : DiskState

abbrev pub service : Running → Option (List ℕ) → DiskState → Service
service running moments disk = record { running = running; moments = moments; disk = disk }

-- no seat has anything open, as between two requests
abbrev pub IsIdle : Book → Type 0
IsIdle b = (seat : ℕ) → map.get b.open_plans seat ≡ None

-- ---- a command at a moment

-- it begins at the seat and commits there, with this answer
pub record Commits (seat : ℕ) (old : Service) (command : Command) (now : ℕ) (answer : Answer) (new : Service) : Type 0 where
  pub plan : Plan
  pub begins : begins old.running.settings old.running.situation command now ≡ Ok plan
  pub situation : after_steps old.running.settings old.running.situation (Begin seat command now ∷ Commit seat ∷ []) ≡ Some new.running.situation
  pub answered : answer ≡ plan.answer
  pub settings : new.running.settings ≡ old.running.settings
  pub writes : Writes old.running plan.tx old.disk.history new.disk.history

-- told: it commits, and the reply is that of its answer
pub record IsTold (seat : ℕ) (old : Service) (command : Command) (now : ℕ) (reply : Reply) (new : Service) : Type 0 where
  pub answer : Answer
  pub commits : Commits seat old command now answer new
  pub reply_is : reply ≡ reply_of answer

-- refused: the reply is that of the refusal, and nothing changes
pub record IsRefused (old : Service) (command : Command) (now : ℕ) (reply : Reply) (new : Service) : Type 0 where
  pub refused : Refused
  pub begins : begins old.running.settings old.running.situation command now ≡ Err refused
  pub reply_is : refused_reply refused ≡ Some reply
  pub running : new.running ≡ old.running
  pub disk : new.disk ≡ old.disk

-- the disk failed: the store is as it was, and the record may be in doubt
pub record MeetsFault (seat : ℕ) (old : Service) (command : Command) (now : ℕ) (reply : Reply) (new : Service) : Type 0 where
  pub plan : Plan
  pub begins : begins old.running.settings old.running.situation command now ≡ Ok plan
  pub left : Left
  pub situation : after_steps old.running.settings old.running.situation (Begin seat command now ∷ CommitFault seat left ∷ []) ≡ Some new.running.situation
  pub settings : new.running.settings ≡ old.running.settings
  pub writes : Writes old.running plan.tx old.disk.history new.disk.history
  pub reply_is : reply ≡ disk_fault
  pub rose : Rose old.disk.faults new.disk.faults

-- there is no memory: nothing changes
pub record LacksMemory (old : Service) (reply : Reply) (new : Service) : Type 0 where
  pub reply_is : reply ≡ no_memory
  pub running : new.running ≡ old.running
  pub disk : new.disk ≡ old.disk

-- or the command commits and there is none for its reply
pub record LacksReply (seat : ℕ) (old : Service) (command : Command) (now : ℕ) (reply : Reply) (new : Service) : Type 0 where
  pub reply_is : reply ≡ no_memory
  pub answer : Answer
  pub commits : Commits seat old command now answer new

abbrev pub Performs : (seat : ℕ) → Service → Command → (now : ℕ) → Reply → Service → Type 0
Performs seat old command now reply new =
    IsTold seat old command now reply new ⊎ IsRefused old command now reply new ⊎ MeetsFault seat old command now reply new
    ⊎ LacksMemory old reply new ⊎ LacksReply seat old command now reply new

-- ---- a request

-- the clock was asked once, for this moment
pub record TakesMoment (old new : Option (List ℕ)) (now : ℕ) : Type 0 where
  pub first : IfSome old (λ moments. now ≡ first_moment moments)
  pub rest : Drops old new
  pub bounded : IsMoment now

-- the command is performed at the clock's next moment
pub record IsPerformed (seat : ℕ) (old : Service) (command : Command) (reply : Reply) (new : Service) : Type 0 where
  pub now : ℕ
  pub moment : TakesMoment old.moments new.moments now
  pub performs : Performs seat old command now reply new

-- this is replied, and nothing changes
pub record Replies (old : Service) (known reply : Reply) (new : Service) : Type 0 where
  pub reply_is : reply ≡ known
  pub running : new.running ≡ old.running
  pub moments : Keeps old.moments new.moments
  pub disk : new.disk ≡ old.disk

-- what was asked for is done, or its reply is known already
abbrev pub Does : (seat : ℕ) → Service → Asked → Reply → Service → Type 0
Does seat old (asked.Command command) reply new = IsPerformed seat old command reply new
Does seat old (asked.Known known) reply new = Replies old known reply new

-- a request is answered, or there is no memory to read what it asks for
abbrev pub Answers : (seat : ℕ) → Service → Request → Reply → Service → Type 0
Answers seat old request reply new = Does seat old (asked_of request) reply new ⊎ Replies old no_memory reply new

-- ---- over an engine that stands on the disk

-- the request is answered, and the engine stands on the disk then, with this record in doubt or none
pub record Serves (seat : ℕ) (old : Service) (request : Request) (reply : Reply) (engine : Store) (moments : Option (List ℕ)) (disk : DiskState) : Type 0 where
  pub doubt : Doubt
  pub answers : Answers seat old request reply (service (running engine doubt) moments disk)
  pub stands : StandsOn engine doubt disk.history

-- from the engine with each record that was in doubt
abbrev pub ServesFrom : (seat : ℕ) → Store → Option (List ℕ) → DiskState → Request → Reply → Store → Option (List ℕ) → DiskState → Type 0
ServesFrom seat old moments disk request reply new later after =
    (doubt : Doubt) → StandsOn old doubt disk.history → Serves seat (service (running old doubt) moments disk) request reply new later after
