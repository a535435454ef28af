-- What a line of a trace does to the service, and what is printed for it. The clock isn't asked.
use Rattle.std.specs.Prelude.{◌≡◌, ◌⊎◌, ℕ, List, Option, None, Err, IsTrue, IsFalse, IsSome}
use Rattle.sq_outside.specs.Fault.{Rose}
use Rattle.job_states.specs.declared.answer.Answer.{Answer}
use Rattle.job_states.specs.declared.answer.Refused.{Refused}
use Rattle.job_states.specs.declared.command.Command.{Command}
use Rattle.situation_model.specs.Situations.{Doubt, begins, open_at}
use Rattle.queue_engine.specs.Built.{is_built}
use Rattle.queue_engine.specs.Calls as calls
use Rattle.queue_engine.specs.Running.{Running, Store, running}
use Rattle.queue_engine.specs.Standing.{StandsOn}
use Rattle.queue_replies.specs.Faults as reply
use Rattle.trace_lines.specs.Printed.{answer_text, not_built_text, printed_text, refused_text}
use Rattle.trace_lines.specs.declared.line.Line.{Line}
use Rattle.trace_lines.specs.declared.line.Line.TheVariants as line
use Rattle.trace_lines.specs.declared.printed.Printed.TheVariants.{DiskFault, NoMemory, Open, RolledBack, SeatEmpty, SeatOpen}
use Rattle.queue_http.specs.Service as request
use Rattle.queue_http.specs.Service.{DiskState, Service, service}

-- ---- what is printed

-- this text, or that there is no memory for it
abbrev pub IsPrinted : (text printed : List ℕ) → Type 0
IsPrinted text printed = (printed ≡ text) ⊎ (printed ≡ printed_text NoMemory)

-- this is printed, and nothing changes
pub record Prints (old : Service) (text printed : List ℕ) (new : Service) : Type 0 where
  pub printed_is : printed ≡ text
  pub running : new.running ≡ old.running
  pub disk : new.disk ≡ old.disk

-- what the line asks for isn't built
abbrev pub IsUnbuilt : Service → (printed : List ℕ) → Service → Type 0
IsUnbuilt old printed new = Prints old not_built_text printed new ⊎ Prints old (printed_text NoMemory) printed new

-- ---- the look at the seat

-- something is open there
pub record FindsOpen (seat : ℕ) (old : Service) (printed : List ℕ) (new : Service) : Type 0 where
  pub opened : IsSome (open_at old.running.situation seat)
  pub prints : Prints old (printed_text SeatOpen) printed new

-- nothing is open there
pub record FindsEmpty (seat : ℕ) (old : Service) (printed : List ℕ) (new : Service) : Type 0 where
  pub empty : open_at old.running.situation seat ≡ None
  pub prints : Prints old (printed_text SeatEmpty) printed new

-- ---- a command at a seat and a moment

-- nothing is open at the seat, and the command can be begun so far
pub record MayBegin (seat : ℕ) (old : Running) (command : Command) : Type 0 where
  pub empty : open_at old.situation seat ≡ None
  pub built : IsTrue (is_built command)

-- its plan is opened there
pub record IsBegun (seat : ℕ) (old : Running) (command : Command) (now : ℕ) (new : Running) : Type 0 where
  pub may : MayBegin seat old command
  pub begins : calls.BeginsPlan old seat command now new
  pub settings : new.settings ≡ old.settings

-- not built: the command can't be begun so far
pub record IsNotBuilt (seat : ℕ) (old : Service) (command : Command) (printed : List ℕ) (new : Service) : Type 0 where
  pub empty : open_at old.running.situation seat ≡ None
  pub built : IsFalse (is_built command)
  pub prints : Prints old not_built_text printed new

-- refused: the command is refused, or a row of its plan is locked
pub record IsRefused (seat : ℕ) (old : Service) (command : Command) (now : ℕ) (printed : List ℕ) (new : Service) : Type 0 where
  pub may : MayBegin seat old.running command
  pub refused : Refused
  pub begins : begins old.running.settings old.running.situation command now ≡ Err refused
  pub prints : Prints old (refused_text refused) printed new

-- there is no memory to begin it, or for what is printed
pub record LacksMemory (seat : ℕ) (old : Service) (printed : List ℕ) (new : Service) : Type 0 where
  pub empty : open_at old.running.situation seat ≡ None
  pub prints : Prints old (printed_text NoMemory) printed new

-- it isn't begun, and nothing changes
abbrev pub IsTurnedDown : (seat : ℕ) → Service → Command → (now : ℕ) → (printed : List ℕ) → Service → Type 0
IsTurnedDown seat old command now printed new =
    FindsOpen seat old printed new ⊎ IsNotBuilt seat old command printed new ⊎ IsRefused seat old command now printed new
    ⊎ LacksMemory seat old printed new

-- opened: what was begun stays open
pub record IsOpened (seat : ℕ) (old : Service) (command : Command) (now : ℕ) (printed : List ℕ) (new : Service) : Type 0 where
  pub begun : IsBegun seat old.running command now new.running
  pub disk : new.disk ≡ old.disk
  pub printed_is : printed ≡ printed_text Open

-- done: it begins and commits; where there is no memory for the text of the answer, what was committed is kept
pub record IsDone (seat : ℕ) (old : Service) (command : Command) (now : ℕ) (printed : List ℕ) (new : Service) : Type 0 where
  pub may : MayBegin seat old.running command
  pub answer : Answer
  pub commits : request.Commits seat old command now answer new
  pub printed_is : IsPrinted (answer_text answer) printed

-- the disk failed: the store is as it was, and the record may be in doubt, as after a request
pub record MeetsFault (seat : ℕ) (old : Service) (command : Command) (now : ℕ) (printed : List ℕ) (new : Service) : Type 0 where
  pub may : MayBegin seat old.running command
  pub fault : request.MeetsFault seat old command now reply.disk_fault new
  pub printed_is : printed ≡ printed_text DiskFault

-- ---- the end of what is open at a seat

-- committed; where there is no memory for the text of the answer, that is kept
pub record IsCommitted (seat : ℕ) (old : Service) (printed : List ℕ) (new : Service) : Type 0 where
  pub answer : Answer
  pub commits : calls.Commits seat old.running old.disk.history answer new.running new.disk.history
  pub printed_is : IsPrinted (answer_text answer) printed

-- the disk failed: the plan is gone, and its record may be in doubt
pub record IsLost (seat : ℕ) (old : Service) (printed : List ℕ) (new : Service) : Type 0 where
  pub faults : calls.Faults seat old.running old.disk.history new.running new.disk.history
  pub rose : Rose old.disk.faults new.disk.faults
  pub printed_is : printed ≡ printed_text DiskFault

-- rolled back
pub record IsRolledBack (seat : ℕ) (old : Service) (printed : List ℕ) (new : Service) : Type 0 where
  pub rolls_back : calls.RollsBack old.running seat new.running
  pub disk : new.disk ≡ old.disk
  pub printed_is : printed ≡ printed_text RolledBack

-- ---- a line

abbrev pub Does : Service → Line → (printed : List ℕ) → Service → Type 0
Does old (line.Begin now seat command) printed new = IsTurnedDown seat old command now printed new ⊎ IsOpened seat old command now printed new
Does old (line.Do now seat command) printed new =
    IsTurnedDown seat old command now printed new ⊎ IsDone seat old command now printed new ⊎ MeetsFault seat old command now printed new
Does old (line.Commit seat) printed new = FindsEmpty seat old printed new ⊎ IsCommitted seat old printed new ⊎ IsLost seat old printed new
Does old (line.Rollback seat) printed new = FindsEmpty seat old printed new ⊎ IsRolledBack seat old printed new
Does old line.Reopen printed new = IsUnbuilt old printed new

pub record Performs (old : Service) (line : Line) (printed : List ℕ) (new : Service) : Type 0 where
  pub does : Does old line printed new
  pub moments : new.moments ≡ old.moments

-- ---- over an engine that stands on the disk

-- the line is performed, and the engine stands on the disk then, with this record in doubt or none
pub record PerformsOver (old : Service) (line : Line) (printed : List ℕ) (engine : Store) (disk : DiskState) : Type 0 where
  pub doubt : Doubt
  pub performs : Performs old line printed (service (running engine doubt) old.moments disk)
  pub stands : StandsOn engine doubt disk.history

-- from the engine with each record that was in doubt, whatever the clock will give
abbrev pub PerformsFrom : Store → DiskState → Line → (printed : List ℕ) → Store → DiskState → Type 0
PerformsFrom old disk line printed new after =
    (moments : Option (List ℕ)) (doubt : Doubt) → StandsOn old doubt disk.history
    → PerformsOver (service (running old doubt) moments disk) line printed new after
