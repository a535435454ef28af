-- What becomes of an input: its items are read back to back and answered in turn.
use Rattle.std.specs.Prelude.{◌≡◌, ◌+◌, ◌-◌, ◌^◌, ◌≤◌, ℕ, Bool, min, List, [], ◌∷◌, ◌++◌, length, map, take, drop, Option, Some, IfSome}
use Rattle.std.specs.List.{count_by, flat_map, FoldsTo}
use Rattle.std.specs.Io.KnownBytes.{Consumes}
use Rattle.sq_outside.specs.Disk.{LeavesRising}
use Rattle.sq_outside.specs.Fault.{Rose}
use Rattle.sq_outside.specs.Streams.{SourceState, SinkState}
use Rattle.http_wire.specs.Stream.{HasReadAll}
use Rattle.job_states.specs.declared.transition.Transaction.{Transaction}
use Rattle.journal_replay.specs.Kept.{AreKeptFor, IsKeptFor}
use Rattle.queue_model.specs.GoodWorld.{IsGood}
use Rattle.queue_model.specs.Replay.{replay}
use Rattle.queue_model.specs.World.{World}
use Rattle.situation_model.specs.Situations.{Doubt}
use Rattle.queue_engine.specs.Running.{Running}
use Rattle.queue_http.specs.Service.{DiskState, Service, service}
use Rattle.queue_cli.specs.declared.end.End.{End}
use Rattle.queue_cli.specs.declared.end.End.TheVariants.{Done, BadInput, BadLine, ReadFault, WriteFault, NoMemory, InputTooLong}
use Rattle.queue_cli.specs.LastText.{last_text, WritesLast}
use Rattle.queue_cli.specs.Protocol.{Protocol}

-- what it works on
pub record Session : Type 0 where
  pub service : Service
  pub input : SourceState
  pub output : SinkState

abbrev pub session : Service → SourceState → SinkState → Session
session service input output = record { service = service; input = input; output = output }

-- ---- the answered items

pub record Exchange (p : Protocol) : Type 0 where
  pub item : p.Item
  pub reply : p.Reply

abbrev pub items_of : {p : Protocol} → List (Exchange p) → List p.Item
items_of exchanges = map (λ exchange. exchange.item) exchanges

-- the bytes of the replies
abbrev pub reply_texts : {p : Protocol} → List (Exchange p) → List ℕ
reply_texts {p} exchanges = flat_map (λ exchange. p.text exchange.reply) exchanges

-- bytes are these items, back to back, and then rest
abbrev pub AreItems : (p : Protocol) (bytes : List ℕ) → List p.Item → (rest : List ℕ) → Type 0
AreItems p bytes items rest = FoldsTo p.IsItem bytes items rest

-- An item is answered. Then the world is good, and the disk is kept for it and what is in doubt.
pub record IsAnswered (p : Protocol) (old : Service) (exchange : Exchange p) (new : Service) : Type 0 where
  pub answers : p.Answers old exchange.item exchange.reply new
  pub good : IsGood new.running.situation.book.world
  pub kept : IfSome new.disk.history (λ h. AreKeptFor new.running.situation.book.world new.running.situation.doubt h.now)

-- the items are answered in turn
abbrev pub AreAnswered : {p : Protocol} (old : Service) → List (Exchange p) → (new : Service) → Type 0
AreAnswered {p} old exchanges new = FoldsTo (IsAnswered p) old exchanges new

-- ---- what a crash leaves meanwhile

-- the file is kept for the world after so many of the accepted transactions, with a record in doubt or without
pub record IsKeptAfter (w : World) (accepted : List Transaction) (n : ℕ) (file : List ℕ) : Type 0 where
  pub world : World
  pub replayed : replay w (take n accepted) ≡ Some world
  pub doubt : Doubt
  pub kept : IsKeptFor world doubt file

-- These transactions were accepted. At each moment a crash leaves the replay of a prefix of them, and this never gets shorter.
pub record LeavesPrefixes (old new : Service) : Type 0 where
  pub accepted : List Transaction
  pub replayed : replay old.running.situation.book.world accepted ≡ Some new.running.situation.book.world
  pub moments : LeavesRising (λ n image. IsKeptAfter old.running.situation.book.world accepted n image.0) 0 (length accepted) old.disk.history new.disk.history

-- ---- disk faults

abbrev pub is_disk_fault : {p : Protocol} → Exchange p → Bool
is_disk_fault {p} exchange = p.is_fault exchange.reply

-- at most as many replies say that the disk failed as the count of faults rose, unless it stands at the greatest u64
abbrev pub CountsFaults : {p : Protocol} (old : Service) → List (Exchange p) → (new : Service) → Type 0
CountsFaults old exchanges new = min (old.disk.faults + count_by is_disk_fault exchanges) (2 ^ 64 - 1) ≤ new.disk.faults

-- ---- how it ends

-- as many bytes as an input may have were taken, and one more: without it the pending ones are unfinished
pub record IsTooLong (p : Protocol) (taken pending : List ℕ) : Type 0 where
  pub within : List ℕ
  pub extra : ℕ
  pub parts : pending ≡ within ++ extra ∷ []
  pub full : length taken ≡ 1_073_741_825
  pub unfinished : p.IsUnfinished within

-- the input is refused from the place on where the pending bytes begin, and this is the end for it
pub record IsRefusedAt (p : Protocol) (end : End) (old : SourceState) (taken pending : List ℕ) : Type 0 where
  pub at : ℕ
  pub refusal : p.Refusal
  pub end_is : end ≡ p.refusal_end at refusal
  pub place : at + length pending ≡ length taken
  pub refused : IfSome old.left (λ bytes. p.IsRefused (drop at bytes) refusal)

-- why it ends; of the taken bytes the pending ones follow the answered items
abbrev pub EndsFor : (p : Protocol) (old new : SourceState) (taken pending : List ℕ) → End → Type 0
EndsFor p old new taken pending Done = p.IsEnd pending × HasReadAll old.left taken
EndsFor p old new taken pending (BadInput at refusal) = IsRefusedAt p (BadInput at refusal) old taken pending
EndsFor p old new taken pending (BadLine at) = IsRefusedAt p (BadLine at) old taken pending
EndsFor p old new taken pending ReadFault = Rose old.faults new.faults × p.IsUnfinished pending
EndsFor p old new taken pending WriteFault = Unit {0}
EndsFor p old new taken pending NoMemory = Unit {0}
EndsFor p old new taken pending InputTooLong = IsTooLong p taken pending
EndsFor p old new taken pending _ = ⊥

-- the last reply is not all there: the output failed
pub record LacksLastReply (p : Protocol) (old new : SinkState) (exchanges : List (Exchange p)) : Type 0 where
  pub before : List (Exchange p)
  pub last : Exchange p
  pub exchanges_are : exchanges ≡ before ++ last ∷ []
  pub written : WritesLast old new (reply_texts before) (p.text last.reply)
  pub fault : Rose old.faults new.faults

-- each reply was written, and then the last text of the end, unless the end is that a reply couldn't be written
abbrev pub WritesReplies : {p : Protocol} (old new : SinkState) → List (Exchange p) → End → Type 0
WritesReplies {p} old new exchanges WriteFault = LacksLastReply p old new exchanges
WritesReplies old new exchanges end = WritesLast old new (reply_texts exchanges) (last_text end)

-- at most so many bytes are taken
abbrev pub most_taken : End → ℕ
most_taken InputTooLong = 1_073_741_825
most_taken _ = 1_073_741_824

-- the first items of the input were answered in turn, from the old service to the new one, until the end came
pub record AnswersPrefix (p : Protocol) (old new : Session) (end : End) : Type 0 where
  -- what was taken of the input: the answered items, and then the pending bytes
  pub taken : List ℕ
  pub exchanges : List (Exchange p)
  pub pending : List ℕ
  pub consumed : Consumes old.input.left new.input.left taken
  pub within : length taken ≤ most_taken end
  pub items : AreItems p taken (items_of exchanges) pending
  pub answers : AreAnswered old.service exchanges new.service
  pub leaves : LeavesPrefixes old.service new.service
  pub faults : CountsFaults old.service exchanges new.service
  pub written : WritesReplies old.output new.output exchanges end
  pub cause : EndsFor p old.input new.input taken pending end

-- to some engine and record in doubt, for which the disk is kept then
pub record AnswersFrom (p : Protocol) (old : Session) (input : SourceState) (output : SinkState) (disk : DiskState) (moments : Option (List ℕ)) (end : End) : Type 0 where
  pub running : Running
  pub answers : AnswersPrefix p old (session (service running moments disk) input output) end
  pub kept : IfSome disk.history (λ h. AreKeptFor running.situation.book.world running.situation.doubt h.now)
