-- What the steps of a call for the next request do.
use Rattle.std.specs.Prelude.{◌≡◌, ◌<◌, ◌≤◌, ◌⊎◌, ◌+◌, ℕ, Bool, true, false, List, [], ◌++◌, length, drop, Option, None, Some, Result, Ok, Err}
use Rattle.httparse.specs.Grammar.{RequestHead, print_request}
use Rattle.sq_outside.specs.Fault.{Rose}
use Rattle.sq_outside.specs.Streams.{SourceState}
use Rattle.http_wire.specs.Ahead.{Ahead}
use Rattle.http_wire.specs.Limits.{head_limit, input_limit}
use Rattle.http_wire.specs.Head.{BeginsWith, body_length, path_of, query_of}
use Rattle.http_wire.specs.Stream.{IsEnd, IsBroken, HasNoHead, HasRefusedHead, fault_at, Input, HasRead, HasReadAll, HasReadOn, StaysAhead, IsPastLimit, EndsInput, FailsWith, taken_of, most_taken}
use Rattle.http_wire.specs.declared.head.Refusal.{Refusal}
use Rattle.http_wire.specs.declared.head.Refusal.TheVariants.{Bad, TooLarge, Unsupported}
use Rattle.http_wire.specs.declared.carry.Pause.{Pause}
use Rattle.http_wire.specs.declared.carry.Pause.TheVariants.{Line, End, Fault}
use Rattle.http_wire.specs.declared.head.Head.{Head}
use Rattle.http_wire.specs.declared.request.WireFault.{WireFault}
use Rattle.http_wire.specs.declared.request.WireFault.TheVariants as faults

-- Heads.

-- the head that bytes begin with
pub record IsHeadOf (bytes : List ℕ) (head : Head) : Type 0 where
  pub tree : RequestHead
  pub begins : BeginsWith bytes tree (drop head.len bytes)
  pub len : head.len ≡ length (print_request tree)
  pub within : head.len ≤ length bytes
  pub body : body_length tree ≡ Ok head.body
  pub method : head.method ≡ tree.method
  pub path : head.path ≡ path_of tree.target
  pub query : head.query ≡ query_of tree.target

-- bytes begin with a head
pub record HasHead (bytes : List ℕ) : Type 0 where
  pub head : RequestHead
  pub rest : List ℕ
  pub begins : BeginsWith bytes head rest

-- why no head is read from the first bytes, which stand at a place of the stream
abbrev pub HasHeadCause : ℕ → List ℕ → WireFault → Type 0
HasHeadCause at prefix (faults.BadRequest place) = (place ≡ at) × (IsBroken prefix ⊎ HasRefusedHead prefix Bad)
HasHeadCause at prefix (faults.TooLarge place len) = (place ≡ at) × HasRefusedHead prefix (TooLarge len)
HasHeadCause at prefix (faults.Unsupported place) = (place ≡ at) × HasRefusedHead prefix Unsupported
HasHeadCause at prefix faults.NoMemory = HasHead prefix
HasHeadCause at prefix _ = ⊥

-- bytes at a place are refused as they stand, whatever follows them
pub record IsRefusalAt (at : ℕ) (bytes : List ℕ) (fault : WireFault) : Type 0 where
  pub refusal : Refusal
  pub is : fault ≡ fault_at at refusal
  pub cause : HasNoHead bytes refusal ⊎ HasRefusedHead bytes refusal

-- Reads.

-- why reading stopped: the source failed after bytes that are so, or has more than an input may have
abbrev pub HasReadCause : ℕ → SourceState → List ℕ → SourceState → (List ℕ → Type 0) → WireFault → Type 0
HasReadCause taken old read new IsSo faults.ReadFault = Rose old.faults new.faults × IsSo read
HasReadCause taken old read new IsSo faults.InputTooLong = IsPastLimit taken read IsSo
HasReadCause taken old read new IsSo _ = ⊥

-- reading on after `taken` bytes of an input stopped with a fault, after bytes that are so
pub record StopsReading (taken : ℕ) (old : SourceState) (fault : WireFault) (new : SourceState) (IsSo : List ℕ → Type 0) (needed : Type 0) : Type 0 where
  pub read : List ℕ
  pub has_read : HasRead old read new needed
  pub within : taken + length read ≤ most_taken fault
  pub cause : HasReadCause taken old read new IsSo fault

-- bytes were read after those ahead, or the source is at its end
pub record Fills (old : List ℕ) (taken : ℕ) (before : SourceState) (more : Bool) (new : List ℕ) (after : SourceState) : Type 0 where
  pub read : List ℕ
  pub has_read : HasRead before read after (Unit {0})
  pub bytes : new ≡ old ++ read
  pub within : taken + length read ≤ input_limit
  pub some : more ≡ true → 0 < length read
  pub none : more ≡ false → (read ≡ []) × HasReadAll before.left []

-- why none were: there was no memory and nothing was read, or the read stopped
abbrev pub HasFillCause : ℕ → SourceState → SourceState → WireFault → Type 0
HasFillCause taken before after faults.NoMemory = after ≡ before
HasFillCause taken before after fault = StopsReading taken before fault after (λ read. read ≡ []) (Unit {0})

-- all of a buffer was filled, or the source ended before
pub record FillsWhole (taken : ℕ) (before : SourceState) (whole : Bool) (buffer : List ℕ) (after : SourceState) : Type 0 where
  pub read : List ℕ
  pub has_read : HasRead before read after (0 < length buffer)
  pub within : taken + length read ≤ input_limit
  pub all : whole ≡ true → buffer ≡ read
  pub short : whole ≡ false → (length read < length buffer) × HasReadAll before.left read

-- only line ends were read, and so many bytes of the input were taken then
pub record PassesLines (taken : ℕ) (before : SourceState) (total : ℕ) (after : SourceState) : Type 0 where
  pub read : List ℕ
  pub has_read : HasRead before read after (Unit {0})
  pub sum : total ≡ taken + length read
  pub within : total ≤ input_limit
  pub blank : IsEnd read

-- only line ends were left
pub record EndsInLines (taken : ℕ) (before : SourceState) (total : ℕ) (after : SourceState) : Type 0 where
  pub passes : PassesLines taken before total after
  pub all : HasReadAll before.left passes.read

-- another byte came
pub record MeetsOther (taken : ℕ) (before after : SourceState) : Type 0 where
  pub read : List ℕ
  pub has_read : HasRead before read after (Unit {0})
  pub within : taken + length read ≤ input_limit
  pub other : IsEnd read → ⊥

-- what passing over line ends answers
abbrev pub SkipsLines : ℕ → SourceState → Result (Option ℕ) WireFault → SourceState → Type 0
SkipsLines taken before (Ok (Some total)) after = EndsInLines taken before total after
SkipsLines taken before (Ok None) after = MeetsOther taken before after
SkipsLines taken before (Err fault) after = StopsReading taken before fault after IsEnd (Unit {0})

-- the body of n bytes that begins with those held, or the source ended before
pub record ReadsBody (held : List ℕ) (taken : ℕ) (before : SourceState) (n : ℕ) (body : List ℕ) (after : SourceState) : Type 0 where
  pub read : List ℕ
  pub has_read : HasRead before read after (length held < n)
  pub within : taken + length read ≤ input_limit
  pub whole : body ≡ held ++ read
  pub size : length body ≡ n

pub record LacksBody (held : List ℕ) (taken : ℕ) (before : SourceState) (n : ℕ) (after : SourceState) : Type 0 where
  pub read : List ℕ
  pub has_read : HasRead before read after (length held < n)
  pub within : taken + length read ≤ input_limit
  pub short : length held + length read < n
  pub all : HasReadAll before.left read

-- why no body is read: there was no memory and nothing was read, or the read stopped within it
abbrev pub HasBodyCause : List ℕ → ℕ → SourceState → ℕ → SourceState → WireFault → Type 0
HasBodyCause held taken before n after faults.NoMemory = after ≡ before
HasBodyCause held taken before n after fault = StopsReading taken before fault after (λ read. length held + length read < n) (length held < n)

-- Steps.

-- so much was read, and all of it stands ahead
pub record ReadsAhead (old : Input) (read : List ℕ) (new : Input) : Type 0 where
  pub has_read : HasReadOn old read new
  pub stays : StaysAhead old.ahead read new.ahead

-- the next head was read, and stands ahead
pub record HeadsOn (old : Input) (head : Head) (new : Input) : Type 0 where
  pub read : List ℕ
  pub reads : ReadsAhead old read new
  pub found : IsHeadOf new.ahead.bytes head

-- what the step to the next head answers
abbrev pub FindsHead : Input → Result (Option Head) WireFault → Input → Type 0
FindsHead old (Ok (Some head)) new = HeadsOn old head new
FindsHead old (Ok None) new = EndsInput old new
FindsHead old (Err fault) new = FailsWith old fault new

-- why reading on for a head paused after so much was read: a line may have ended, or the source has ended or failed
abbrev pub PausesFor : Pause → Input → List ℕ → Input → Type 0
PausesFor Line old read new = 0 < length read
PausesFor End old read new = (length new.ahead.bytes < head_limit) × HasReadAll old.source.left read
PausesFor Fault old read new = (length new.ahead.bytes < head_limit) × Rose old.source.faults new.source.faults

-- more was read for a head
pub record ReadsOn (old : Input) (pause : Pause) (new : Input) : Type 0 where
  pub read : List ℕ
  pub ahead : ReadsAhead old read new
  pub within : taken_of new.ahead ≤ input_limit
  pub why : PausesFor pause old read new

-- where the source is at its end, so is the stream, or it is cut short
abbrev pub EndsAhead : Ahead → Result (Option Head) WireFault → Ahead → Type 0
EndsAhead old (Ok None) new = IsEnd old.bytes × (new.bytes ≡ []) × (new.at ≡ taken_of old)
EndsAhead old (Err fault) new = (IsEnd old.bytes → ⊥) × (fault ≡ faults.BadRequest old.at)
EndsAhead old (Ok (Some _)) new = ⊥

-- the body after a head that stands ahead was taken with it
pub record TakesBody (old : Input) (head : Head) (body : List ℕ) (new : Input) : Type 0 where
  pub read : List ℕ
  pub has_read : HasReadOn old read new
  pub parts : drop head.len (old.ahead.bytes ++ read) ≡ body ++ new.ahead.bytes
  pub size : length body ≡ head.body
  pub place : new.ahead.at ≡ old.ahead.at + head.len + head.body
  pub within : taken_of old.ahead + length read ≤ input_limit
