-- Which bytes are a request, where a stream of them ends or is refused, and what a call takes of it.
use Rattle.std.specs.Prelude.{◌≡◌, ◌<◌, ◌≤◌, ◌⊎◌, ◌+◌, ℕ, Bool, ◌||◌, ◌==◌, List, [], ◌∷◌, ◌++◌, length, take, IsTrue, Option, None, Some, IfSome, Result, Ok, Err, IsOkAnd}
use Rattle.std.specs.List.{list_all}
use Rattle.std.specs.Io.KnownBytes.{Consumes, prepend_known}
use Rattle.httparse.specs.Grammar.{RequestHead, HasNoRequest, NeverHasRequest, MayBecomeRequest, EndsInTarget}
use Rattle.httparse.specs.Spans.{RequestExceeds, RequestOverflows}
use Rattle.sq_outside.specs.Fault.{Rose}
use Rattle.sq_outside.specs.Streams.{SourceState}
use Rattle.http_wire.specs.Limits.{head_limit, field_limit, input_limit}
use Rattle.http_wire.specs.Head.{BeginsWith, body_length, path_of, query_of}
use Rattle.http_wire.specs.Ahead.{Ahead}
use Rattle.http_wire.specs.declared.head.Refusal.{Refusal}
use Rattle.http_wire.specs.declared.head.Refusal.TheVariants.{Bad, TooLarge, Unsupported}
use Rattle.http_wire.specs.declared.request.Request.{Request}
use Rattle.http_wire.specs.declared.request.WireFault.{WireFault}
use Rattle.http_wire.specs.declared.request.WireFault.TheVariants as faults

-- Bytes.

-- bytes are this request, head and body, and then rest
pub record IsRequest (bytes : List ℕ) (request : Request) (rest : List ℕ) : Type 0 where
  pub head : RequestHead
  pub begins : BeginsWith bytes head (request.body ++ rest)
  pub body : body_length head ≡ Ok (length request.body)
  pub method : request.method ≡ head.method
  pub path : request.path ≡ path_of head.target
  pub query : request.query ≡ query_of head.target

-- CR or LF
abbrev pub is_line_byte : ℕ → Bool
is_line_byte b = b == 13 || b == 10

-- the stream is at its end: nothing but line ends follow
abbrev pub IsEnd : List ℕ → Type 0
IsEnd bytes = IsTrue (list_all is_line_byte bytes)

-- no bytes that follow make a head that is taken
abbrev pub IsBroken : List ℕ → Type 0
IsBroken prefix = NeverHasRequest prefix ⊎ (RequestExceeds field_limit prefix × RequestOverflows field_limit prefix)

-- no head has ended, and one still may
abbrev pub IsOpen : List ℕ → Type 0
IsOpen prefix = HasNoRequest prefix × MayBecomeRequest prefix

-- bytes begin with a head, and not all of its body is there
pub record HasOpenBody (bytes : List ℕ) : Type 0 where
  pub head : RequestHead
  pub rest : List ℕ
  pub begins : BeginsWith bytes head rest
  pub short : IsOkAnd (body_length head) (λ len. length rest < len)

-- bytes hold neither a whole request nor what is refused: they are only line ends, a head within its limit that may still end, or a
-- head without all of its body
abbrev pub IsUnfinished : List ℕ → Type 0
IsUnfinished bytes = IsEnd bytes ⊎ ((IsOpen bytes × (length bytes < head_limit)) ⊎ HasOpenBody bytes)

-- bytes don't begin with a head that is taken, whatever follows them
abbrev pub HasNoHead : List ℕ → Refusal → Type 0
HasNoHead bytes Bad = IsBroken (take head_limit bytes)
HasNoHead bytes (TooLarge len) = IsOpen (take head_limit bytes) × (head_limit ≤ length bytes) × (len ≡ head_limit)
HasNoHead bytes Unsupported = ⊥

-- bytes begin with a head that announces what is refused
pub record HasRefusedHead (bytes : List ℕ) (refusal : Refusal) : Type 0 where
  pub head : RequestHead
  pub rest : List ℕ
  pub begins : BeginsWith bytes head rest
  pub refused : body_length head ≡ Err refusal

-- bytes, which aren't the stream's end, are refused: for want of a head, for what it announces, or because they are cut short
pub record IsRefused (bytes : List ℕ) (refusal : Refusal) : Type 0 where
  pub goes_on : IsEnd bytes → ⊥
  pub cause : HasNoHead bytes refusal ⊎ (HasRefusedHead bytes refusal ⊎ ((refusal ≡ Bad) × IsUnfinished bytes))

-- bytes may be refused both as bad and as too large: they hold no end within the limit of a head, and in them are more fields than a
-- head may have, or the beginning of a target that no bytes can follow to make a head
pub record IsRefusedTwice (bytes : List ℕ) : Type 0 where
  pub full : head_limit ≤ length bytes
  pub partly : IsOpen (take head_limit bytes)
  pub corner : RequestExceeds field_limit (take head_limit bytes) ⊎ (EndsInTarget (take head_limit bytes) × NeverHasRequest (take head_limit bytes))

-- bytes begin with a request, are the end, or are refused
abbrev pub IsJudged : List ℕ → Type 0
IsJudged bytes = ((request : Request) × (rest : List ℕ) × IsRequest bytes request rest) ⊎ (IsEnd bytes ⊎ ((refusal : Refusal) × IsRefused bytes refusal))

-- Calls.

-- an input as it is read: what was read ahead, and then its source
pub record Input : Type 0 where
  pub ahead : Ahead
  pub source : SourceState

abbrev pub input_of : Ahead → SourceState → Input
input_of ahead source = record { ahead = ahead; source = source }

-- the rest of the input, where the source exposes it
abbrev pub rest_of : Input → Option (List ℕ)
rest_of input = prepend_known input.ahead.bytes input.source.left

-- how many bytes of the input were taken: those before the bytes ahead, and these
abbrev pub taken_of : Ahead → ℕ
taken_of ahead = ahead.at + length ahead.bytes

-- so much was read of a source, which was asked only if it had to be
pub record HasRead (old : SourceState) (read : List ℕ) (new : SourceState) (needed : Type 0) : Type 0 where
  pub consumed : Consumes old.left new.left read
  pub count : old.faults ≤ new.faults
  pub asked : ((read ≡ []) × (new ≡ old)) ⊎ needed

-- all that was left of a source was read, where it exposes that
abbrev pub HasReadAll : Option (List ℕ) → List ℕ → Type 0
HasReadAll left read = IfSome left (λ bytes. bytes ≡ read)

-- a call is to ask the source only where what stands ahead is unfinished
abbrev pub HasReadOn : Input → List ℕ → Input → Type 0
HasReadOn old read new = HasRead old.source read new.source (IsUnfinished old.ahead.bytes)

-- the request that stood first was taken, and what is ahead follows it
pub record TakesRequest (old : Input) (request : Request) (new : Input) : Type 0 where
  pub read : List ℕ
  pub has_read : HasReadOn old read new
  pub is_request : IsRequest (old.ahead.bytes ++ read) request new.ahead.bytes
  pub place : taken_of new.ahead ≡ taken_of old.ahead + length read
  pub moves : old.ahead.at < new.ahead.at
  pub within : taken_of new.ahead ≤ input_limit

-- only line ends were left, and all of the input is taken
pub record EndsInput (old new : Input) : Type 0 where
  pub read : List ℕ
  pub has_read : HasReadOn old read new
  pub blank : IsEnd (old.ahead.bytes ++ read)
  pub all : HasReadAll old.source.left read
  pub none_ahead : new.ahead.bytes ≡ []
  pub place : new.ahead.at ≡ taken_of old.ahead + length read
  pub within : new.ahead.at ≤ input_limit

-- what stands at the place of the next request is refused
abbrev pub IsRefusedAt : Input → ℕ → Refusal → Type 0
IsRefusedAt input at refusal = (at ≡ input.ahead.at) × IfSome (rest_of input) (λ bytes. IsRefused bytes refusal)

-- after `taken` bytes of an input as many were read as it may have, which are so, and one more
pub record IsPastLimit (taken : ℕ) (read : List ℕ) (IsSo : List ℕ → Type 0) : Type 0 where
  pub prefix : List ℕ
  pub extra : ℕ
  pub parts : read ≡ prefix ++ extra ∷ []
  pub full : taken + length prefix ≡ input_limit
  pub so : IsSo prefix

-- all that was read stands ahead
pub record StaysAhead (old : Ahead) (read : List ℕ) (new : Ahead) : Type 0 where
  pub bytes : new.bytes ≡ old.bytes ++ read
  pub at : new.at ≡ old.at

-- why a fault is answered after so much was read
abbrev pub HasWireCause : Input → List ℕ → Input → WireFault → Type 0
HasWireCause old read new (faults.BadRequest at) = IsRefusedAt old at Bad
HasWireCause old read new (faults.TooLarge at len) = IsRefusedAt old at (TooLarge len)
HasWireCause old read new (faults.Unsupported at) = IsRefusedAt old at Unsupported
HasWireCause old read new faults.ReadFault = Rose old.source.faults new.source.faults × IsUnfinished (old.ahead.bytes ++ read)
HasWireCause old read new faults.InputTooLong = IsPastLimit (taken_of old.ahead) read (λ prefix. IsUnfinished (old.ahead.bytes ++ prefix))
HasWireCause old read new faults.NoMemory = StaysAhead old.ahead read new.ahead

-- how many bytes of an input are taken at most where this is answered
abbrev pub most_taken : WireFault → ℕ
most_taken faults.InputTooLong = input_limit + 1
most_taken _ = input_limit

-- no request was taken, for this cause
pub record FailsWith (old : Input) (fault : WireFault) (new : Input) : Type 0 where
  pub read : List ℕ
  pub has_read : HasReadOn old read new
  pub within : taken_of old.ahead + length read ≤ most_taken fault
  pub cause : HasWireCause old read new fault

-- what a call for the next request answers
abbrev pub ReadsNext : Input → Result (Option Request) WireFault → Input → Type 0
ReadsNext old (Ok (Some request)) new = TakesRequest old request new
ReadsNext old (Ok None) new = EndsInput old new
ReadsNext old (Err fault) new = FailsWith old fault new

-- the fault that each later call answers; after want of memory reading goes on
abbrev pub over_after : {X : Type 0} → Result X WireFault → Option WireFault
over_after (Ok _) = None
over_after (Err faults.NoMemory) = None
over_after (Err fault) = Some fault

-- a refusal as the fault at its place
abbrev pub fault_at : ℕ → Refusal → WireFault
fault_at at Bad = faults.BadRequest at
fault_at at (TooLarge len) = faults.TooLarge at len
fault_at at Unsupported = faults.Unsupported at
