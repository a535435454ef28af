-- Which bytes begin with a line of a trace, and what a call for the next line takes of its input.
use Rattle.std.specs.Prelude.{◌≡◌, ◌≢◌, ◌<◌, ◌≤◌, ◌⊎◌, ◌+◌, ℕ, Bool, true, false, ◌==◌, List, [], ◌∷◌, ◌++◌, length, take, IsFalse, Option, None, Some, IfSome, Result, Ok, Err}
use Rattle.std.specs.List.{list_any}
use Rattle.std.specs.Io.KnownBytes.{prepend_known}
use Rattle.sq_outside.specs.Fault.{Rose}
use Rattle.sq_outside.specs.Streams.{SourceState}
use Rattle.http_wire.specs.Limits.{input_limit}
use Rattle.http_wire.specs.Stream.{HasRead, HasReadAll, IsPastLimit}
use Rattle.trace_lines.specs.Lines.{line_of}
use Rattle.trace_lines.specs.Ranges.{IsFitLine}
use Rattle.trace_lines.specs.declared.line.Line.{Line}
use Rattle.trace_lines.specs.declared.input.InputFault.{InputFault}
use Rattle.trace_lines.specs.declared.input.InputFault.TheVariants as faults

-- ---- bytes

-- the most bytes of a line before its line feed
abbrev pub line_limit : ℕ
line_limit = 4096

abbrev pub is_feed : ℕ → Bool
is_feed b = b == 10

-- none of the bytes is a line feed
abbrev pub HasNoFeed : List ℕ → Type 0
HasNoFeed bytes = IsFalse (list_any is_feed bytes)

-- bytes are a text without a line feed, a line feed, and then rest
pub record BeginsWith (bytes text rest : List ℕ) : Type 0 where
  pub parts : bytes ≡ text ++ 10 ∷ rest
  pub whole : HasNoFeed text

-- bytes are this line, ended by a line feed, and then rest
pub record IsLine (bytes : List ℕ) (line : Line) (rest : List ℕ) : Type 0 where
  pub text : List ℕ
  pub begins : BeginsWith bytes text rest
  pub spells : line_of text ≡ Some line

-- no line has ended, and one still may
abbrev pub IsUnfinished : List ℕ → Type 0
IsUnfinished bytes = HasNoFeed bytes × (length bytes ≤ line_limit)

-- what stands before the first line feed is no line
pub record HasBadText (bytes : List ℕ) : Type 0 where
  pub text : List ℕ
  pub rest : List ℕ
  pub begins : BeginsWith bytes text rest
  pub spells : line_of text ≡ None

-- no line feed comes where the longest line has its own, or before
abbrev pub HasLongText : List ℕ → Type 0
HasLongText bytes = (line_limit < length bytes) × HasNoFeed (take (line_limit + 1) bytes)

-- bytes don't begin with a line, whatever follows them
abbrev pub IsBroken : List ℕ → Type 0
IsBroken bytes = HasBadText bytes ⊎ HasLongText bytes

-- bytes with which an input ends don't begin with a line: also where they are a line that isn't ended
abbrev pub IsBad : List ℕ → Type 0
IsBad bytes = IsBroken bytes ⊎ (IsUnfinished bytes × (bytes ≢ []))

-- bytes with which an input ends are none, begin with a line, or are bad
abbrev pub IsJudged : List ℕ → Type 0
IsJudged bytes = (bytes ≡ []) ⊎ (((line : Line) × (rest : List ℕ) × IsLine bytes line rest) ⊎ IsBad bytes)

-- ---- calls

-- bytes that were read and not yet used, and the place of the first of them in the input
pub record Ahead : Type 0 where
  pub bytes : List ℕ
  pub at : ℕ

-- an input as it is read: what was read ahead, and then its source
pub record Input : Type 0 where
  pub ahead : Ahead
  pub source : SourceState

abbrev pub input_of : Ahead → SourceState → Input
input_of ahead source = record { ahead = ahead; source = source }

-- the rest of the input, where the source exposes it
abbrev pub rest_of : Input → Option (List ℕ)
rest_of input = prepend_known input.ahead.bytes input.source.left

-- how many bytes of the input were taken: those before the bytes ahead, and these
abbrev pub taken_of : Ahead → ℕ
taken_of ahead = ahead.at + length ahead.bytes

-- a call is to ask the source only where what stands ahead is unfinished
abbrev pub HasReadOn : Input → List ℕ → Input → Type 0
HasReadOn old read new = HasRead old.source read new.source (IsUnfinished old.ahead.bytes)

-- the line that stood first was taken, and what is ahead follows it
pub record TakesLine (old : Input) (line : Line) (new : Input) : Type 0 where
  pub read : List ℕ
  pub has_read : HasReadOn old read new
  pub is_line : IsLine (old.ahead.bytes ++ read) line new.ahead.bytes
  pub fit : IsFitLine line
  pub place : taken_of new.ahead ≡ taken_of old.ahead + length read
  pub moves : old.ahead.at < new.ahead.at
  pub within : taken_of new.ahead ≤ input_limit

-- nothing was left
pub record EndsInput (old new : Input) : Type 0 where
  pub has_read : HasReadOn old [] new
  pub none_ahead : old.ahead.bytes ≡ []
  pub all : HasReadAll old.source.left []
  pub same : new.ahead ≡ old.ahead
  pub within : taken_of old.ahead ≤ input_limit

-- what stands at the place of the next line is bad
abbrev pub IsBadAt : Input → ℕ → Type 0
IsBadAt input at = (at ≡ input.ahead.at) × IfSome (rest_of input) IsBad

-- all that was read stands ahead
pub record StaysAhead (old : Ahead) (read : List ℕ) (new : Ahead) : Type 0 where
  pub bytes : new.bytes ≡ old.bytes ++ read
  pub at : new.at ≡ old.at

-- why a fault is answered after so much was read
abbrev pub HasInputCause : Input → List ℕ → Input → InputFault → Type 0
HasInputCause old read new (faults.BadLine at) = IsBadAt old at
HasInputCause old read new faults.ReadFault = Rose old.source.faults new.source.faults × IsUnfinished (old.ahead.bytes ++ read)
HasInputCause old read new faults.InputTooLong = IsPastLimit (taken_of old.ahead) read (λ prefix. IsUnfinished (old.ahead.bytes ++ prefix))
HasInputCause old read new faults.NoMemory = StaysAhead old.ahead read new.ahead

-- how many bytes of an input are taken at most where this is answered
abbrev pub most_taken : InputFault → ℕ
most_taken faults.InputTooLong = input_limit + 1
most_taken _ = input_limit

-- no line was taken, for this cause
pub record FailsWith (old : Input) (fault : InputFault) (new : Input) : Type 0 where
  pub read : List ℕ
  pub has_read : HasReadOn old read new
  pub within : taken_of old.ahead + length read ≤ most_taken fault
  pub cause : HasInputCause old read new fault

-- what a call for the next line answers
abbrev pub ReadsNext : Input → Result (Option Line) InputFault → Input → Type 0
ReadsNext old (Ok (Some line)) new = TakesLine old line new
ReadsNext old (Ok None) new = EndsInput old new
ReadsNext old (Err fault) new = FailsWith old fault new

-- ---- its steps

-- the line that stands first ahead was taken
pub record TakesAhead (old : Ahead) (line : Line) (new : Ahead) : Type 0 where
  pub is_line : IsLine old.bytes line new.bytes
  pub fit : IsFitLine line
  pub place : taken_of new ≡ taken_of old
  pub moves : old.at < new.at

-- what a look at the bytes ahead answers
abbrev pub LooksAhead : Ahead → Result (Option Line) InputFault → Ahead → Type 0
LooksAhead old (Ok (Some line)) new = TakesAhead old line new
LooksAhead old (Ok None) new = (new ≡ old) × IsUnfinished old.bytes
LooksAhead old (Err (faults.BadLine at)) new = (at ≡ old.at) × IsBroken old.bytes
LooksAhead old (Err faults.NoMemory) new = new ≡ old
LooksAhead old (Err _) new = ⊥

-- so much was read, and all of it stands ahead
pub record ReadsAhead (old : Input) (read : List ℕ) (new : Input) : Type 0 where
  pub has_read : HasReadOn old read new
  pub stays : StaysAhead old.ahead read new.ahead

-- more was read ahead, or the source is at its end
pub record ReadsOn (old : Input) (more : Bool) (new : Input) : Type 0 where
  pub read : List ℕ
  pub reads : ReadsAhead old read new
  pub within : taken_of new.ahead ≤ input_limit
  pub some : more ≡ true → 0 < length read
  pub none : more ≡ false → (read ≡ []) × HasReadAll old.source.left []

-- where the source is at its end, so is the input, or its last line isn't ended
abbrev pub EndsAhead : Ahead → Result (Option Line) InputFault → Type 0
EndsAhead ahead (Ok None) = ahead.bytes ≡ []
EndsAhead ahead (Err fault) = (ahead.bytes ≢ []) × (fault ≡ faults.BadLine ahead.at)
EndsAhead ahead (Ok (Some _)) = ⊥
