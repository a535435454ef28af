-- A stream in memory as contracts see it.
use Rattle.std.specs.Prelude.{ℕ, List, Contains}
use Rattle.sq_outside.specs.Fault.{raised}

pub record MemoryStream : Type 0 where
  -- what is left of a source, what was written to a sink
  pub bytes : List ℕ
  -- the numbers of the calls that fail, counted from 1
  pub fail : List ℕ
  -- how many calls were made, and how many of them failed, each up to the greatest u64
  pub calls : ℕ
  pub faults : ℕ

-- with no call made yet
abbrev pub untouched : List ℕ → List ℕ → MemoryStream
untouched bytes fail = record { bytes = bytes; fail = fail; calls = 0; faults = 0 }

-- after a call that leaves these bytes
abbrev pub called : MemoryStream → List ℕ → MemoryStream
called s bytes = record s { bytes = bytes; calls = raised s.calls }

-- after a call that failed
abbrev pub failed : MemoryStream → MemoryStream
failed s = record s { calls = raised s.calls; faults = raised s.faults }

-- the next call is one of those that fail
abbrev pub FailsNext : MemoryStream → Type 0
FailsNext s = Contains s.fail (raised s.calls)
