-- What a run works on.
use Rattle.std.specs.Prelude.{ℕ, List, Option}
use Rattle.sq_outside.specs.Streams.{SourceState, SinkState}
use Rattle.queue_http.specs.Service.{DiskState}

-- the settings' source, the input, the output, the disk, and the moments that the clock will give, where it exposes them
pub record Outside : Type 0 where
  pub settings : SourceState
  pub input : SourceState
  pub output : SinkState
  pub disk : DiskState
  pub moments : Option (List ℕ)

abbrev pub outside : SourceState → SourceState → SinkState → DiskState → Option (List ℕ) → Outside
outside settings input output disk moments = record { settings = settings; input = input; output = output; disk = disk; moments = moments }
