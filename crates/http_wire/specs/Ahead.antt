use Rattle.std.specs.Prelude.{ℕ, List, Option}
use Rattle.http_wire.specs.declared.request.WireFault.{WireFault}

-- bytes that were read and not yet used, the place of the first of them in the stream, and the fault that ended the stream
pub record Ahead : Type 0 where
  pub bytes : List ℕ
  pub at : ℕ
  pub over : Option WireFault
