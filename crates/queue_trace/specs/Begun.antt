-- A command that is begun, or what is printed in its place.
use Rattle.std.specs.Prelude.{ℕ, List, Option, Result, Ok, Err}
use Rattle.job_states.specs.declared.command.Command.{Command}
use Rattle.situation_model.specs.Situations.{Doubt}
use Rattle.queue_engine.specs.Running.{Store, running}
use Rattle.trace_lines.specs.Printed.{printed_text}
use Rattle.trace_lines.specs.declared.printed.Printed.{Printed}
use Rattle.queue_http.specs.Service.{DiskState, service}
use Rattle.queue_trace.specs.Traced.{IsBegun, IsTurnedDown}

abbrev pub BeginsOr : (seat : ℕ) → Store → Command → (now : ℕ) → Result (Unit {0}) Printed → Store → Type 0
BeginsOr seat old command now (Ok done) new = (doubt : Doubt) → IsBegun seat (running old doubt) command now (running new doubt)
BeginsOr seat old command now (Err printed) new =
    (moments : Option (List ℕ)) (doubt : Doubt) (disk : DiskState)
    → IsTurnedDown seat (service (running old doubt) moments disk) command now (printed_text printed) (service (running new doubt) moments disk)
