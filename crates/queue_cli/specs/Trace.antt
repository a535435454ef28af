-- What `trace` answers: the lines of a trace, and what is printed for each.
use Rattle.std.specs.Prelude.{◌≡◌, List, [], ℕ}
use Rattle.std.specs.Str.{bytes_eq}
use Rattle.trace_lines.specs.Input as input
use Rattle.trace_lines.specs.Printed.{printed_text}
use Rattle.trace_lines.specs.declared.input.InputFault.{InputFault}
use Rattle.trace_lines.specs.declared.input.InputFault.TheVariants as faults
use Rattle.trace_lines.specs.declared.line.Line.{Line}
use Rattle.trace_lines.specs.declared.printed.Printed.TheVariants as printed
use Rattle.queue_trace.specs.Traced.{Performs}
use Rattle.queue_cli.specs.declared.end.End.{End}
use Rattle.queue_cli.specs.declared.end.End.TheVariants.{BadLine, ReadFault, NoMemory, InputTooLong}
use Rattle.queue_cli.specs.LastText.{printed_line}
use Rattle.queue_cli.specs.Protocol.{Protocol}

abbrev pub lines : Protocol
lines = record {
  Item = Line;
  -- what is printed, without its line feed
  Reply = List ℕ;
  Refusal = Unit {0};
  IsItem = input.IsLine;
  IsUnfinished = input.IsUnfinished;
  IsEnd = λ bytes. bytes ≡ [];
  IsRefused = λ bytes bad. input.IsBad bytes;
  refusal_end = λ at bad. BadLine at;
  Answers = Performs;
  text = printed_line;
  is_fault = λ text. bytes_eq text (printed_text printed.DiskFault);
}

-- the end that a fault of the input is
abbrev pub input_end : InputFault → End
input_end (faults.BadLine at) = BadLine at
input_end faults.ReadFault = ReadFault
input_end faults.InputTooLong = InputTooLong
input_end faults.NoMemory = NoMemory
