-- What `exec` answers: requests, by commands at seat 0.
use Rattle.std.specs.Prelude.{◌==◌}
use Rattle.http_wire.specs.Reply.{reply_text}
use Rattle.http_wire.specs.Stream as wire
use Rattle.http_wire.specs.declared.head.Refusal.{Refusal}
use Rattle.http_wire.specs.declared.head.Refusal.TheVariants as refusals
use Rattle.http_wire.specs.declared.reply.Reply.{Reply}
use Rattle.http_wire.specs.declared.request.Request.{Request}
use Rattle.http_wire.specs.declared.request.WireFault.{WireFault}
use Rattle.http_wire.specs.declared.request.WireFault.TheVariants as faults
use Rattle.queue_http.specs.Service as http
use Rattle.queue_cli.specs.declared.end.End.{End}
use Rattle.queue_cli.specs.declared.end.End.TheVariants.{BadInput, ReadFault, NoMemory, InputTooLong}
use Rattle.queue_cli.specs.Protocol.{Protocol}

abbrev pub requests : Protocol
requests = record {
  Item = Request;
  Reply = Reply;
  Refusal = Refusal;
  IsItem = wire.IsRequest;
  IsUnfinished = wire.IsUnfinished;
  IsEnd = wire.IsEnd;
  IsRefused = wire.IsRefused;
  refusal_end = BadInput;
  Answers = http.Answers 0;
  text = reply_text;
  is_fault = λ reply. reply.status == 503;
}

-- the end that a fault of the input is
abbrev pub fault_end : WireFault → End
fault_end (faults.BadRequest at) = BadInput at refusals.Bad
fault_end (faults.TooLarge at len) = BadInput at (refusals.TooLarge len)
fault_end (faults.Unsupported at) = BadInput at refusals.Unsupported
fault_end faults.ReadFault = ReadFault
fault_end faults.InputTooLong = InputTooLong
fault_end faults.NoMemory = NoMemory
