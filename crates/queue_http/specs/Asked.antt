-- What a request asks of the engine.
use Rattle.std.specs.Prelude.{if◌then◌else◌, IsTrue}
use Rattle.job_states.specs.declared.command.Command.{Command as Commanded}
use Rattle.http_wire.specs.Reply.{is_reply_status}
use Rattle.http_wire.specs.declared.reply.Reply.{Reply}
use Rattle.http_wire.specs.declared.request.Request.{Request}
use Rattle.queue_engine.specs.Built.{is_built}
use Rattle.queue_http.specs.declared.asked.Asked.{Asked}
use Rattle.queue_http.specs.declared.asked.Asked.TheVariants.{Command, Known}
use Rattle.queue_replies.specs.Faults.{envelope_fault, missing, not_built, not_json, wrong_kind}
use Rattle.queue_routes.specs.Ask.{IsFit, ask_of}
use Rattle.queue_routes.specs.Bodies.{member_name}
use Rattle.queue_routes.specs.declared.ask.Ask.{Ask}
use Rattle.queue_routes.specs.declared.ask.Ask.TheVariants as ask
use Rattle.queue_routes.specs.declared.fault.BodyFault.{BodyFault}
use Rattle.queue_routes.specs.declared.fault.BodyFault.TheVariants as fault

-- the reply to a body with a fault
abbrev pub body_refused : BodyFault → Reply
body_refused fault.NotJson = not_json
body_refused (fault.Missing m) = missing (member_name m)
body_refused (fault.WrongKind m) = wrong_kind (member_name m)
body_refused (fault.Envelope index f) = envelope_fault index f

-- a command that can be begun so far, or the reply that is known already
abbrev pub asked_by : Ask → Asked
asked_by (ask.Command command) = if is_built command then Command command else Known not_built
asked_by ask.NotBuilt = Known not_built
asked_by (ask.Refused fault) = Known (body_refused fault)

abbrev pub asked_of : Request → Asked
asked_of request = asked_by (ask_of request)

-- the command can be begun, and what it brings is within the ranges of requests
pub record IsAskable (command : Commanded) : Type 0 where
  pub built : IsTrue (is_built command)
  pub fit : IsFit command

-- and a reply that is known has a status of a reply
abbrev pub IsSound : Asked → Type 0
IsSound (Command command) = IsAskable command
IsSound (Known reply) = IsTrue (is_reply_status reply.status)
