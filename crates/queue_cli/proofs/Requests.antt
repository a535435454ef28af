-- Requests as the items of an input.
use Rattle.std.proofs.Common.{◌≡◌, ◌==◌, ◌+◌, ◌≤◌, ℕ, true, List, ◌++◌, length, Option, ap, sym, ◌∙◌, arith, append_assoc}
use Rattle.std.proofs.lemmas.Bool.Decides.{nat_tests}
use Rattle.sq_outside.specs.Fault.{Rose}
use Rattle.sq_outside.specs.Streams.{SourceState}
use Rattle.http_wire.specs.Ahead as wire
use Rattle.http_wire.specs.Stream.{input_of, taken_of, EndsInput, FailsWith, HasRead, HasReadOn, IsRefusedAt, IsRequest, TakesRequest}
use Rattle.http_wire.specs.declared.head.Refusal.{Refusal}
use Rattle.http_wire.specs.declared.head.Refusal.TheVariants as refusals
use Rattle.http_wire.specs.declared.reply.Reply.{Reply}
use Rattle.http_wire.specs.declared.request.Request.{Request}
use Rattle.http_wire.specs.declared.request.WireFault.{WireFault}
use Rattle.http_wire.specs.declared.request.WireFault.TheVariants as faults
use Rattle.http_wire.proofs.StreamLaws.{one_request, request_goes_on, request_not_refused, request_more}
use Rattle.queue_engine.specs.Running.{Store, running}
use Rattle.queue_engine.specs.Standing.{StandsOn}
use Rattle.queue_http.specs.Service.{Answers, DiskState, ServesFrom, Service, service}
use Rattle.queue_http.specs.Steps.{MayTakeSteps}
use Rattle.queue_model.specs.GoodWorld.{IsGood}
use Rattle.situation_model.specs.Situations.{Doubt}
use Rattle.queue_cli.specs.Answering.{Exchange}
use Rattle.queue_cli.specs.declared.end.End.TheVariants.{Done, BadInput}
use Rattle.queue_cli.specs.Exec.{fault_end, requests}
use Rattle.queue_cli.proofs.Items.{IsReadOneWay}
use Rattle.queue_cli.proofs.Leaving.{AreReplays, leaves_on}
use Rattle.queue_cli.proofs.Serving.{Ahead, ExchangedOn, IsSound, Reads, TakesItem, TakesNone, exchanged_on}

-- ---- how they are read

request_first : (bytes : List ℕ) (request : Request) (rest : List ℕ) → IsRequest bytes request rest → (first : List ℕ) × (bytes ≡ first ++ rest)
request_first bytes request rest is = regrouped bytes _ request.body rest is.begins.reads.1
  where
    regrouped : (bytes head body rest : List ℕ) → bytes ≡ head ++ (body ++ rest) → (first : List ℕ) × (bytes ≡ first ++ rest)
    regrouped bytes head body rest same = (head ++ body, same ∙ sym (append_assoc head body rest))

pub requests_one_way : IsReadOneWay requests
requests_one_way = record {
  longer = request_more;
  first = request_first;
  one = one_request;
  goes_on = request_goes_on;
  taken = request_not_refused;
  over = λ bytes why end refused. refused.goes_on end;
}

abbrev pub ahead_of : wire.Ahead → Ahead
ahead_of ahead = record { bytes = ahead.bytes; at = ahead.at }

has_read : (old : SourceState) (read : List ℕ) (new : SourceState) (needed : Type 0) → HasRead old read new needed → Reads old read new
has_read old read new needed has = record { consumed = has.consumed; count = has.count }

module _ (ahead ahead' : wire.Ahead) (old new : SourceState) where
  pub takes_request : (request : Request) → TakesRequest (input_of ahead old) request (input_of ahead' new) → TakesItem requests (ahead_of ahead) old request (ahead_of ahead') new
  takes_request request takes = record { read = takes.read; reads = has_read _ _ _ _ takes.has_read; is_item = takes.is_request; place = takes.place; within = takes.within }

  pub takes_end : EndsInput (input_of ahead old) (input_of ahead' new) → TakesNone requests (ahead_of ahead) old Done new
  takes_end ends = record { read = ends.read; reads = has_read _ _ _ _ ends.has_read; within = omega (arith, ends.place, ends.within); cause = (ends.blank, ends.all) }

  refused : (refusal : Refusal) (at : ℕ) (read : List ℕ) → HasReadOn (input_of ahead old) read (input_of ahead' new) → taken_of ahead + length read ≤ 1073741824 → IsRefusedAt (input_of ahead old) at refusal
      → TakesNone requests (ahead_of ahead) old (BadInput at refusal) new
  refused refusal at read has within is = record {
    read = read;
    reads = has_read _ _ _ _ has;
    within = within;
    cause = record { refusal = refusal; end_is = ap (λ at. BadInput at refusal) is.0; refused = is.1 };
  }

  pub takes_none : (fault : WireFault) → FailsWith (input_of ahead old) fault (input_of ahead' new) → TakesNone requests (ahead_of ahead) old (fault_end fault) new
  takes_none (faults.BadRequest at) fails = refused refusals.Bad at fails.read fails.has_read fails.within fails.cause
  takes_none (faults.TooLarge at len) fails = refused (refusals.TooLarge len) at fails.read fails.has_read fails.within fails.cause
  takes_none (faults.Unsupported at) fails = refused refusals.Unsupported at fails.read fails.has_read fails.within fails.cause
  takes_none faults.ReadFault fails = record { read = fails.read; reads = has_read _ _ _ _ fails.has_read; within = fails.within; cause = fails.cause }
  takes_none faults.InputTooLong fails = record { read = fails.read; reads = has_read _ _ _ _ fails.has_read; within = fails.within; cause = fails.cause }
  takes_none faults.NoMemory fails = record { read = fails.read; reads = has_read _ _ _ _ fails.has_read; within = fails.within; cause = tt }

-- ---- how they are answered

-- what an answer does to the store and the disk, and which of them are 503

abbrev pub AreSteps : Type 0
AreSteps = (seat : ℕ) (old new : Service) (request : Request) (reply : Reply) → Answers seat old request reply new → MayTakeSteps old new

abbrev pub AreFaults : Type 0
AreFaults = (seat : ℕ) (old new : Service) (request : Request) (reply : Reply) → Answers seat old request reply new → reply.status ≡ 503 → Rose old.disk.faults new.disk.faults

requests_sound : AreReplays → AreSteps → AreFaults → IsSound requests
requests_sound replays steps faults = record {
  leaves = λ first old new request reply answers so_far. leaves_on replays first old new so_far (steps 0 old new request reply answers);
  faults = λ old new request reply answers fault. faults 0 old new request reply answers (status_is reply.status fault);
}
  where
    status_is : (status : ℕ) → (status == 503) ≡ true → status ≡ 503
    status_is status is = grind (arith, nat_tests, is)

-- a request is answered over an engine that stands on the disk
pub request_exchanged : AreReplays → AreSteps → AreFaults → (engine : Store) (doubt : Doubt) (moments : Option (List ℕ)) (disk : DiskState) (exchange : Exchange requests) (engine' : Store) (moments' : Option (List ℕ)) (disk' : DiskState)
    → ServesFrom 0 engine moments disk exchange.item exchange.reply engine' moments' disk' → StandsOn engine doubt disk.history → IsGood engine'.book.world → disk.faults ≤ disk'.faults
    → ExchangedOn requests (service (running engine doubt) moments disk) exchange engine' moments' disk'
request_exchanged replays steps faults engine doubt moments disk exchange engine' moments' disk' serves stands good later =
    let served = serves doubt stands in
    exchanged_on requests (requests_sound replays steps faults) (service (running engine doubt) moments disk) exchange engine' served.doubt moments' disk' served.answers served.stands good later
