use Rattle.std.proofs.Common.{◌≡◌, None, true, false, is_err, ◌∙◌, ap, sym, subst, refl, arith}
use Rattle.http_wire.specs.Ahead as wire
use Rattle.queue_http.specs.Service.{disk_state}
use Rattle.queue_cli.specs.Answering.{Exchange}
use Rattle.queue_cli.specs.declared.end.End.{End}
use Rattle.queue_cli.specs.Exec.{requests}
use Rattle.queue_cli.specs.LastText.{Reports}
use Rattle.queue_cli.proofs.Ends.{err_known, if_none, ok_known}
use Rattle.queue_cli.proofs.Requests.{request_exchanged, requests_one_way, takes_end, takes_none, takes_request}
use Rattle.queue_cli.proofs.Serving.{at_start, done_on, ends_on, unwritten_on, written_on}
use Rattle.queue_cli.proofs.exec.exec.Goals as goal

pub requests-init : goal.requests-init
requests-init g c =
    let first = ap (λ (ahead : wire.Ahead). ahead.at) c.new-carry.ensures in
    record {
      within = omega (arith, first);
      goes_on = ap (λ (ahead : wire.Ahead). ahead.over) c.new-carry.ensures;
      idle = c.requires.idle;
      on = record {
        doubt = None;
        stands = c.requires.standing;
        serving = at_start requests _ _ (ap (λ (ahead : wire.Ahead). ahead.bytes) c.new-carry.ensures) first c.requires.standing.kept;
      };
    }

pub answer-reply-requires-clause-standing : goal.answer-reply-requires-clause-standing
answer-reply-requires-clause-standing g c = (c.requests.invariant.on.doubt, c.requests.invariant.on.stands)

pub returns-then-is_err : goal.returns-then-is_err
returns-then-is_err g c =
    let on = c.requests.invariant.on in
    let exchange : Exchange requests = record { item = c.in-Ok-Some.request; reply = c.answer-reply.result } in
    let old = disk_state (g.D.Disk.history c.requests.disk) (g.D.Disk.faults c.requests.disk) in
    let new = disk_state (g.D.Disk.history c.answer-reply.new.disk) (g.D.Disk.faults c.answer-reply.new.disk) in
    let next = request_exchanged c.worlds_are_replays.ensures c.answers_are_steps.ensures c.only_faults_are_503.ensures
    c.requests.engine on.doubt (g.C.Clock.moments c.requests.clock) old exchange c.answer-reply.new.engine (g.C.Clock.moments c.answer-reply.new.clock) new
    c.answer-reply.ensures.serves on.stands c.answer-reply.ensures.good.situation.book.world c.answer-reply.ensures.faults in
    let takes = if_none c.requests.carry.over _ c.requests.invariant.goes_on (rw c.in-Ok-Some.field-0-is at c.in-Ok-Some.ensures.answer) in
    let err : is_err c.write_reply.result ≡ true = sym c.is_err.ensures.value ∙ c.if-is_err.true in
    unwritten_on requests requests_one_way _ _ _ _ _ _ _ _ _ on exchange _ _ _ _ (takes_request _ _ _ _ _ takes) next
    (err_known c.write_reply.result _ err c.write_reply.ensures.prefix) (err_known c.write_reply.result _ err c.write_reply.ensures.cause)

pub requests-preserved : goal.requests-preserved
requests-preserved g c =
    let on = c.requests.invariant.on in
    let exchange : Exchange requests = record { item = c.in-Ok-Some.request; reply = c.answer-reply.result } in
    let old = disk_state (g.D.Disk.history c.requests.disk) (g.D.Disk.faults c.requests.disk) in
    let new = disk_state (g.D.Disk.history c.answer-reply.new.disk) (g.D.Disk.faults c.answer-reply.new.disk) in
    let next = request_exchanged c.worlds_are_replays.ensures c.answers_are_steps.ensures c.only_faults_are_503.ensures
    c.requests.engine on.doubt (g.C.Clock.moments c.requests.clock) old exchange c.answer-reply.new.engine (g.C.Clock.moments c.answer-reply.new.clock) new
    c.answer-reply.ensures.serves on.stands c.answer-reply.ensures.good.situation.book.world c.answer-reply.ensures.faults in
    let takes = if_none c.requests.carry.over _ c.requests.invariant.goes_on (rw c.in-Ok-Some.field-0-is at c.in-Ok-Some.ensures.answer) in
    let ok : is_err c.write_reply.result ≡ false = sym c.is_err.ensures.value ∙ c.if-is_err.false in
    record {
      within = (let within = takes.within in omega (arith, within));
      goes_on = if_none c.requests.carry.over _ c.requests.invariant.goes_on c.in-Ok-Some.ensures.then;
      idle = c.answer-reply.ensures.idle;
      on = written_on requests requests_one_way _ _ _ _ _ _ _ _ _ on exchange _ _ _ _ (takes_request _ _ _ _ _ takes) next
          (ok_known c.write_reply.result _ ok c.write_reply.ensures.whole) c.write_reply.ensures.count;
    }

pub returns-in-Ok-None : goal.returns-in-Ok-None
returns-in-Ok-None g c =
    let over = if_none c.requests.carry.over _ c.requests.invariant.goes_on (rw c.in-Ok-None.field-0-is at c.in-Ok-None.ensures.answer) in
    done_on requests requests_one_way _ _ _ _ _ _ _ _ _ c.requests.invariant.on (takes_end _ _ _ _ over) refl

pub returns-in-Err : goal.returns-in-Err
returns-in-Err g c =
    let fails = if_none c.requests.carry.over _ c.requests.invariant.goes_on c.in-Err.ensures.answer in
    let P : End → Type 0 = λ end. Reports (g.K.Sink.sink_state c.requests.output) (g.K.Sink.sink_state c.report.new.output) end c.report.result in
    ends_on requests requests_one_way _ _ _ _ _ _ _ _ _ c.requests.invariant.on c.report.result _ (takes_none _ _ _ _ c.in-Err.fault fails) (subst P c.of_fault.ensures c.report.ensures.reports)
