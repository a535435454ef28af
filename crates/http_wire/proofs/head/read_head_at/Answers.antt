use Rattle.std.proofs.Common.{refl, arith, drop, ◌∙◌, ap, sym}
use Rattle.std.proofs.lemmas.Result.{err_from_is_err_and}
use Rattle.http_wire.proofs.HeadLemmas.{begins_with, head_of, refused_head, fault_of_head}
use Rattle.http_wire.specs.Head.{path_of, query_of}
use Rattle.http_wire.proofs.head.read_head_at.Goals as goal

pub returns-in_ok-method_of-in-Ok-Complete-clause-head : goal.returns-in_ok-method_of-in-Ok-Complete-clause-head
returns-in_ok-method_of-in-Ok-Complete-clause-head c =
    let told = rw c.in-Ok-Complete.field-0-is at c.in-Ok-Complete.ensures in
    head_of c.args.prefix.now c.parse_request.new.headers c.in-Ok-Complete.found told.complete told.within
    (omega (arith, c.parse_request.auto.headers)) c.requires _ refl (sym (rw c.of-target.ensures at c.in-Ok.ensures))
    (c.in_ok-method_of-in-Ok-Complete.ensures ∙ c.of.ensures)
    (c.in_ok-path-in-Ok-Complete.ensures.path ∙ ap path_of c.of-target.ensures)
    (c.in_ok-path-in-Ok-Complete.ensures.query ∙ ap query_of c.of-target.ensures)

pub returns-in-Err-body_length-clause-fault : goal.returns-in-Err-body_length-clause-fault
returns-in-Err-body_length-clause-fault c =
    let told = rw c.in-Ok-Complete.field-0-is at c.in-Ok-Complete.ensures in
    rw c.at.ensures (fault_of_head c.args.at c.args.prefix.now c.in-Err-body_length.refusal
    (refused_head c.args.prefix.now c.parse_request.new.headers c.in-Ok-Complete.found told.complete told.within
    (omega (arith, c.parse_request.auto.headers)) c.requires _ (rw c.of-target.ensures at c.in-Err-body_length.ensures)))

pub returns-in_err-method_of-in-Ok-Complete-clause-fault : goal.returns-in_err-method_of-in-Ok-Complete-clause-fault
returns-in_err-method_of-in-Ok-Complete-clause-fault c =
    let p = err_from_is_err_and c.from_residual-in_err-method_of-in-Ok-Complete.result c.from_residual-in_err-method_of-in-Ok-Complete.ensures.1 in
    let found = rw c.in-Ok-Complete.field-0-is at c.in-Ok-Complete.ensures in
    rw (p.1, p.2) (record {
      head = found.complete.0;
      rest = drop c.in-Ok-Complete.found.len c.args.prefix.now;
      begins = begins_with c.args.prefix.now c.parse_request.new.headers c.in-Ok-Complete.found found.complete.0 found.complete.1 found.within (omega (arith, c.parse_request.auto.headers)) c.requires;
    })
