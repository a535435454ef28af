use Rattle.std.proofs.Common.{refl, sym, subst, List, ℕ}
use Rattle.std.proofs.lemmas.Result.{err_from_is_err_and}
use Rattle.http_wire.specs.Stream.{input_of, TakesRequest}
use Rattle.http_wire.proofs.StepLemmas.{fails_then, takes_request}
use Rattle.http_wire.proofs.carry.Carry.read_on.Goals as goal

pub returns-in_err-body : goal.returns-in_err-body
returns-in_err-body g c =
    let heads = rw c.in-Some.is at c.in_ok-head.ensures in
    let p = err_from_is_err_and c.from_residual-in_err-body.result c.from_residual-in_err-body.ensures.1 in
    rw (p.1, p.2) (fails_then (input_of c.args.self.now (g.S.Source.source_state c.args.source.now)) (input_of c.next_head.new.self (g.S.Source.source_state c.next_head.new.source)) (input_of c.take_body.new.self (g.S.Source.source_state c.take_body.new.source))
    heads.read _ heads.reads c.in_err-body.ensures.fault)

pub returns : goal.returns
returns g c =
    let P : List ℕ → Type 0 = λ body. TakesRequest (input_of c.args.self.now (g.S.Source.source_state c.args.source.now))
    (record { method = c.in-Some.head.method; path = c.in-Some.head.path; query = c.in-Some.head.query; body = body }) (input_of c.take_body.new.self (g.S.Source.source_state c.take_body.new.source)) in
    subst P (sym c.of.ensures)
    (takes_request (input_of c.args.self.now (g.S.Source.source_state c.args.source.now)) (input_of c.next_head.new.self (g.S.Source.source_state c.next_head.new.source)) (input_of c.take_body.new.self (g.S.Source.source_state c.take_body.new.source))
    c.in-Some.head (record { method = c.in-Some.head.method; path = c.in-Some.head.path; query = c.in-Some.head.query; body = c.in_ok-body.body.items }) (rw c.in-Some.is at c.in_ok-head.ensures) c.in_ok-body.ensures.body refl refl refl)
