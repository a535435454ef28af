use Rattle.std.proofs.lemmas.Result.{err_from_is_err_and}
use Rattle.trace_lines.specs.Input.{input_of}
use Rattle.trace_lines.proofs.InputSteps.{fails_then, look_on, look_fails, end_answers}
use Rattle.trace_lines.proofs.input.Lines.next.Goals as goal

pub returns-in_err-line : goal.returns-in_err-line
returns-in_err-line g c =
    let old = input_of c.args.self.now (g.S.Source.source_state c.args.source.now) in
    let before = g.S.Source.source_state c.pieces.source in
    let p = err_from_is_err_and c.from_residual.result c.from_residual.ensures.1 in
    rw (p.1, p.2) (look_fails old c.pieces.self c.line_ahead.new.self before c.pieces.invariant.0 _ c.pieces.invariant.1
    c.in_err-line.ensures.within c.in_err-line.ensures.answer)

pub returns-in_err-read_on : goal.returns-in_err-read_on
returns-in_err-read_on g c =
    let old = input_of c.args.self.now (g.S.Source.source_state c.args.source.now) in
    let before = g.S.Source.source_state c.pieces.source in
    let mid = input_of c.line_ahead.new.self before in
    let new = input_of c.read_on.new.self (g.S.Source.source_state c.read_on.new.source) in
    let xs = c.pieces.invariant.0 in
    let on = look_on old c.pieces.self c.line_ahead.new.self before xs c.pieces.invariant.1 (rw c.in_default.is at c.in_ok-line.ensures.answer) in
    let p = err_from_is_err_and c.from_residual-in_err-read_on.result c.from_residual-in_err-read_on.ensures.1 in
    rw (p.1, p.2) (fails_then old mid new xs _ on.0 c.in_err-read_on.ensures.fault)

pub returns-then-not-branch : goal.returns-then-not-branch
returns-then-not-branch g c =
    let old = input_of c.args.self.now (g.S.Source.source_state c.args.source.now) in
    let before = g.S.Source.source_state c.pieces.source in
    let mid = input_of c.line_ahead.new.self before in
    let new = input_of c.read_on.new.self (g.S.Source.source_state c.read_on.new.source) in
    let xs = c.pieces.invariant.0 in
    let on = look_on old c.pieces.self c.line_ahead.new.self before xs c.pieces.invariant.1 (rw c.in_default.is at c.in_ok-line.ensures.answer) in
    end_answers old mid new xs c.end_ahead.result on.0 on.1 (rw c.if-not-branch.true at c.in_ok-read_on.ensures.read) c.end_ahead.ensures
