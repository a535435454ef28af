use Rattle.std.proofs.Common.{◌<◌, ◌≤◌, ◌++◌, length, ap, ◌∙◌, arith}
use Rattle.std.proofs.lemmas.Result.{err_from_is_err_and}
use Rattle.http_wire.specs.Stream.{input_of, taken_of}
use Rattle.http_wire.proofs.PrefixLemmas.{head_whole}
use Rattle.http_wire.proofs.StepLemmas.{ahead_then, fails_then, finds_then, head_fails, partly_ahead, unfinished}
use Rattle.http_wire.proofs.carry.Carry.next_head.Goals as goal

pub returns-in_err-head : goal.returns-in_err-head
returns-in_err-head g c =
    let now = c.lines.self in
    let source = g.S.Source.source_state c.lines.source in
    let within : taken_of now ≤ 1073741824 = omega (arith, ap taken_of c.self.view_is, c.self.invariant) in
    let p = err_from_is_err_and c.from_residual.result c.from_residual.ensures.1 in
    rw (p.1, p.2) (fails_then (input_of c.args.self.now (g.S.Source.source_state c.args.source.now)) (input_of now source) (input_of now source) c.lines.invariant.0 _ c.lines.invariant.1
    (head_fails now source _ within c.in_err-head.ensures.fault.0 c.in_err-head.ensures.fault.1))

pub returns-in-Some : goal.returns-in-Some
returns-in-Some g c = record {
  read = c.lines.invariant.0;
  reads = c.lines.invariant.1;
  found = head_whole 16384 c.lines.self.bytes c.in-Some.head (rw c.in-Some.is at c.in_ok-head.ensures.head);
}

pub returns-then-as_slice-ge-MAX_HEAD : goal.returns-then-as_slice-ge-MAX_HEAD
returns-then-as_slice-ge-MAX_HEAD g c =
    finds_then (input_of c.args.self.now (g.S.Source.source_state c.args.source.now)) (input_of c.lines.self (g.S.Source.source_state c.lines.source)) (input_of c.end_in_full.new.self (g.S.Source.source_state c.end_in_full.new.source))
    c.lines.invariant.0 c.end_in_full.result c.lines.invariant.1 c.end_in_full.ensures

pub read_on_for_head-requires-clause-partly : goal.read_on_for_head-requires-clause-partly
read_on_for_head-requires-clause-partly g c =
    let now = c.lines.self in
    let short : length now.bytes < 16384 = omega (arith, ap length (c.as_slice.ensures ∙ ap (λ ahead. ahead.bytes) c.self.view_is), c.if-as_slice-ge-MAX_HEAD.false) in
    unfinished now.bytes (partly_ahead now.bytes (rw c.in_default.is at c.in_ok-head.ensures.none) short)

pub returns-in_err-pause : goal.returns-in_err-pause
returns-in_err-pause g c =
    let p = err_from_is_err_and c.from_residual-in_err-pause.result c.from_residual-in_err-pause.ensures.1 in
    rw (p.1, p.2) (fails_then (input_of c.args.self.now (g.S.Source.source_state c.args.source.now)) (input_of c.lines.self (g.S.Source.source_state c.lines.source)) (input_of c.read_on_for_head.new.self (g.S.Source.source_state c.read_on_for_head.new.source))
    c.lines.invariant.0 _ c.lines.invariant.1 c.in_err-pause.ensures.fault)

pub lines-preserved : goal.lines-preserved
lines-preserved g c =
    let on = c.in_ok-pause.ensures.pause in (
      c.lines.invariant.0 ++ on.read,
      ahead_then (input_of c.args.self.now (g.S.Source.source_state c.args.source.now)) (input_of c.lines.self (g.S.Source.source_state c.lines.source)) (input_of c.read_on_for_head.new.self (g.S.Source.source_state c.read_on_for_head.new.source))
          c.lines.invariant.0 on.read c.lines.invariant.1 on.ahead,
    )

pub returns-in_default-2 : goal.returns-in_default-2
returns-in_default-2 g c =
    let mid = input_of c.lines.self (g.S.Source.source_state c.lines.source) in
    let new = g.S.Source.source_state c.read_on_for_head.new.source in
    finds_then (input_of c.args.self.now (g.S.Source.source_state c.args.source.now)) mid (input_of c.last_head.new.self new) c.lines.invariant.0 c.last_head.result c.lines.invariant.1
    (c.last_head.ensures mid new c.in_ok-pause.ensures.pause c.in_default-2.not-Line)
