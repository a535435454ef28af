use Rattle.std.proofs.Common.{true, false, subst, ap, ◌∙◌, List, ℕ}
use Rattle.http_wire.specs.Ahead.{Ahead}
use Rattle.http_wire.specs.Stream.{input_of}
use Rattle.http_wire.specs.Reading.{Fills}
use Rattle.http_wire.proofs.StepLemmas.{piece_ends, piece_comes, piece_on, piece_fails, piece_stops}
use Rattle.http_wire.proofs.carry.Carry.read_on_for_head.Goals as goal

pub returns-in-Ok-false-clause-pause : goal.returns-in-Ok-false-clause-pause
returns-in-Ok-false-clause-pause g c =
    let now = c.pieces.self in
    let mid : Ahead = record { bytes = c.fill.new.self; at = c.self.inside.at; over = c.self.inside.over } in
    let before = g.S.Source.source_state c.pieces.source in
    let after = g.S.Source.source_state c.fill.new.source in
    let P : List ℕ → Type 0 = λ w. Fills w c.taken-taken.result before false c.fill.new.self after in
    piece_ends (input_of c.args.self.now (g.S.Source.source_state c.args.source.now)) now mid before after c.taken-taken.result c.taken-taken.ensures.sum c.requires.partly c.pieces.invariant
    (subst P (ap (λ ahead. ahead.bytes) c.self.view_is) (rw c.in-Ok-false.field-0-test at c.in-Ok-false.ensures.read)) (ap (λ ahead. ahead.at) c.self.view_is)

pub returns-then-is_look_due-clause-pause : goal.returns-then-is_look_due-clause-pause
returns-then-is_look_due-clause-pause g c =
    let now = c.pieces.self in
    let mid : Ahead = record { bytes = c.fill.new.self; at = c.self.inside.at; over = c.self.inside.over } in
    let before = g.S.Source.source_state c.pieces.source in
    let after = g.S.Source.source_state c.fill.new.source in
    let P : List ℕ → Type 0 = λ w. Fills w c.taken-taken.result before true c.fill.new.self after in
    piece_comes (input_of c.args.self.now (g.S.Source.source_state c.args.source.now)) now mid before after c.taken-taken.result c.taken-taken.ensures.sum c.requires.partly c.pieces.invariant
    (subst P (ap (λ ahead. ahead.bytes) c.self.view_is) (rw c.in-Ok-true.field-0-test at c.in-Ok-true.ensures.read)) (ap (λ ahead. ahead.at) c.self.view_is)

pub pieces-preserved : goal.pieces-preserved
pieces-preserved g c =
    let old = input_of c.args.self.now (g.S.Source.source_state c.args.source.now) in
    let now = c.pieces.self in
    let mid : Ahead = record { bytes = c.fill.new.self; at = c.self.inside.at; over = c.self.inside.over } in
    let before = g.S.Source.source_state c.pieces.source in
    let after = g.S.Source.source_state c.fill.new.source in
    let P : List ℕ → Type 0 = λ w. Fills w c.taken-taken.result before true c.fill.new.self after in
    let on = piece_comes old now mid before after c.taken-taken.result c.taken-taken.ensures.sum c.requires.partly c.pieces.invariant
    (subst P (ap (λ ahead. ahead.bytes) c.self.view_is) (rw c.in-Ok-true.field-0-test at c.in-Ok-true.ensures.read)) (ap (λ ahead. ahead.at) c.self.view_is) in
    let room = c.is_look_due.ensures c.if-is_look_due.false in
    piece_on old (input_of mid after) on room.0 room.1

pub returns-in-ReadFault-clause-pause : goal.returns-in-ReadFault-clause-pause
returns-in-ReadFault-clause-pause g c =
    let now = c.pieces.self in
    let mid : Ahead = record { bytes = c.fill.new.self; at = c.self.inside.at; over = c.self.inside.over } in
    let before = g.S.Source.source_state c.pieces.source in
    let after = g.S.Source.source_state c.fill.new.source in
    piece_fails (input_of c.args.self.now (g.S.Source.source_state c.args.source.now)) now mid before after c.taken-taken.result c.taken-taken.ensures.sum c.taken-taken.ensures.within c.requires.partly c.pieces.invariant
    (rw c.in-ReadFault.is at c.in-Err.ensures.fault) (c.in-Err.ensures.kept ∙ ap (λ ahead. ahead.bytes) c.self.view_is) (ap (λ ahead. ahead.at) c.self.view_is)

pub returns-in_default : goal.returns-in_default
returns-in_default g c =
    let now = c.pieces.self in
    let mid : Ahead = record { bytes = c.fill.new.self; at = c.self.inside.at; over = c.self.inside.over } in
    let before = g.S.Source.source_state c.pieces.source in
    let after = g.S.Source.source_state c.fill.new.source in
    record {
      pause = tt;
      fault = piece_stops (input_of c.args.self.now (g.S.Source.source_state c.args.source.now)) now mid before after c.taken-taken.result c.in-Err.fault c.requires.partly c.pieces.invariant c.taken-taken.ensures.sum c.taken-taken.ensures.within
          (c.in-Err.ensures.kept ∙ ap (λ ahead. ahead.bytes) c.self.view_is) (ap (λ ahead. ahead.at) c.self.view_is) c.in_default.not-ReadFault c.in-Err.ensures.fault;
    }
