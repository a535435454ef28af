use Rattle.std.proofs.Common.{◌≡◌, ◌≤◌, ◌+◌, ◌-◌, ℕ, List, ◌++◌, length, take, drop, nat_lt, arith, ap, sym, subst, ◌∙◌}
use Rattle.std.proofs.lemmas.List.{take-take, take-append-le}
use Rattle.http_wire.specs.Reading.{Fills}
use Rattle.http_wire.proofs.ReadLemmas.{resized, fills, filled_within}
use Rattle.http_wire.proofs.buffer.Buffer.fill.Goals as goal
use borrow.Rule.Slice.PartMut.{put_mid}

pub returns-clause-read : goal.returns-clause-read
returns-clause-read g c =
    let held = c.self.inside.held in
    let n = c.in_ok-n.n in
    let old = c.self.inside.bytes.items in
    let items = c.deref_mut.result.now in
    let before = g.S.Source.source_state c.args.source.now in
    let after = g.S.Source.source_state c.read_some.new.source in
    let room : held ≤ c.max-size.result = omega (arith, c.max-size.ensures) in
    let kept = resized _ c.max-size.result held _ old c.resize.new.self.items c.resize.ensures.items c.self.invariant room in
    let same : items ≡ c.resize.new.self.items = c.deref_mut.ensures.value in
    let is : take held items ≡ c.args.self.now = ap (take held) same ∙ kept.0 ∙ c.self.view_is in
    let within : held ≤ length items = omega (arith, kept.1, ap length same) in
    let fits : n ≤ length c.read_some.new.buf = omega (arith, c.in_ok-n.ensures.within.0, c.read_some.auto.buf) in
    let now = put_mid held (length items - held) items c.read_some.new.buf in
    let room' : held + n ≤ length now = filled_within held (length items - held) n items c.read_some.new.buf within fits in
    let room'' : held + n ≤ c.resize.new.self.len = omega (arith, c.in_ok-n.ensures.within.0, c.resize.new.self.ok.0, ap length same) in
    let bytes : take (held + n) (take c.resize.new.self.len (now ++ drop (length now) c.resize.new.self.items)) ≡ take (held + n) now =
    take-take (held + n) c.resize.new.self.len _ room'' ∙ take-append-le (held + n) now (drop (length now) c.resize.new.self.items) room' in
    let P : List ℕ → Type 0 = λ w. Fills c.args.self.now c.args.taken before (nat_lt 0 n) w after in
    subst P (sym bytes) (fills c.args.self.now items c.read_some.new.buf held (length items - held) n c.args.taken before after is within fits c.in_ok-n.ensures.within.1 c.in_ok-n.ensures.bytes c.in_ok-n.ensures.end c.in_ok-n.ensures.count)
