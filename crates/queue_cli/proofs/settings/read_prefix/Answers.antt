use Rattle.std.proofs.Common.{◌<◌, length, take, ap, arith, length-take}
use Rattle.queue_cli.proofs.SettingsLemmas.{at_end, prefix_at_end}
use Rattle.queue_cli.proofs.settings.read_prefix.Goals as goal

pub returns-then-n-eq0-clause-prefix : goal.returns-then-n-eq0-clause-prefix
returns-then-n-eq0-clause-prefix g c =
    let room : 0 < length (take c.min-room.result c.loop-chunk.chunk) = omega (arith, length-take c.min-room.result c.loop-chunk.chunk) in
    let old = g.S.Source.source_state c.args.source.now in
    let mid = g.S.Source.source_state c.loop-chunk.source in
    let new = g.S.Source.source_state c.read.new.self in
    prefix_at_end old.left mid.left new.left c.loop-chunk.bytes.items _ c.args.most
    c.loop-chunk.invariant.short c.loop-chunk.invariant.taken c.in-Ok.ensures.taken (ap (λ n. take n c.read.new.buf) c.if-n-eq0.true) (at_end mid.left _ c.in-Ok.n c.in-Ok.ensures.end room c.if-n-eq0.true)
