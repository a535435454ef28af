use Rattle.std.proofs.Common.{arith}
use Rattle.sq_outside.proofs.memory.file.MemFile.mixed.Goals as goal

pub returns : goal.returns
returns c =
    let kept = c.loop-place.invariant in
    let bounds = c.length_left-place-end.ensures in
    record {
      no_shorter = omega (arith, kept.long, bounds.no_shorter);
      no_longer = omega (arith, kept.long, bounds.no_longer);
      stays = λ place below outside. kept.stays place (omega (arith, bounds.no_shorter)) below outside;
      bytes = kept.bytes;
    }
