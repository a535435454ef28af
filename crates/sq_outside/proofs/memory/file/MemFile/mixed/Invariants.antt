use Rattle.std.proofs.Common.{◌≡◌, ℕ, ◌<◌, length, get_or}
use Rattle.sq_outside.specs.File.{IsOutside}
use Rattle.sq_outside.proofs.memory.file.MemFile.mixed.Given as goal

abbrev pub invariant-loop-place : goal.invariant-loop-place
invariant-loop-place l = record {
  long : length l.image.items ≡ l.place;
  stays : (k : ℕ) → k < l.place → k < l.self.unsynced.shortest → IsOutside l.self.unsynced.written k → get_or l.image.items k 0 ≡ get_or l.self.unsynced.synced k 0;
  bytes : (k : ℕ) → get_or l.image.items k 0 < 256;
}
