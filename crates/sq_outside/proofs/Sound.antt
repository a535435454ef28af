-- A file is sound after each change.
use Rattle.std.proofs.Common.{⊎_elim, ℕ, ◌+◌, ◌^◌, ◌<◌, ◌≤◌, List, length, refl, ◌∙◌, arith}
use Rattle.sq_outside.specs.File.{File, IsSound, AreBytes}
use Rattle.sq_outside.specs.MemoryFile.{written}
use Rattle.sq_outside.proofs.Overwritten.{length-overwritten, before_overwritten, after_overwritten, bytes_overwritten}

pub sound_written : (at count : ℕ) (piece : List ℕ) (file : File) → IsSound file → AreBytes piece → at ≤ length file.reads → length piece ≤ count → at + count < 2 ^ 63
    → IsSound (written at piece count file)
sound_written at count piece file sound are within prefix fits = record {
  reads = record {
    no_shorter = let long = length-overwritten file.reads piece at within in omega (arith, sound.reads.no_shorter);
    no_longer = let long = length-overwritten file.reads piece at within in omega (arith, sound.reads.no_longer);
    stays = λ place below outside. ⊎_elim
        (λ before. before_overwritten file.reads piece at within place before ∙ sound.reads.stays place below outside.1)
        (λ past. after_overwritten file.reads piece at within place (omega arith) ∙ sound.reads.stays place below outside.1)
        outside.0;
    bytes = bytes_overwritten file.reads piece at within sound.reads.bytes are;
  };
  synced = record {
    no_shorter = sound.synced.no_shorter;
    no_longer = omega (arith, sound.synced.no_longer);
    stays = λ place below outside. refl;
    bytes = sound.synced.bytes;
  };
  bounded = omega (arith, sound.bounded);
}
