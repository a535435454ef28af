-- What a failing call of a disk in memory does is what one may do.
use Rattle.std.proofs.Common.{◌≡◌, ⊎_elim, ℕ, ◌+◌, ◌^◌, ◌<◌, ◌≤◌, List, [], ◌∷◌, ◌++◌, length, Some, refl, sym, subst, arith}
use Rattle.sq_outside.specs.File.{File, HalfWrites}
use Rattle.sq_outside.specs.Disk.{History, nth, GoesOn}
use Rattle.sq_outside.specs.MemoryFile.{written}
use Rattle.sq_outside.specs.MemoryDisk.{with_nth}
use Rattle.sq_outside.proofs.Overwritten.{length-overwritten, before_overwritten, after_overwritten}
use Rattle.sq_outside.proofs.Logs.{changes}

pub half_written : (at count : ℕ) (prefix : List ℕ) (file : File) → at ≤ length file.reads → length prefix ≤ count → at + count < 2 ^ 63 → HalfWrites at count file (written at prefix count file)
half_written at count prefix file within fewer fits =
    let long = length-overwritten file.reads prefix at within in
    record {
      fits = fits;
      reads = record {
        no_shorter = omega arith;
        no_longer = omega arith;
        elsewhere = λ place apart. ⊎_elim (before_overwritten file.reads prefix at within place) (λ past. after_overwritten file.reads prefix at within place (omega arith)) apart;
      };
      unsynced = refl;
    }

-- a change of one file is a step
pub goes_on : (file : ℕ) (step : File → File → Type 0) (change : File → File) (old new : History) → file ≤ 1
    → new ≡ record { earlier = old.earlier ++ old.now ∷ []; now = with_nth file change old.now } → step (nth file old.now) (change (nth file old.now)) → GoesOn file step (Some old) (Some new)
goes_on file step change old new small is here =
    subst (λ (h : History). GoesOn file step (Some old) (Some h)) (sym is) (refl, changes file step change old.now small here)
