-- A piece is written and synced: what a crash leaves after each call.
use Rattle.std.proofs.Common.{◌≡◌, ℕ, List, length, Option, None, Some, IfSome, ◌∙◌, ap, subst, arith}
use Rattle.sq_outside.specs.File.{Unsynced, IsImage, Writes, HalfWrites, Syncs, HalfSyncs, settled, in_doubt, overwritten}
use Rattle.sq_outside.specs.Disk.{AreSound, History, GoesOn, MayGoOn, LeavesOnly}
use Rattle.sq_outside.proofs.Rising.{rising_here, on_write, on_failed_write, on_sync, on_failed_sync}

module _ (place n : ℕ) where
  abbrev asked : History → Unsynced
  asked old = in_doubt (record { at = place; count = n }) old.now.0.unsynced

  abbrev Q : History → ℕ → List ℕ → Type 0
  Q old _ file = IsImage (asked old) file

  -- what a crash left before it leaves still
  wider : (old : History) (file : List ℕ) → IsImage old.now.0.unsynced file → IsImage (asked old) file
  wider old file is = record { no_shorter = is.no_shorter; no_longer = omega (arith, is.no_longer); stays = λ k below outside. is.stays k below outside.1; bytes = is.bytes }

  begun : (old : History) → LeavesOnly (λ image. Q old 0 image.0) (Some old) (Some old)
  begun old = rising_here (λ _ image. Q old 0 image.0) 0 old (λ image are. wider old image.0 are.0)

  pub half : (before new : Option History) → MayGoOn 0 (HalfWrites place n) before new → IfSome before (λ old. LeavesOnly (λ image. Q old 0 image.0) before new)
  half None new call = tt
  half (Some old) new call = on_failed_write (Q old) 0 0 0 0 (Some old) (Some old) new (omega arith) (begun old) place n call (λ image is. is)

module _ (place : ℕ) (piece : List ℕ) where
  wrote : (old : History) (mid : Option History) → GoesOn 0 (Writes place piece) (Some old) mid → LeavesOnly (λ image. Q place (length piece) old 0 image.0) (Some old) mid
  wrote old mid call = on_write (Q place (length piece) old) 0 0 0 0 (Some old) (Some old) mid (omega arith) (begun place (length piece) old) place piece call (λ image is. is)

  pub unsynced : (before mid new : Option History) → GoesOn 0 (Writes place piece) before mid → MayGoOn 0 HalfSyncs mid new → IfSome before (λ old. LeavesOnly (λ image. Q place (length piece) old 0 image.0) before new)
  unsynced None mid new write call = tt
  unsynced (Some old) mid new write call = on_failed_sync (λ n image. Q place (length piece) old n image.0) 0 0 0 (Some old) mid new (omega arith) (wrote old mid write) call

  reads_it : (old : History) (mid : Option History) → GoesOn 0 (Writes place piece) (Some old) mid → IfSome mid (λ then. AreSound then.now) → IfSome mid (λ then. Q place (length piece) old 0 then.now.0.reads)
  reads_it old None write sound = tt
  reads_it old (Some then) write sound = subst (λ (u : Unsynced). IsImage u then.now.0.reads) write.1.this.unsynced sound.0.reads

  pub synced : (before mid new : Option History) → GoesOn 0 (Writes place piece) before mid → IfSome mid (λ then. AreSound then.now) → GoesOn 0 Syncs mid new
      → IfSome before (λ old. LeavesOnly (λ image. Q place (length piece) old 0 image.0) before new)
  synced None mid new write sound call = tt
  synced (Some old) mid new write sound call = on_sync (Q place (length piece) old) 0 0 0 0 (Some old) mid new (omega arith) (wrote old mid write) call (reads_it old mid write sound)

  pub put_is : (before mid new : Option History) → GoesOn 0 (Writes place piece) before mid → GoesOn 0 Syncs mid new
      → IfSome before (λ old. IfSome new (λ after. after.now.0 ≡ settled (overwritten old.now.0.reads place piece)))
  put_is None mid new write call = tt
  put_is (Some old) None new write call = absurd write
  put_is (Some old) (Some then) None write call = absurd call
  put_is (Some old) (Some then) (Some new) write call = call.1.this ∙ ap settled write.1.this.reads
