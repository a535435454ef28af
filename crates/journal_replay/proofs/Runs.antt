-- What was read is said of the file as it was before.
use Rattle.std.proofs.Common.{◌≡◌, ℕ, List, Option, None, Some, IfSome, refl, subst}
use Rattle.journal_keeper.specs.Kept.{Recovers}
use Rattle.journal_keeper.specs.Stands.{Keeper}
use Rattle.journal_keeper.specs.Writes.{IsOtherKept}
use Rattle.journal_keeper.specs.declared.fault.OpenFault.{OpenFault}
use Rattle.journal_keeper.specs.declared.fault.OpenFault.TheVariants.{BadRecord, DiskFault, NoMemory, NotAJournal, Version}
use Rattle.queue_model.specs.World.{World}
use Rattle.sq_outside.specs.Disk.{History}
use Rattle.sq_outside.specs.File.{settled}
use Rattle.journal_replay.specs.Opening.{Opens}
use Rattle.journal_replay.specs.Records.{IsBadAt}
use Rattle.journal_replay.specs.Taking.{IsStepFault, ReadsAlike}

pub alike_same : (h : Option History) → ReadsAlike h h
alike_same None = tt
alike_same (Some h) = refl

module _ (before mid after : Option History) (kept : IsOtherKept before mid) (alike : ReadsAlike before mid) where
  since : (P : List ℕ → Type 0) → IfSome mid (λ h. P h.now.0.reads) → IfSome before (λ h. P h.now.0.reads)
  since P = by before mid kept alike
    where
      by : (b m : Option History) → IsOtherKept b m → ReadsAlike b m → IfSome m (λ h. P h.now.0.reads) → IfSome b (λ h. P h.now.0.reads)
      by None m kept alike h = tt
      by (Some old) None kept alike h = absurd kept
      by (Some old) (Some now) kept alike h = subst P alike h

  pub alike_then : ReadsAlike mid after → ReadsAlike before after
  alike_then = since (λ reads. IfSome after (λ n. n.now.0.reads ≡ reads))

  pub opens_since : (journal : Keeper) (w : World) → Opens journal w mid after → Opens journal w before after
  opens_since journal w found = record {
    payloads = found.payloads;
    recovered = since (Recovers found.payloads) found.recovered;
    stand_for = found.stand_for;
    good = found.good;
    stands = found.stands;
    read = found.read;
  }

  pub fault_since : (fault : OpenFault) → IsStepFault mid after fault → IsStepFault before after fault
  fault_since (NotAJournal f) h = h
  fault_since (Version f n) h = h
  fault_since (BadRecord at) h = since (λ reads. IsBadAt reads at × IfSome after (λ n. n.now.0 ≡ settled reads)) h
  fault_since DiskFault h = tt
  fault_since NoMemory h = tt
