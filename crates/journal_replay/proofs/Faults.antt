-- Faults that are handed on.
use Rattle.std.proofs.Common.{◌≡◌, ℕ, ◌≤◌, Result, Err, IfErr, sym, ◌∙◌, ap, subst, arith}
use Rattle.journal_keeper.specs.Answers.{IsBlamed}
use Rattle.journal_keeper.specs.declared.fault.OpenFault.{OpenFault}
use Rattle.journal_keeper.specs.declared.fault.OpenFault.TheVariants.{BadRecord, DiskFault, NoMemory, NotAJournal, Version}
use Rattle.sq_outside.specs.Fault.{Rose}

pub handed_on : {T : Type 0} (P : OpenFault → Type 0) (result : Result T OpenFault) (fault was : OpenFault) → result ≡ Err fault → fault ≡ was → P was → IfErr result P
handed_on {T} P result fault was is same h = subst (λ (r : Result T OpenFault). IfErr r P) (sym (is ∙ ap Err same)) h

rose_since : (before mid now : ℕ) → before ≤ mid → Rose mid now → Rose before now
rose_since before mid now later rose = omega arith

pub blamed_since : (before mid now : ℕ) (fault : OpenFault) → before ≤ mid → IsBlamed mid now fault → IsBlamed before now fault
blamed_since before mid now (NotAJournal f) later h = tt
blamed_since before mid now (Version f n) later h = tt
blamed_since before mid now (BadRecord at) later h = tt
blamed_since before mid now DiskFault later h = rose_since before mid now later h
blamed_since before mid now NoMemory later h = tt
