-- An opening, from the file as it was before.
use Rattle.std.proofs.Common.{◌≡◌, inl, inr, ℕ, false, List, [], ◌∷◌, ◌++◌, get_or, Option, None, Some, IfSome, refl, sym, ◌∙◌, ap, subst, arith}
use Rattle.std.proofs.Math.Seq.{take-append_seam, drop-append_seam}
use Rattle.std.proofs.lemmas.Bool.{true≢false}
use Rattle.std.proofs.lemmas.List.Elements.{All-nil}
use Rattle.journal_format.specs.Header.{header}
use Rattle.journal_format.specs.Records.{is_closed, records}
use Rattle.journal_keeper.specs.Answers.{IsOpenFault, IsOpened}
use Rattle.journal_keeper.specs.Kept.{Recovers}
use Rattle.journal_keeper.specs.Making.{new_journal}
use Rattle.journal_keeper.specs.Records.{IsPayload}
use Rattle.journal_keeper.specs.Stands.{Keeper}
use Rattle.journal_keeper.specs.Writes.{IsOtherKept}
use Rattle.journal_keeper.specs.declared.fault.OpenFault.{OpenFault}
use Rattle.journal_keeper.specs.declared.fault.OpenFault.TheVariants.{BadRecord, DiskFault, NoMemory, NotAJournal, Version}
use Rattle.queue_model.specs.World.{World}
use Rattle.sq_outside.specs.Disk.{History}
use Rattle.sq_outside.specs.File.{File, settled}
use Rattle.journal_replay.specs.Opening.{IsFault, Opens}
use Rattle.journal_replay.specs.Records.{IsBadAt}
use Rattle.journal_replay.specs.Taking.{IsStepFault}

pub refused : (before after : Option History) (fault : OpenFault) → IsOpenFault before after fault → IsFault before after fault
refused before after (NotAJournal f) h = h
refused before after (Version f n) h = h
refused before after (BadRecord at) h = absurd h
refused before after DiskFault h = tt
refused before after NoMemory h = tt

-- ---- a new journal

new_recovers : Recovers [] new_journal
new_recovers = inl (record {
  turn = 0;
  live = (omega arith, take-append_seam (header 0) (0 ∷ []));
  records = record { rest = 0 ∷ []; lengths = All-nil IsPayload; text_is = drop-append_seam (header 0) (0 ∷ []); closed = refl };
})

never_bad : (payloads : List (List ℕ)) (rest : List ℕ) → 0 ∷ [] ≡ records payloads ++ rest → is_closed rest ≡ false → ⊥
never_bad [] rest text is_open = true≢false (ap is_closed text ∙ is_open)
never_bad (bytes ∷ payloads) rest text is_open = let gate : 0 ≡ 0x52 = ap (λ (l : List ℕ). get_or l 0 0) text in omega (arith, gate)

new_not_bad : (at : ℕ) → IsBadAt new_journal at → ⊥
new_not_bad at bad = never_bad bad.payloads bad.rest (sym (drop-append_seam (header 0) (0 ∷ [])) ∙ bad.text) bad.is_open

-- ---- what was found is said of the file as it was before

abbrev IsRefused : Option History → (at : ℕ) → List ℕ → Type 0
IsRefused after at reads = IsBadAt reads at × IfSome after (λ n. n.now.0 ≡ settled reads)

module _ (one : (a b : List (List ℕ)) (file : List ℕ) → Recovers a file → Recovers b file → a ≡ b)
    (before mid after : Option History) (kept : IsOtherKept before mid) (opened : IfSome before (λ h. IfSome mid (λ n. IsOpened h.now.0.reads n.now.0))) where
  recovered : (payloads : List (List ℕ)) → IfSome mid (λ h. Recovers payloads h.now.0.reads) → IfSome before (λ h. Recovers payloads h.now.0.reads)
  recovered payloads = by before mid kept opened
    where
      found : (file : List ℕ) (now : File) → IsOpened file now → Recovers payloads now.reads → Recovers payloads file
      found file now (inl live) h = subst (Recovers payloads) (ap (λ (f : File). f.reads) live.1) h
      found file now (inr idle) h = inr (idle.0, one payloads [] new_journal (subst (Recovers payloads) (ap (λ (f : File). f.reads) idle.1) h) new_recovers)

      by : (b m : Option History) → IsOtherKept b m → IfSome b (λ h. IfSome m (λ n. IsOpened h.now.0.reads n.now.0)) → IfSome m (λ h. Recovers payloads h.now.0.reads) → IfSome b (λ h. Recovers payloads h.now.0.reads)
      by None m kept opened h = tt
      by (Some old) None kept opened h = absurd kept
      by (Some old) (Some now) kept opened h = found old.now.0.reads now.now.0 opened h

  bad_before : (at : ℕ) → IsStepFault mid after (BadRecord at) → IsFault before after (BadRecord at)
  bad_before at = by before mid kept opened
    where
      found : (file : List ℕ) (now : File) → IsOpened file now → IsRefused after at now.reads → IsRefused after at file
      found file now (inl live) h = subst (IsRefused after at) (ap (λ (f : File). f.reads) live.1) h
      found file now (inr idle) h = absurd (new_not_bad at (subst (λ (reads : List ℕ). IsBadAt reads at) (ap (λ (f : File). f.reads) idle.1) h.0))

      by : (b m : Option History) → IsOtherKept b m → IfSome b (λ h. IfSome m (λ n. IsOpened h.now.0.reads n.now.0)) → IfSome m (λ h. IsRefused after at h.now.0.reads) → IfSome b (λ h. IsRefused after at h.now.0.reads)
      by None m kept opened h = tt
      by (Some old) None kept opened h = absurd kept
      by (Some old) (Some now) kept opened h = found old.now.0.reads now.now.0 opened h

  pub opens : (journal : Keeper) (w : World) → Opens journal w mid after → Opens journal w before after
  opens journal w found = record {
    payloads = found.payloads;
    recovered = recovered found.payloads found.recovered;
    stand_for = found.stand_for;
    good = found.good;
    stands = found.stands;
    read = found.read;
  }

  pub fails : (fault : OpenFault) → IsStepFault mid after fault → IsFault before after fault
  fails (NotAJournal f) h = absurd h
  fails (Version f n) h = absurd h
  fails (BadRecord at) h = bad_before at h
  fails DiskFault h = tt
  fails NoMemory h = tt
