-- Files and disks that are kept for a world.
use Rattle.std.proofs.Common.{◌≡◌, inl, inr, ℕ, List, [], ◌∷◌, ◌++◌, Option, None, Some, IfSome, refl, sym, subst}
use Rattle.std.proofs.lemmas.List.Elements.{All-nil}
use Rattle.job_states.specs.declared.transition.Transaction.{Transaction}
use Rattle.journal_format.specs.Payload.{HasText}
use Rattle.journal_format.specs.Spelling.{payload}
use Rattle.journal_keeper.specs.Answers.{KeepsAll}
use Rattle.journal_keeper.specs.Kept.{IsKept, Recovers, RecoversWith}
use Rattle.journal_keeper.specs.Stands.{Keeper}
use Rattle.journal_keeper.specs.declared.fault.OpenFault.{OpenFault}
use Rattle.journal_keeper.specs.declared.fault.OpenFault.TheVariants.{BadRecord, DiskFault, NoMemory, NotAJournal, Version}
use Rattle.queue_model.specs.Replay.{replay}
use Rattle.queue_model.specs.World.{World, empty}
use Rattle.sq_outside.specs.Disk.{AreImages, AreSound, History, LeavesOnly, Two}
use Rattle.sq_outside.specs.File.{File, settled}
use Rattle.sq_outside.proofs.Images.{settled_image}
use Rattle.sq_outside.proofs.Rising.{only_weaker, rising_last}
use Rattle.journal_replay.specs.Kept.{AreKeptFor, IsEither, IsEitherOf, IsKeptFor, IsNoRefusalOf, MayFollow, RecoversEither, StaysKeptFor, text_of}
use Rattle.journal_replay.specs.Opening.{IsFault, Opens}
use Rattle.journal_replay.specs.Records.{IsBadAt, RecoversWorld}
use Rattle.journal_replay.specs.Taking.{Takes}
use Rattle.journal_replay.proofs.Replayed.{something}
use Rattle.journal_replay.proofs.Stepping.{one_record}
use Rattle.journal_replay.proofs.Verdicts.{not_foreign, not_version}

-- ---- files

pub recovers_either : ((payloads : List (List ℕ)) (doubt : Option (List ℕ)) (file : List ℕ) → IsKept payloads doubt file → RecoversWith payloads doubt file)
    → (w : World) (doubt : Option (List Transaction)) (file : List ℕ) → IsKeptFor w doubt file → RecoversEither w doubt file
recovers_either recovers w doubt file kept = by doubt kept.follows (recovers kept.payloads (text_of doubt) file kept.kept)
  where
    as_before : Recovers kept.payloads file → RecoversWorld file w
    as_before there = record { payloads = kept.payloads; recovers = there; stand_for = kept.stand_for }

    by : (d : Option (List Transaction)) → MayFollow w d → RecoversWith kept.payloads (text_of d) file → RecoversEither w d file
    by None follows there = record { world = w; either = refl; recovers = as_before there }
    by (Some txs) follows (inl there) = record { world = w; either = inl refl; recovers = as_before there }
    by (Some txs) follows (inr there) =
        let legal = follows txs refl in
        let v = something (replay w txs) legal.1 in
        let takes : Takes (payload txs) w v.0 = record { txs = txs; spelled = record { has_text = legal.0; is = refl }; world = v.1 } in
        let more = one_record (payload txs) kept.payloads w v.0 kept.stand_for takes in
        record { world = v.0; either = inr v.1; recovers = record { payloads = kept.payloads ++ payload txs ∷ []; recovers = there; stand_for = more } }

pub weaker_for : ((payloads : List (List ℕ)) (doubt : Option (List ℕ)) (file : List ℕ) → IsKept payloads None file → IsKept payloads doubt file)
    → (w : World) (doubt : Option (List Transaction)) (file : List ℕ) → MayFollow w doubt → IsKeptFor w None file → IsKeptFor w doubt file
weaker_for weaker w doubt file follows kept = record {
  payloads = kept.payloads;
  stand_for = kept.stand_for;
  follows = follows;
  kept = weaker kept.payloads (text_of doubt) file kept.kept;
}

-- ---- disks

pub image_kept : (w : World) (doubt : Option (List Transaction)) (files : Two File) (image : Two (List ℕ))
    → AreKeptFor w doubt files → AreImages files image → IsKeptFor w doubt image.0
image_kept w doubt files image kept is = record { payloads = kept.payloads; stand_for = kept.stand_for; follows = kept.follows; kept = kept.kept image is }

pub disk_kept : (w : World) (doubt : Option (List Transaction)) (image : Two (List ℕ)) → IsKeptFor w doubt image.0 → AreKeptFor w doubt (settled image.0, settled image.1)
disk_kept w doubt image kept = record {
  payloads = kept.payloads;
  stand_for = kept.stand_for;
  follows = kept.follows;
  kept = λ left are. subst (IsKept kept.payloads (text_of doubt)) (sym (settled_image image.0 left.0 are.0)) kept.kept;
}

pub first_kept : IsKept [] None [] → (other : List ℕ) → AreKeptFor empty None (settled [], settled other)
first_kept kept other = disk_kept empty None ([], other) (record {
  payloads = [];
  stand_for = record { spelled = []; have_texts = All-nil HasText; are = refl; world = refl };
  follows = λ txs no_one. cc;
  kept = kept;
})

-- ---- an opening

pub stays_kept : (before after : Option History) → KeepsAll before after → StaysKeptFor before after
stays_kept None after keeps w doubt was = absurd was
stays_kept (Some old) None keeps w doubt was = absurd (keeps was.payloads (text_of doubt) was.kept)
stays_kept (Some old) (Some new) keeps w doubt was =
    let K : Two (List ℕ) → Type 0 = λ image. IsKept was.payloads (text_of doubt) image.0 in
    let run : LeavesOnly K (Some old) (Some new) = keeps was.payloads (text_of doubt) was.kept in
    record {
      moments = only_weaker K (λ image. IsKeptFor w doubt image.0) (Some old) (Some new)
          (λ image kept. record { payloads = was.payloads; stand_for = was.stand_for; follows = was.follows; kept = kept }) run;
      after = record { payloads = was.payloads; stand_for = was.stand_for; follows = was.follows; kept = (rising_last (λ _. K) 0 0 old new run).leaves };
    }

module _ (either : (w : World) (doubt : Option (List Transaction)) (file : List ℕ) → IsKeptFor w doubt file → RecoversEither w doubt file) where
  -- the file as it reads
  there : (h : History) → AreSound h.now → (w : World) (doubt : Option (List Transaction)) → AreKeptFor w doubt h.now → RecoversEither w doubt h.now.0.reads
  there h sound w doubt was = either w doubt h.now.0.reads (image_kept w doubt h.now (h.now.0.reads, h.now.1.reads) was (sound.0.reads, sound.1.reads))

  pub opens_either : ((file : List ℕ) (w v : World) → RecoversWorld file w → RecoversWorld file v → w ≡ v)
      → (before after : Option History) → IfSome before (λ h. AreSound h.now) → (journal : Keeper) (v : World) → Opens journal v before after → IsEitherOf before v
  opens_either one None after sound journal v opens w doubt was = absurd was
  opens_either one (Some h) after sound journal v opens w doubt was =
      let found = there h sound w doubt was in
      let this : RecoversWorld h.now.0.reads v = record { payloads = opens.payloads; recovers = opens.recovered; stand_for = opens.stand_for } in
      subst (IsEither w doubt) (one h.now.0.reads found.world v found.recovers this) found.either

  pub accepted : ((file : List ℕ) (w : World) (at : ℕ) → RecoversWorld file w → IsBadAt file at → ⊥)
      → (before after : Option History) → IfSome before (λ h. AreSound h.now) → (fault : OpenFault) → IsFault before after fault → IsNoRefusalOf before fault
  accepted bad None after sound fault h w doubt was = absurd was
  accepted bad (Some old) after sound (NotAJournal f) h w doubt was = let found = there old sound w doubt was in not_foreign old.now.0.reads found.world found.recovers h.1.0
  accepted bad (Some old) after sound (Version f n) h w doubt was = let found = there old sound w doubt was in not_version old.now.0.reads n found.world found.recovers h.1.0
  accepted bad (Some old) after sound (BadRecord at) h w doubt was = let found = there old sound w doubt was in bad old.now.0.reads found.world at found.recovers h.0
  accepted bad (Some old) after sound DiskFault h w doubt was = tt
  accepted bad (Some old) after sound NoMemory h w doubt was = tt
