-- Reading on after a sync, and the end of the records.
use Rattle.std.proofs.Common.{◌≡◌, inl, inr, ℕ, true, List, [], ◌∷◌, ◌++◌, length, drop, Option, None, Some, IfSome, Result, Ok, Err, refl, sym, ◌∙◌, ap, subst}
use Rattle.std.proofs.Math.Seq.{drop-append_seam}
use Rattle.journal_format.specs.Records.{is_closed}
use Rattle.sq_outside.specs.File.{File, Unsynced as UnsyncedPart, IsImage, Syncs, HalfSyncs, settled, overwritten}
use Rattle.sq_outside.specs.Disk.{AreSound, History, GoesOn, MayGoOn, LeavesOnly}
use Rattle.sq_outside.proofs.Histories.{read_has}
use Rattle.sq_outside.proofs.Rising.{only_weaker}
use Rattle.sq_outside.proofs.Written.{overwritten_at}
use Rattle.journal_keeper.specs.declared.fault.OpenFault.{OpenFault}
use Rattle.journal_keeper.specs.declared.fault.OpenFault.TheVariants.{DiskFault}
use Rattle.journal_keeper.specs.declared.journal.Stage.{Stage}
use Rattle.journal_keeper.specs.declared.journal.Stage.TheVariants.{Unsynced, Reading, Ready}
use Rattle.journal_keeper.specs.Answers.{KeepsAll}
use Rattle.journal_keeper.specs.Kept.{Recovers, IsKept}
use Rattle.journal_keeper.specs.Stages.{Settles, Finishes}
use Rattle.journal_keeper.specs.Stands.{Keeper, Stands, StandsOn, IsStanding}
use Rattle.journal_keeper.specs.Texts.{Begins, IsClosed}
use Rattle.journal_keeper.specs.Writes.{IsReplaced, IsOtherKept}
use Rattle.journal_keeper.proofs.KeptLaws.{held, text_long}
use Rattle.journal_keeper.proofs.Opening.{keeps_unsynced, keeps_synced}
use Rattle.journal_keeper.proofs.Others.{same, none_some}
use Rattle.journal_keeper.proofs.Others as others
use Rattle.journal_keeper.proofs.Repairing.{last_file}

-- the file is synced again
module _ (end : ℕ) (ahead : List ℕ) (before after : Option History) (sound : IfSome before (λ h. AreSound h.now)) where
  abbrev waiting : Keeper
  waiting = record { end = end; stage = Unsynced; ahead = ahead }

  abbrev synced : Keeper
  synced = record { end = end; stage = Reading; ahead = [] }

  still_waiting : (b a : Option History) → MayGoOn 0 HalfSyncs b a → (payloads : List (List ℕ)) (doubt : Option (List ℕ)) → Stands waiting payloads doubt b → Stands waiting payloads doubt a
  still_waiting b a (inl is) payloads doubt stands = subst (Stands waiting payloads doubt) (sym is) stands
  still_waiting b None (inr goes) payloads doubt stands = tt
  still_waiting None (Some new) (inr goes) payloads doubt stands = absurd (none_some new goes)
  still_waiting (Some old) (Some new) (inr goes) payloads doubt stands = record {
    text = stands.text;
    is_text = stands.is_text;
    end = stands.end;
    at = (stands.at.0, λ image is. stands.at.1 image (subst (λ (u : UnsyncedPart). IsImage u image) goes.1.this is));
  }

  synced_stands : (b a : Option History) → IfSome b (λ h. AreSound h.now) → GoesOn 0 Syncs b a → (payloads : List (List ℕ)) (doubt : Option (List ℕ)) → Stands waiting payloads doubt b → Stands synced payloads doubt a
  synced_stands b None s goes payloads doubt stands = tt
  synced_stands None (Some new) s goes payloads doubt stands = absurd (none_some new goes)
  synced_stands (Some old) (Some new) s goes payloads doubt stands =
      let reads : new.now.0.reads ≡ old.now.0.reads = ap (λ (f : File). f.reads) goes.1.this in
      record {
        text = stands.text;
        is_text = stands.is_text;
        end = stands.end;
        at = (stands.at.0, goes.1.this ∙ ap settled (sym reads), subst (Begins stands.text) (sym reads) (stands.at.1 old.now.0.reads s.0.reads), refl);
      }

  reads_same : (b a : Option History) → GoesOn 0 Syncs b a → IfSome b (λ old. IfSome a (λ new. new.now.0 ≡ settled old.now.0.reads))
  reads_same None a goes = tt
  reads_same (Some old) None goes = tt
  reads_same (Some old) (Some new) goes = goes.1.this

  pub settle_failed : (old : Keeper) → waiting ≡ old → (result : Result (Unit {0}) OpenFault) → result ≡ Err DiskFault → MayGoOn 0 HalfSyncs before after → Settles old before result old after
  settle_failed old view result is call = subst (λ (k : Keeper). Settles k before result k after) view (subst (λ (r : Result (Unit {0}) OpenFault). Settles waiting before r waiting after) (sym is) (record {
    stage = refl;
    end = refl;
    fault = refl;
    reads = tt;
    stands = still_waiting before after call;
    any_moment = keeps_unsynced before after call;
    other = others.may_go HalfSyncs before after call;
  }))

  pub settle_done : (old : Keeper) → waiting ≡ old → GoesOn 0 Syncs before after → Settles old before (Ok tt) synced after
  settle_done old view call = subst (λ (k : Keeper). Settles k before (Ok tt) synced after) view (record {
    stage = refl;
    end = refl;
    fault = tt;
    reads = reads_same before after call;
    stands = synced_stands before after sound call;
    any_moment = keeps_synced before after sound call;
    other = others.goes Syncs before after call;
  })

-- the gate at the end is closed
module _ (text : List ℕ) where
  replaced_begins : (file image : List ℕ) → Begins text file → IsReplaced (length text) file image → Begins text image
  replaced_begins file image begins (inl same) = subst (Begins text) (sym same) begins
  replaced_begins file image begins (inr other) = record {
    rest = other.1.0 ∷ drop 1 begins.rest;
    is = other.1.2 ∙ ap (λ (l : List ℕ). overwritten l (length text) (other.1.0 ∷ [])) begins.is ∙ overwritten_at text begins.rest (other.1.0 ∷ []);
  }

  shut_closed : (file : List ℕ) → Begins text file → IsClosed text (overwritten file (length text) (0 ∷ []))
  shut_closed file begins = record { rest = drop 1 begins.rest; is = ap (λ (l : List ℕ). overwritten l (length text) (0 ∷ [])) begins.is ∙ overwritten_at text begins.rest (0 ∷ []) }

module _ (end : ℕ) (ahead : List ℕ) where
  abbrev reading : Keeper
  reading = record { end = end; stage = Reading; ahead = ahead }

  abbrev unclosed : Keeper
  unclosed = record { end = end; stage = Unsynced; ahead = [] }

  abbrev finished : Keeper
  finished = record { end = end; stage = Ready; ahead = [] }

  abbrev Shutting : Option History → Option History → Type 0
  Shutting b a = IfSome b (λ h. LeavesOnly (λ image. IsReplaced end h.now.0.reads image.0) b a)

  -- the payloads that were read are all
  pub is_all : (payloads : List (List ℕ)) (doubt : Option (List ℕ)) (file : File) → (stands : StandsOn reading payloads doubt file) → is_closed (drop end file.reads) ≡ true → Recovers payloads file.reads
  is_all payloads doubt file stands closed =
      let rest_is : drop end file.reads ≡ stands.at.2.rest = ap (drop end) stands.at.2.is ∙ ap (λ (k : ℕ). drop k (stands.text ++ stands.at.2.rest)) stands.end ∙ drop-append_seam stands.text stands.at.2.rest in
      inl (held payloads stands.text stands.at.2.rest file.reads stands.is_text (ap is_closed (sym rest_is) ∙ closed) stands.at.2.is)

  holds_all : (payloads : List (List ℕ)) (doubt : Option (List ℕ)) (file : File) → (stands : StandsOn reading payloads doubt file) → is_closed (drop end file.reads) ≡ true → (P : List (List ℕ)) (D : Option (List ℕ)) (image : List ℕ)
      → IsKept P D file.reads → IsReplaced end file.reads image → IsKept P D image
  holds_all payloads doubt file stands closed P D image kept (inl same) = subst (IsKept P D) (sym same) kept
  holds_all payloads doubt file stands closed P D image kept (inr other) = λ steps last from. kept (image ∷ steps) last (
    record {
      place = end;
      loose = inl (record {
        payloads = payloads;
        holds = let rest_is : drop end file.reads ≡ stands.at.2.rest = ap (drop end) stands.at.2.is ∙ ap (λ (k : ℕ). drop k (stands.text ++ stands.at.2.rest)) stands.end ∙ drop-append_seam stands.text stands.at.2.rest in
            held payloads stands.text stands.at.2.rest file.reads stands.is_text (ap is_closed (sym rest_is) ∙ closed) stands.at.2.is;
        here = stands.end ∙ text_long payloads stands.text stands.is_text;
        ajar = other.0;
      });
      byte = other.1.0;
      small = other.1.1;
      becomes = other.1.2;
    },
    from,
  )

  keeps_shutting : (b a : Option History) → IfSome b (λ h. AreSound h.now) → IsStanding reading b → IfSome b (λ h. is_closed (drop end h.now.0.reads) ≡ true) → Shutting b a → KeepsAll b a
  keeps_shutting None a sound standing closed run = λ payloads doubt. tt
  keeps_shutting (Some old) a sound standing closed run = λ P D leaves. only_weaker (λ image. IsReplaced end old.now.0.reads image.0) (λ image. IsKept P D image.0) (Some old) a (λ image is.
      holds_all standing.0 standing.1.0 old.now.0 standing.1.1 closed P D image.0 (read_has 0 (IsKept P D) old.now sound leaves) is) run

  unclosed_stands : (b a : Option History) → IsOtherKept b a → IfSome a (λ h. AreSound h.now) → Shutting b a → (payloads : List (List ℕ)) (doubt : Option (List ℕ)) → Stands reading payloads doubt b → Stands unclosed payloads doubt a
  unclosed_stands b None other sound run payloads doubt stands = tt
  unclosed_stands None (Some new) other sound run payloads doubt stands = absurd (none_some new other)
  unclosed_stands (Some old) (Some new) other sound run payloads doubt stands = record {
    text = stands.text;
    is_text = stands.is_text;
    end = stands.end;
    at = (
      stands.at.0,
      last_file (Begins stands.text) old new sound (only_weaker (λ image. IsReplaced end old.now.0.reads image.0) (λ image. Begins stands.text image.0) (Some old) (Some new) (λ image is.
          replaced_begins stands.text old.now.0.reads image.0 stands.at.2 (subst (λ (k : ℕ). IsReplaced k old.now.0.reads image.0) stands.end is)) run),
    );
  }

  finished_stands : (b a : Option History) → IsOtherKept b a → IfSome b (λ h. IfSome a (λ new. new.now.0 ≡ settled (overwritten h.now.0.reads end (0 ∷ [])))) → (payloads : List (List ℕ)) (doubt : Option (List ℕ)) → Stands reading payloads doubt b → Stands finished payloads doubt a
  finished_stands b None other shut payloads doubt stands = tt
  finished_stands None (Some new) other shut payloads doubt stands = absurd (none_some new other)
  finished_stands (Some old) (Some new) other shut payloads doubt stands =
      let now : new.now.0 ≡ settled (overwritten old.now.0.reads (length stands.text) (0 ∷ [])) = shut ∙ ap (λ (k : ℕ). settled (overwritten old.now.0.reads k (0 ∷ []))) stands.end in
      let reads = ap (λ (f : File). f.reads) now in
      record {
        text = stands.text;
        is_text = stands.is_text;
        end = stands.end;
        at = (stands.at.0, now ∙ ap settled (sym reads), subst (IsClosed stands.text) (sym reads) (shut_closed stands.text old.now.0.reads stands.at.2));
      }

  module _ (before after : Option History) (old : Keeper) (view : reading ≡ old) (sound : IfSome before (λ h. AreSound h.now)) (standing : IsStanding old before)
      (closed : IfSome before (λ h. is_closed (drop old.end h.now.0.reads) ≡ true)) where
    standing_there : IsStanding reading before
    standing_there = subst (λ (k : Keeper). IsStanding k before) (sym view) standing

    closed_there : IfSome before (λ h. is_closed (drop end h.now.0.reads) ≡ true)
    closed_there = subst (λ (k : Keeper). IfSome before (λ h. is_closed (drop k.end h.now.0.reads) ≡ true)) (sym view) closed

    pub finish_failed : (result : Result (Unit {0}) OpenFault) (fault : OpenFault) → result ≡ Err fault → IsOtherKept before after → IfSome after (λ h. AreSound h.now) → Shutting before after → Finishes old before result unclosed after
    finish_failed result fault is other sound_after run = subst (λ (k : Keeper). Finishes k before result unclosed after) view (subst (λ (r : Result (Unit {0}) OpenFault). Finishes reading before r unclosed after) (sym is) (record {
      stage = refl;
      stands = unclosed_stands before after other sound_after run;
      any_moment = keeps_shutting before after sound standing_there closed_there run;
      other = other;
    }))

    pub finish_done : IsOtherKept before after → Shutting before after → IfSome before (λ h. IfSome after (λ new. new.now.0 ≡ settled (overwritten h.now.0.reads end (0 ∷ [])))) → Finishes old before (Ok tt) finished after
    finish_done other run shut = subst (λ (k : Keeper). Finishes k before (Ok tt) finished after) view (record {
      stage = refl;
      stands = finished_stands before after other shut;
      any_moment = keeps_shutting before after sound standing_there closed_there run;
      other = other;
    })

-- nothing is ahead
pub emptied : (old : Keeper) (before : Option History) (result : Result (Unit {0}) OpenFault) (end : ℕ) (stage : Stage) (window : List ℕ) (after : Option History) → window ≡ []
    → Finishes old before result (record { end = end; stage = stage; ahead = [] }) after → Finishes old before result (record { end = end; stage = stage; ahead = window }) after
emptied old before result end stage window after is finishes = subst (λ (w : List ℕ). Finishes old before result (record { end = end; stage = stage; ahead = w }) after) (sym is) finishes

pub emptied_again : (old : Keeper) (before : Option History) (end : ℕ) (window : List ℕ) (after : Option History) → window ≡ []
    → Settles old before (Ok tt) (record { end = end; stage = Reading; ahead = [] }) after → Settles old before (Ok tt) (record { end = end; stage = Reading; ahead = window }) after
emptied_again old before end window after is settles = subst (λ (w : List ℕ). Settles old before (Ok tt) (record { end = end; stage = Reading; ahead = w }) after) (sym is) settles
