-- A repair, and an append after it.
use Rattle.std.proofs.Common.{◌≡◌, inl, inr, ⊎_elim, ℕ, zero, suc, ◌+◌, true, false, List, [], ◌∷◌, ◌++◌, length, Option, None, Some, IfSome, Result, Ok, Err, refl, sym, ◌∙◌, ap, subst, arith, length-append}
use Rattle.journal_format.specs.Records.{framed, HoldsRecords}
use Rattle.sq_outside.specs.File.{File, IsImage, settled, overwritten}
use Rattle.sq_outside.specs.Disk.{Two, AreSound, History, Leaves, LeavesOnly, LeavesRising}
use Rattle.sq_outside.proofs.Histories.{one_leaves}
use Rattle.sq_outside.proofs.Images.{settled_image}
use Rattle.sq_outside.proofs.Rising.{begin, rising_last, rising_up, rising_weaker, through, only_weaker, only_rises}
use Rattle.journal_keeper.specs.declared.fault.DiskFault.{DiskFault as DiskFailed}
use Rattle.journal_keeper.specs.declared.journal.Stage.{Stage}
use Rattle.journal_keeper.specs.declared.journal.Stage.TheVariants.{Unsynced, Reading, Ready, InDoubt}
use Rattle.journal_keeper.specs.Answers.{Repairs, Appends}
use Rattle.journal_keeper.specs.Kept.{IsKept, IsKeptAt}
use Rattle.journal_keeper.specs.Records.{IsPayload, IsRecord, payload_of}
use Rattle.journal_keeper.specs.Stages.{IsReclosed, Adds}
use Rattle.journal_keeper.specs.Stands.{Keeper, Stands, StandsOn, IsAt, IsStanding, is_read}
use Rattle.journal_keeper.specs.Texts.{IsText, IsClosed, Holds, HoldsAt, IsSettled, with_record}
use Rattle.journal_keeper.specs.Writes.{IsReplaced, IsOtherKept}
use Rattle.journal_keeper.proofs.Closing.{Reclosing, holds_shut, holds_replaced}
use Rattle.journal_keeper.proofs.KeptLaws.{kept, weaker, more_text}
use Rattle.journal_keeper.proofs.Others.{same, none_some}
use Rattle.journal_keeper.proofs.Others as others

abbrev K : List (List ℕ) → Option (List ℕ) → Two (List ℕ) → Type 0
K payloads doubt image = IsKept payloads doubt image.0

abbrev Unique : Type 0
Unique = (text : List ℕ) (a b : List (List ℕ)) → HoldsRecords text a → HoldsRecords text b → a ≡ b

-- a journal by its parts, at a stage that is known
pub staged : (end : ℕ) (stage known : Stage) (ahead : List ℕ) (old : Keeper) → record { end = end; stage = stage; ahead = ahead } ≡ old → old.stage ≡ known → record { end = end; stage = known; ahead = ahead } ≡ old
staged end stage known ahead old view is = subst (λ (s : Stage). record { end = end; stage = s; ahead = ahead } ≡ old) (ap (λ (k : Keeper). k.stage) view ∙ is) view

-- what holds of file 0 in each image of the last moment
pub last_file : (Q : List ℕ → Type 0) (old new : History) → AreSound new.now → LeavesOnly (λ image. Q image.0) (Some old) (Some new) → (image : List ℕ) → IsImage new.now.0.unsynced image → Q image
last_file Q old new sound run image is = one_leaves 0 Q new.now sound (rising_last (λ _ image. Q image.0) 0 0 old new run).leaves image is

module _ (unique : Unique) (end : ℕ) (window : List ℕ) (before after : Option History) where
  abbrev doubtful : Keeper
  doubtful = record { end = end; stage = InDoubt; ahead = window }

  abbrev ready : Keeper
  ready = record { end = end; stage = Ready; ahead = window }

  holds_run : (payloads : List (List ℕ)) (doubt : Option (List ℕ)) (old : History) (after : Option History) → (stands : StandsOn doubtful payloads doubt old.now.0) → LeavesOnly (λ image. IsReclosed end old.now.0.unsynced image.0) (Some old) after
      → LeavesOnly (λ image. Holds stands.text doubt image.0) (Some old) after
  holds_run payloads doubt old after stands run = only_weaker _ (λ image. Holds stands.text doubt image.0) (Some old) after (λ image is.
      holds_replaced stands.text doubt is.0 image.0 (stands.at is.0 is.1.0) (subst (λ (k : ℕ). IsReplaced k is.0 image.0) stands.end is.1.1)) run

  keeps_doubt : (b a : Option History) → Reclosing end b a → (payloads : List (List ℕ)) (doubt : Option (List ℕ)) → Stands doubtful payloads doubt b → LeavesOnly (K payloads doubt) b a
  keeps_doubt None a run payloads doubt stands = tt
  keeps_doubt (Some old) a run payloads doubt stands = only_weaker (λ image. Holds stands.text doubt image.0) (K payloads doubt) (Some old) a (λ image holds. kept unique payloads stands.text stands.is_text doubt image.0 holds)
      (holds_run payloads doubt old a stands run)

  still_doubt : (b a : Option History) → IsOtherKept b a → IfSome a (λ h. AreSound h.now) → Reclosing end b a → (payloads : List (List ℕ)) (doubt : Option (List ℕ)) → Stands doubtful payloads doubt b → Stands doubtful payloads doubt a
  still_doubt b None other sound run payloads doubt stands = tt
  still_doubt None (Some new) other sound run payloads doubt stands = absurd (none_some new other)
  still_doubt (Some old) (Some new) other sound run payloads doubt stands = record {
    text = stands.text;
    is_text = stands.is_text;
    end = stands.end;
    at = last_file (Holds stands.text doubt) old new sound (holds_run payloads doubt old (Some new) stands run);
  }

  ready_now : (b a : Option History) → IsOtherKept b a → IfSome b (λ h. IfSome a (λ new. (was : List ℕ) × (IsImage h.now.0.unsynced was × (new.now.0 ≡ settled (overwritten was end (0 ∷ []))))))
      → (payloads : List (List ℕ)) (doubt : Option (List ℕ)) → Stands doubtful payloads doubt b → Stands ready payloads None a
  ready_now b None other closed payloads doubt stands = tt
  ready_now None (Some new) other closed payloads doubt stands = absurd (none_some new other)
  ready_now (Some old) (Some new) other closed payloads doubt stands =
      let now : new.now.0 ≡ settled (overwritten closed.0 (length stands.text) (0 ∷ [])) = closed.1.1 ∙ ap (λ (k : ℕ). settled (overwritten closed.0 k (0 ∷ []))) stands.end in
      let reads = ap (λ (f : File). f.reads) now in
      record {
        text = stands.text;
        is_text = stands.is_text;
        end = stands.end;
        at = (refl, now ∙ ap settled (sym reads), subst (IsClosed stands.text) (sym reads) (holds_shut stands.text doubt closed.0 (stands.at closed.0 closed.1.0)));
      }

  not_ready : InDoubt ≡ Ready → ⊥
  not_ready e = cc

  pub close_failed : (old : Keeper) → doubtful ≡ old → (result : Result (Unit {0}) DiskFailed) (fault : DiskFailed) → result ≡ Err fault → IsOtherKept before after → IfSome after (λ h. AreSound h.now) → Reclosing end before after → Repairs old before result old after
  close_failed old view result fault is other sound run = subst (λ (k : Keeper). Repairs k before result k after) view (subst (λ (r : Result (Unit {0}) DiskFailed). Repairs doubtful before r doubtful after) (sym is) (record {
    moments = keeps_doubt before after run;
    stands = still_doubt before after other sound run;
    read = refl;
    ready = λ e. absurd (not_ready e);
    other = other;
  }))

  pub closed_up : (old : Keeper) → doubtful ≡ old → IsOtherKept before after → Reclosing end before after → IfSome before (λ h. IfSome after (λ new. (was : List ℕ) × (IsImage h.now.0.unsynced was × (new.now.0 ≡ settled (overwritten was end (0 ∷ []))))))
      → Repairs old before (Ok tt) ready after
  closed_up old view other run closed = subst (λ (k : Keeper). Repairs k before (Ok tt) ready after) view (record {
    moments = keeps_doubt before after run;
    stands = λ payloads doubt stands. (refl, ready_now before after other closed payloads doubt stands);
    read = refl;
    ready = λ e. absurd (not_ready e);
    other = other;
  })

-- where nothing is in doubt
pub ready_stage : (stage : Stage) → is_read stage ≡ true → (stage ≡ InDoubt → ⊥) → stage ≡ Ready
ready_stage Unsynced read other = absurd (let e : false ≡ true = read in cc)
ready_stage Reading read other = absurd (let e : false ≡ true = read in cc)
ready_stage Ready read other = refl
ready_stage InDoubt read other = absurd (other refl)

ready_at : (keeper : Keeper) (payloads : List (List ℕ)) (doubt : Option (List ℕ)) (file : File) → keeper.stage ≡ Ready → (stands : StandsOn keeper payloads doubt file) → IsAt Ready keeper.end keeper.ahead stands.text doubt file
ready_at keeper payloads doubt file stage stands = subst (λ (s : Stage). IsAt s keeper.end keeper.ahead stands.text doubt file) stage stands.at

-- each image of a file at rest is kept
ready_kept : Unique → (keeper : Keeper) (payloads : List (List ℕ)) (doubt : Option (List ℕ)) (history : History) → keeper.stage ≡ Ready → StandsOn keeper payloads doubt history.now.0 → Leaves (K payloads doubt) history.now
ready_kept unique keeper payloads doubt history stage stands =
    let at = ready_at keeper payloads doubt history.now.0 stage stands in
    λ image are. weaker payloads doubt image.0 (kept unique payloads stands.text stands.is_text None image.0
    (subst (IsClosed stands.text) (sym (settled_image history.now.0.reads image.0 (subst (λ (f : File). IsImage f.unsynced image.0) at.1 are.0))) at.2))

ready_stays : Unique → (keeper : Keeper) (before : Option History) → keeper.stage ≡ Ready → (payloads : List (List ℕ)) (doubt : Option (List ℕ)) → Stands keeper payloads doubt before → LeavesOnly (K payloads doubt) before before
ready_stays unique keeper None stage payloads doubt stands = tt
ready_stays unique keeper (Some old) stage payloads doubt stands = begin (λ _. K payloads doubt) 0 (Some old) (ready_kept unique keeper payloads doubt old stage stands)

ready_none : (keeper : Keeper) (before : Option History) → keeper.stage ≡ Ready → (payloads : List (List ℕ)) (doubt : Option (List ℕ)) → Stands keeper payloads doubt before → Stands keeper payloads None before
ready_none keeper None stage payloads doubt stands = tt
ready_none keeper (Some old) stage payloads doubt stands = subst (λ (d : Option (List ℕ)). StandsOn keeper payloads d old.now.0) (ready_at keeper payloads doubt old.now.0 stage stands).0 stands

pub nothing_done : Unique → (keeper : Keeper) (before : Option History) → keeper.stage ≡ Ready → Repairs keeper before (Ok tt) keeper before
nothing_done unique keeper before stage = record {
  moments = ready_stays unique keeper before stage;
  stands = λ payloads doubt stands. (stage, ready_none keeper before stage payloads doubt stands);
  read = ap is_read stage;
  ready = λ _. (refl, refl);
  other = same before;
}

-- a record is added to a file at rest
module _ (unique : Unique) (end : ℕ) (window record_text : List ℕ) (is_record : IsRecord record_text) (before after : Option History) where
  abbrev added : List ℕ
  added = payload_of record_text

  abbrev at_rest : Keeper
  at_rest = record { end = end; stage = Ready; ahead = window }

  -- what an addition to the file says of each text
  abbrev Adding : Option History → Option History → Type 0
  Adding b a = (text payload : List ℕ) → length text ≡ end → IsPayload payload → record_text ≡ framed payload ++ 0 ∷ [] → IfSome b (λ h. IsClosed text h.now.0.reads → LeavesRising (λ n image. HoldsAt text payload n image.0) 0 1 b a)

  abbrev Added : Option History → Option History → Type 0
  Added b a = (text payload : List ℕ) → length text ≡ end → IsPayload payload → record_text ≡ framed payload ++ 0 ∷ [] → IfSome b (λ h. IsClosed text h.now.0.reads → IfSome a (λ new. IsSettled new.now.0 × IsClosed (with_record text payload) new.now.0.reads))

  rises : (payloads : List (List ℕ)) (text : List ℕ) → IsText payloads text → (n : ℕ) (image : Two (List ℕ)) → HoldsAt text added n image.0 → IsKeptAt payloads None added n image.0
  rises payloads text is zero image holds = kept unique payloads text is None image.0 holds
  rises payloads text is (suc n) image holds = kept unique payloads text is (Some added) image.0 holds

  adding_moments : (b a : Option History) → Adding b a → (payloads : List (List ℕ)) → Stands at_rest payloads None b → LeavesRising (λ n image. IsKeptAt payloads None added n image.0) 0 1 b a
  adding_moments None a run payloads stands = tt
  adding_moments (Some old) a run payloads stands = rising_weaker _ _ 0 1 (Some old) a (rises payloads stands.text stands.is_text) (run stands.text added (sym stands.end) is_record.fits is_record.is stands.at.2)

  -- what the last moment holds
  last_holds : (text : List ℕ) (n : ℕ) (image : List ℕ) → HoldsAt text added n image → Holds text (Some added) image
  last_holds text zero image closed = inl closed
  last_holds text (suc n) image holds = holds

  abbrev doubt_left : Keeper
  doubt_left = record { end = end; stage = InDoubt; ahead = window }

  adding_failed : (b a : Option History) → IsOtherKept b a → IfSome a (λ h. AreSound h.now) → Adding b a → (payloads : List (List ℕ)) → Stands at_rest payloads None b → Stands doubt_left payloads (Some added) a
  adding_failed b None other sound run payloads stands = tt
  adding_failed None (Some new) other sound run payloads stands = absurd (none_some new other)
  adding_failed (Some old) (Some new) other sound run payloads stands =
      let rising = run stands.text added (sym stands.end) is_record.fits is_record.is stands.at.2 in
      let last = rising_last (λ n image. HoldsAt stands.text added n image.0) 0 1 old new rising in
      record {
        text = stands.text;
        is_text = stands.is_text;
        end = stands.end;
        at = λ image is. last_holds stands.text last.number image (one_leaves 0 (HoldsAt stands.text added last.number) new.now sound last.leaves image is);
      }

  abbrev longer : Keeper
  longer = record { end = end + length record_text; stage = Ready; ahead = window }

  end_is : (text : List ℕ) → end ≡ length text → end + length record_text ≡ length (with_record text added)
  end_is text here =
      let r = ap length is_record.is in
      let a = length-append (framed added) (0 ∷ []) in
      let b = length-append text (0x52 ∷ framed added) in
      omega (arith, r, a, b, here)

  adding_done : (b a : Option History) → IsOtherKept b a → Added b a → (payloads : List (List ℕ)) → Stands at_rest payloads None b → Stands longer (payloads ++ added ∷ []) None a
  adding_done b None other done payloads stands = tt
  adding_done None (Some new) other done payloads stands = absurd (none_some new other)
  adding_done (Some old) (Some new) other done payloads stands =
      let now = done stands.text added (sym stands.end) is_record.fits is_record.is stands.at.2 in
      record {
        text = with_record stands.text added;
        is_text = more_text payloads added stands.text is_record.fits stands.is_text;
        end = end_is stands.text stands.end;
        at = (refl, now.0, now.1);
      }

  pub add_failed : (old : Keeper) → at_rest ≡ old → (result : Result (Unit {0}) DiskFailed) (fault : DiskFailed) → result ≡ Err fault → IsOtherKept before after → IfSome after (λ h. AreSound h.now) → Adding before after → Adds old before added result doubt_left after
  add_failed old view result fault is other sound run = subst (λ (k : Keeper). Adds k before added result doubt_left after) view (subst (λ (r : Result (Unit {0}) DiskFailed). Adds at_rest before added r doubt_left after) (sym is)
      (record { moments = adding_moments before after run; stands = adding_failed before after other sound run; other = other }))

  pub add_done : (old : Keeper) → at_rest ≡ old → IsOtherKept before after → Adding before after → Added before after → Adds old before added (Ok tt) longer after
  add_done old view other run done = subst (λ (k : Keeper). Adds k before added (Ok tt) longer after) view
      (record { moments = adding_moments before after run; stands = adding_done before after other done; other = other })

-- an append is a repair, and then an addition
module _ (old mid : Keeper) (before between : Option History) (added : List ℕ) where
  pub repair_failed : (result result2 : Result (Unit {0}) DiskFailed) (fault fault2 : DiskFailed) → result ≡ Err fault → result2 ≡ Err fault2 → Repairs old before result mid between → Appends old before added result2 mid between
  repair_failed result result2 fault fault2 is is2 repairs = subst (λ (r : Result (Unit {0}) DiskFailed). Appends old before added r mid between) (sym is2) (by_fault (subst (λ (r : Result (Unit {0}) DiskFailed). Repairs old before r mid between) is repairs))
    where
      by_fault : Repairs old before (Err fault) mid between → Appends old before added (Err fault2) mid between
      by_fault r = record {
        moments = λ payloads doubt stands. rising_up (λ n image. IsKeptAt payloads doubt added n image.0) 0 0 1 before between (omega arith) (only_rises (λ n image. IsKeptAt payloads doubt added n image.0) 0 before between (r.moments payloads doubt stands));
        stands = λ payloads doubt stands. inl (r.stands payloads doubt stands);
        read = r.read;
        other = r.other;
      }

  pub mid_stage : Repairs old before (Ok tt) mid between → IsStanding old before → mid.stage ≡ Ready
  mid_stage repairs standing = (repairs.stands standing.0 standing.1.0 standing.1.1).0

  pub mid_stands : Repairs old before (Ok tt) mid between → IsStanding old before → IsStanding mid between
  mid_stands repairs standing = (standing.0, (None, (repairs.stands standing.0 standing.1.0 standing.1.1).1))

  module _ (new : Keeper) (after : Option History) (repairs : Repairs old before (Ok tt) mid between) where
    wider : (payloads : List (List ℕ)) (doubt : Option (List ℕ)) (n : ℕ) (image : Two (List ℕ)) → IsKeptAt payloads None added n image.0 → IsKeptAt payloads doubt added n image.0
    wider payloads doubt zero image is = weaker payloads doubt image.0 is
    wider payloads doubt (suc n) image is = is

    moments : (result : Result (Unit {0}) DiskFailed) → Adds mid between added result new after → (payloads : List (List ℕ)) (doubt : Option (List ℕ)) → Stands old payloads doubt before → LeavesRising (λ n image. IsKeptAt payloads doubt added n image.0) 0 1 before after
    moments result adds payloads doubt stands = through (λ n image. IsKeptAt payloads doubt added n image.0) 0 0 1 before between after
        (only_rises (λ n image. IsKeptAt payloads doubt added n image.0) 0 before between (repairs.moments payloads doubt stands))
        (rising_weaker _ _ 0 1 between after (wider payloads doubt) (adds.moments payloads (repairs.stands payloads doubt stands).1))

    pub addition_failed : is_read new.stage ≡ true → (result result2 : Result (Unit {0}) DiskFailed) (fault fault2 : DiskFailed) → result ≡ Err fault → result2 ≡ Err fault2 → Adds mid between added result new after → Appends old before added result2 new after
    addition_failed read result result2 fault fault2 is is2 adds = subst (λ (r : Result (Unit {0}) DiskFailed). Appends old before added r new after) (sym is2) (by_fault (subst (λ (r : Result (Unit {0}) DiskFailed). Adds mid between added r new after) is adds))
      where
        by_fault : Adds mid between added (Err fault) new after → Appends old before added (Err fault2) new after
        by_fault a = record {
          moments = moments (Err fault) a;
          stands = λ payloads doubt stands. inr (a.stands payloads (repairs.stands payloads doubt stands).1);
          read = read;
          other = others.through before between after repairs.other a.other;
        }

    pub appended : is_read new.stage ≡ true → Adds mid between added (Ok tt) new after → Appends old before added (Ok tt) new after
    appended read adds = record {
      moments = moments (Ok tt) adds;
      stands = λ payloads doubt stands. adds.stands payloads (repairs.stands payloads doubt stands).1;
      read = read;
      other = others.through before between after repairs.other adds.other;
    }

-- the bytes of a record's slice
pub same_added : (mid : Keeper) (between : Option History) (slice record_text : List ℕ) (result : Result (Unit {0}) DiskFailed) (new : Keeper) (after : Option History) → slice ≡ record_text
    → Adds mid between (payload_of slice) result new after → Adds mid between (payload_of record_text) result new after
same_added mid between slice record_text result new after is adds = subst (λ (l : List ℕ). Adds mid between (payload_of l) result new after) is adds

-- a stage at which nothing is in doubt
pub at_stage : Unique → (end : ℕ) (stage : Stage) (known : Stage) (ahead : List ℕ) (old : Keeper) (before : Option History) → record { end = end; stage = stage; ahead = ahead } ≡ old → stage ≡ known → (known ≡ InDoubt → ⊥) → is_read old.stage ≡ true
    → Repairs old before (Ok tt) old before
at_stage unique end stage known ahead old before view is other read = nothing_done unique old before (ready_stage old.stage read (λ e. other (sym is ∙ ap (λ (k : Keeper). k.stage) view ∙ e)))

pub not_unsynced : Unsynced ≡ InDoubt → ⊥
not_unsynced e = cc

pub not_reading : Reading ≡ InDoubt → ⊥
not_reading e = cc

pub ready_no_doubt : Ready ≡ InDoubt → ⊥
ready_no_doubt e = cc

-- a journal that was read
pub all_kept : Unique → (keeper : Keeper) (payloads : List (List ℕ)) (doubt : Option (List ℕ)) (history : History) → is_read keeper.stage ≡ true → StandsOn keeper payloads doubt history.now.0 → Leaves (K payloads doubt) history.now
all_kept unique keeper payloads doubt history read stands = by_stage keeper.stage refl
  where
    by_stage : (s : Stage) → keeper.stage ≡ s → Leaves (K payloads doubt) history.now
    by_stage Unsynced is = absurd (let e : false ≡ true = sym (ap is_read is) ∙ read in cc)
    by_stage Reading is = absurd (let e : false ≡ true = sym (ap is_read is) ∙ read in cc)
    by_stage Ready is = ready_kept unique keeper payloads doubt history is stands
    by_stage InDoubt is = λ image are. kept unique payloads stands.text stands.is_text doubt image.0 (subst (λ (s : Stage). IsAt s keeper.end keeper.ahead stands.text doubt history.now.0) is stands.at image.0 are.0)

-- it stands there still
pub appended_standing : (old new : Keeper) (before after : Option History) (added : List ℕ) (result : Result (Unit {0}) DiskFailed) → IsStanding old before → Appends old before added result new after → IsStanding new after
appended_standing old new before after added (Ok _) standing appends = (standing.0 ++ added ∷ [], (None, appends.stands standing.0 standing.1.0 standing.1.1))
appended_standing old new before after added (Err _) standing appends = ⊎_elim (λ s. (standing.0, (standing.1.0, s))) (λ s. (standing.0, (Some added, s))) (appends.stands standing.0 standing.1.0 standing.1.1)

pub repaired_standing : (old new : Keeper) (before after : Option History) (result : Result (Unit {0}) DiskFailed) → IsStanding old before → Repairs old before result new after → IsStanding new after
repaired_standing old new before after (Ok _) standing repairs = (standing.0, (None, (repairs.stands standing.0 standing.1.0 standing.1.1).1))
repaired_standing old new before after (Err _) standing repairs = (standing.0, (standing.1.0, repairs.stands standing.0 standing.1.0 standing.1.1))
