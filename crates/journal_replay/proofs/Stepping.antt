-- What reading on comes to, record by record.
use Rattle.std.proofs.Common.{◌≡◌, ℕ, false, List, [], ◌∷◌, ◌++◌, take, drop, map, Option, None, Some, IfSome, Ok, Err, refl, sym, ◌∙◌, ap, subst, append_assoc}
use Rattle.std.proofs.Math.Seq.{take-append_seam, drop-append_seam}
use Rattle.std.proofs.lemmas.Bool.{true≢false}
use Rattle.std.proofs.lemmas.Grind.{flat_map-append}
use Rattle.std.proofs.lemmas.List.{append-nil, map-append}
use Rattle.std.proofs.lemmas.List.Elements.{All-append, All-cons, All-nil}
use Rattle.std.specs.List.{flat_map}
use Rattle.job_states.specs.declared.transition.Transaction.{Transaction}
use Rattle.journal_format.specs.Header.{header}
use Rattle.journal_format.specs.Payload.{HasText}
use Rattle.journal_format.specs.Records.{is_closed, records}
use Rattle.journal_format.specs.Spelling.{payload}
use Rattle.journal_format.proofs.RecordLaws.{frame_once}
use Rattle.journal_keeper.specs.Answers.{IsRecordCause, IsRefusedFor, ReadsNext}
use Rattle.journal_keeper.specs.Records.{BeginsWithRecord}
use Rattle.journal_keeper.specs.Stands.{IsAt, Keeper, Stands, StandsOn, is_read}
use Rattle.journal_keeper.specs.Texts.{Begins}
use Rattle.journal_keeper.specs.declared.fault.OpenFault.{OpenFault}
use Rattle.journal_keeper.specs.declared.fault.OpenFault.TheVariants.{BadRecord, DiskFault, NoMemory, NotAJournal, Version}
use Rattle.journal_keeper.specs.declared.journal.Stage.{Stage}
use Rattle.journal_keeper.specs.declared.journal.Stage.TheVariants.{InDoubt, Reading, Ready, Unsynced}
use Rattle.journal_keeper.proofs.KeptLaws.{text_long}
use Rattle.queue_model.specs.GoodWorld.{IsGood}
use Rattle.queue_model.specs.Replay.{replay}
use Rattle.queue_model.specs.World.{World, empty}
use Rattle.sq_outside.specs.Disk.{AreSound, History}
use Rattle.sq_outside.specs.File.{File, IsSound, settled}
use Rattle.journal_replay.specs.Opening.{Opens}
use Rattle.journal_replay.specs.Records.{IsBadAt, Spells, StandFor}
use Rattle.journal_replay.specs.Taking.{IsBadFor, IsIllegal, IsStepFault, ReadsAlike, Replays, Takes}
use Rattle.journal_replay.proofs.Replayed.{in_turn}

-- ---- a record more

more_transactions : (spelled : List (List Transaction)) (txs : List Transaction) → flat_map (λ t. t) (spelled ++ txs ∷ []) ≡ flat_map (λ t. t) spelled ++ txs
more_transactions spelled txs = flat_map-append (λ t. t) spelled (txs ∷ []) ∙ ap (λ l. flat_map (λ t. t) spelled ++ l) (append-nil txs)

pub one_record : (bytes : List ℕ) (payloads : List (List ℕ)) (w v : World) → StandFor payloads w → Takes bytes w v → StandFor (payloads ++ bytes ∷ []) v
one_record bytes payloads w v stand_for takes =
    let txs = takes.txs in
    let before = stand_for.spelled in
    record {
      spelled = before ++ txs ∷ [];
      have_texts = All-append HasText before (txs ∷ []) stand_for.have_texts (All-cons HasText txs [] takes.spelled.has_text (All-nil HasText));
      are = ap (λ (ps : List (List ℕ)). ps ++ bytes ∷ []) stand_for.are ∙ ap (λ (b : List ℕ). map payload before ++ b ∷ []) takes.spelled.is ∙ sym (map-append payload before (txs ∷ []));
      world = ap (replay empty) (more_transactions before txs) ∙ in_turn empty w (flat_map (λ t. t) before) txs stand_for.world ∙ takes.world;
    }

-- ---- where a journal stands

begins : (keeper : Keeper) (payloads : List (List ℕ)) (file : File) → IsSound file → is_read keeper.stage ≡ false → (stands : StandsOn keeper payloads None file) → Begins stands.text file.reads
begins keeper payloads file sound unread stands = by keeper.stage unread stands.at
  where
    by : (stage : Stage) → is_read stage ≡ false → IsAt stage keeper.end keeper.ahead stands.text None file → Begins stands.text file.reads
    by Unsynced e at = at.1 file.reads sound.reads
    by Reading e at = at.2
    by Ready e at = absurd (true≢false e)
    by InDoubt e at = absurd (true≢false e)

-- the open gate there is bad
found_bad : (keeper : Keeper) (w : World) (payloads : List (List ℕ)) (file : File) → IsSound file → is_read keeper.stage ≡ false → StandFor payloads w → StandsOn keeper payloads None file
    → is_closed (drop keeper.end file.reads) ≡ false → ((bytes : List ℕ) (txs : List Transaction) → BeginsWithRecord bytes (drop keeper.end file.reads) → Spells bytes txs → replay w txs ≡ None)
    → IsBadAt file.reads keeper.end
found_bad keeper w payloads file sound unread stand_for stands is_open bad =
    let text = stands.is_text in
    let there = begins keeper payloads file sound unread stands in
    let all : file.reads ≡ header text.turn ++ (records payloads ++ there.rest) = there.is ∙ ap (λ (l : List ℕ). l ++ there.rest) text.is ∙ append_assoc (header text.turn) (records payloads) there.rest in
    let rest : drop keeper.end file.reads ≡ there.rest = ap (drop keeper.end) there.is ∙ ap (λ (k : ℕ). drop k (stands.text ++ there.rest)) stands.end ∙ drop-append_seam stands.text there.rest in
    record {
      turn = text.turn;
      live = (text.small, ap (take 16) all ∙ take-append_seam (header text.turn) (records payloads ++ there.rest));
      payloads = payloads;
      lengths = text.lengths;
      rest = there.rest;
      text = ap (drop 16) all ∙ drop-append_seam (header text.turn) (records payloads ++ there.rest);
      here = stands.end ∙ text_long payloads stands.text text;
      world = w;
      stand_for = stand_for;
      is_open = ap is_closed (sym rest) ∙ is_open;
      bad = λ bytes txs record_there spells. bad bytes txs (subst (BeginsWithRecord bytes) (sym rest) record_there) spells;
    }

-- one record stands there
tail_is : (x y : List ℕ) → 0x52 ∷ x ≡ 0x52 ∷ y → x ≡ y
tail_is x y e = cc

same_record : (a b text : List ℕ) → BeginsWithRecord a text → BeginsWithRecord b text → a ≡ b
same_record a b text this that = (frame_once a b this.rest that.rest this.fits that.fits (tail_is _ _ (sym this.is ∙ that.is))).0

-- ---- one step

pub moved : (here place : ℕ) (read bytes : List ℕ) (w : World) (fault : OpenFault) → here ≡ place → read ≡ bytes → IsBadFor here (IsIllegal read w) fault → IsBadFor place (IsIllegal bytes w) fault
moved here place read bytes w fault at same h = subst (λ (p : ℕ). IsBadFor p (IsIllegal bytes w) fault) at (subst (λ (b : List ℕ). IsBadFor here (IsIllegal b w) fault) same h)

pub known : (old new : Keeper) (before after : Option History) (option is : Option (List ℕ)) → option ≡ is → ReadsNext old before (Ok option) new after → ReadsNext old before (Ok is) new after
known old new before after option is same next = subst (λ (o : Option (List ℕ)). ReadsNext old before (Ok o) new after) same next

module _ (old new : Keeper) (w : World) (before after : Option History) (sound : IfSome before (λ h. AreSound h.now)) (replays : Replays old w before) where
  bad_frame : (at : ℕ) → ReadsNext old before (Err (BadRecord at)) new after → IsRefusedFor (λ file. IsBadAt file at) before after
  bad_frame at next = by before sound replays.stands next.answer next.unwritten
    where
      by : (b : Option History) → IfSome b (λ h. AreSound h.now) → Stands old replays.payloads None b
          → IfSome b (λ h. (at ≡ old.end) × (is_closed (drop old.end h.now.0.reads) ≡ false) × ((bytes : List ℕ) → BeginsWithRecord bytes (drop old.end h.now.0.reads) → ⊥))
          → IfSome b (λ h. IfSome after (λ n. n.now.0 ≡ settled h.now.0.reads)) → IsRefusedFor (λ file. IsBadAt file at) b after
      by None sound stands answer unwritten = tt
      by (Some h) sound stands answer unwritten =
          (subst (IsBadAt h.now.0.reads) (sym answer.0) (found_bad old w replays.payloads h.now.0 sound.0 replays.unread replays.stand_for stands answer.1 (λ bytes txs here spells. absurd (answer.2 bytes here))), unwritten)

  pub frame_fault : (fault : OpenFault) (faults now : ℕ) → ReadsNext old before (Err fault) new after → IsRecordCause faults now fault → IsStepFault before after fault
  frame_fault (NotAJournal f) faults now next cause = cause
  frame_fault (Version f n) faults now next cause = cause
  frame_fault (BadRecord at) faults now next cause = bad_frame at next
  frame_fault DiskFault faults now next cause = tt
  frame_fault NoMemory faults now next cause = tt

  module _ (bytes : List ℕ) (next : ReadsNext old before (Ok (Some bytes)) new after) where
    bad_text : (at : ℕ) → at ≡ old.end → IsIllegal bytes w → IsRefusedFor (λ file. IsBadAt file at) before after
    bad_text at place illegal = by before sound replays.stands next.answer next.unwritten
      where
        by : (b : Option History) → IfSome b (λ h. AreSound h.now) → Stands old replays.payloads None b → IfSome b (λ h. BeginsWithRecord bytes (drop old.end h.now.0.reads))
            → IfSome b (λ h. IfSome after (λ n. n.now.0 ≡ settled h.now.0.reads)) → IsRefusedFor (λ file. IsBadAt file at) b after
        by None sound stands answer unwritten = tt
        by (Some h) sound stands answer unwritten =
            let text = drop old.end h.now.0.reads in (
              subst (IsBadAt h.now.0.reads) (sym place) (found_bad old w replays.payloads h.now.0 sound.0 replays.unread replays.stand_for stands (ap is_closed answer.is)
                  (λ other txs here spells. illegal txs (subst (λ (b : List ℕ). Spells b txs) (same_record other bytes text here answer) spells))),
              unwritten,
            )

    pub text_fault : (fault : OpenFault) → IsBadFor old.end (IsIllegal bytes w) fault → IsStepFault before after fault
    text_fault (NotAJournal f) bad = bad
    text_fault (Version f n) bad = bad
    text_fault (BadRecord at) bad = bad_text at bad.0 bad.1
    text_fault DiskFault bad = absurd bad
    text_fault NoMemory bad = tt

    pub goes_on : (v : World) → Takes bytes w v → Replays new v after
    goes_on v takes = record {
      payloads = replays.payloads ++ bytes ∷ [];
      stand_for = one_record bytes replays.payloads w v replays.stand_for takes;
      stands = next.stands replays.payloads None replays.stands;
      unread = next.stage;
    }

    pub reads_alike : ReadsAlike before after
    reads_alike = by before next.unwritten
      where
        by_after : (h : History) (a : Option History) → IfSome a (λ n. n.now.0 ≡ settled h.now.0.reads) → IfSome a (λ n. n.now.0.reads ≡ h.now.0.reads)
        by_after h None same = tt
        by_after h (Some n) same = ap (λ (f : File). f.reads) same

        by : (b : Option History) → IfSome b (λ h. IfSome after (λ n. n.now.0 ≡ settled h.now.0.reads)) → ReadsAlike b after
        by None unwritten = tt
        by (Some h) unwritten = by_after h after unwritten

  pub ends : ((end : World) (txs : List Transaction) → IsGood empty → replay empty txs ≡ Some end → IsGood end) → IsGood empty → ReadsNext old before (Ok None) new after → Opens new w before after
  ends stays first next = record {
    payloads = replays.payloads;
    recovered = next.all refl replays.payloads None replays.stands;
    stand_for = replays.stand_for;
    good = stays w (flat_map (λ t. t) replays.stand_for.spelled) first replays.stand_for.world;
    stands = next.stands replays.payloads None replays.stands;
    read = next.stage;
  }
