-- What the next record is.
use Rattle.std.proofs.Common.{◌≡◌, inl, ℕ, ◌+◌, true, false, List, [], ◌∷◌, ◌++◌, length, drop, Option, None, Some, IfSome, Result, Ok, Err, refl, sym, ◌∙◌, ap, subst, arith, append_assoc, length-append}
use Rattle.std.proofs.Math.Seq.{drop-append_seam}
use Rattle.journal_format.specs.Records.{framed, is_closed}
use Rattle.journal_format.specs.Spelling.{big_endian}
use Rattle.sq_outside.specs.File.{File, settled}
use Rattle.sq_outside.specs.Disk.{History}
use Rattle.journal_keeper.specs.declared.fault.OpenFault.{OpenFault}
use Rattle.journal_keeper.specs.declared.fault.OpenFault.TheVariants.{NotAJournal, Version, BadRecord, DiskFault, NoMemory}
use Rattle.journal_keeper.specs.declared.journal.Stage.{Stage}
use Rattle.journal_keeper.specs.declared.journal.Stage.TheVariants.{Reading}
use Rattle.journal_keeper.specs.Answers.{IsNext, ReadsNext, read_after, IsUnwritten}
use Rattle.journal_keeper.specs.Kept.{Recovers}
use Rattle.journal_keeper.specs.Records.{BeginsWithRecord}
use Rattle.journal_keeper.specs.Reading.{ReadsRecord, end_after}
use Rattle.journal_keeper.specs.Stages.{Settles, Finishes}
use Rattle.journal_keeper.specs.Stands.{Keeper, Stands, StandsOn, IsAt, IsAhead, IsStanding, is_read}
use Rattle.journal_keeper.specs.Texts.{with_record}
use Rattle.journal_keeper.specs.Writes.{IsOtherKept}
use Rattle.journal_keeper.proofs.KeptLaws.{held, more_text}
use Rattle.journal_keeper.proofs.Opening.{keeps_same, keeps_then}
use Rattle.journal_keeper.proofs.Others as others

true_false : false ≡ true → ⊥
true_false e = cc

at_reading : (keeper : Keeper) (payloads : List (List ℕ)) (doubt : Option (List ℕ)) (file : File) → keeper.stage ≡ Reading → (stands : StandsOn keeper payloads doubt file) → IsAt Reading keeper.end keeper.ahead stands.text doubt file
at_reading keeper payloads doubt file stage stands = subst (λ (s : Stage). IsAt s keeper.end keeper.ahead stands.text doubt file) stage stands.at

rest_of : (keeper : Keeper) (payloads : List (List ℕ)) (doubt : Option (List ℕ)) (file : File) → (stage : keeper.stage ≡ Reading) → (stands : StandsOn keeper payloads doubt file) → drop keeper.end file.reads ≡ (at_reading keeper payloads doubt file stage stands).2.rest
rest_of keeper payloads doubt file stage stands =
    let begins = (at_reading keeper payloads doubt file stage stands).2 in
    ap (drop keeper.end) begins.is ∙ ap (λ (k : ℕ). drop k (stands.text ++ begins.rest)) stands.end ∙ drop-append_seam stands.text begins.rest

module _ (old new : Keeper) (before after : Option History) (stage : old.stage ≡ Reading) (standing : IsStanding old before) where
  -- what was read is true of the file
  answered : (result : Result (Option (List ℕ)) OpenFault) → ReadsRecord old before result new after → IfSome before (λ h. IsNext old.end (drop old.end h.now.0.reads) result × (new.end ≡ end_after old.end result) × IsAhead new.end h.now.0.reads new.ahead)
  answered result reads = by_before before standing reads.answer
    where
      by_before : (b : Option History) → IsStanding old b → IfSome b (λ h. IsAhead old.end h.now.0.reads old.ahead → IsNext old.end (drop old.end h.now.0.reads) result × (new.end ≡ end_after old.end result) × IsAhead new.end h.now.0.reads new.ahead)
          → IfSome b (λ h. IsNext old.end (drop old.end h.now.0.reads) result × (new.end ≡ end_after old.end result) × IsAhead new.end h.now.0.reads new.ahead)
      by_before None s answer = tt
      by_before (Some h) s answer = answer (at_reading old s.0 s.1.0 h.now.0 stage s.1.1).3

  pub only_answer : (result : Result (Option (List ℕ)) OpenFault) → ReadsRecord old before result new after → IfSome before (λ h. IsNext old.end (drop old.end h.now.0.reads) result)
  only_answer result reads = by_before before (answered result reads)
    where
      by_before : (b : Option History) → IfSome b (λ h. IsNext old.end (drop old.end h.now.0.reads) result × (new.end ≡ end_after old.end result) × IsAhead new.end h.now.0.reads new.ahead) → IfSome b (λ h. IsNext old.end (drop old.end h.now.0.reads) result)
      by_before None a = tt
      by_before (Some h) a = a.0

  unwritten_still : after ≡ before → IfSome before (λ h. IfSome after (λ n. n.now.0 ≡ settled h.now.0.reads))
  unwritten_still kept = by_before before after standing kept
    where
      by_before : (b a : Option History) → IsStanding old b → a ≡ b → IfSome b (λ h. IfSome a (λ n. n.now.0 ≡ settled h.now.0.reads))
      by_before None a s k = tt
      by_before (Some h) a s k = subst (λ (o : Option History). IfSome o (λ n. n.now.0 ≡ settled h.now.0.reads)) (sym k) (at_reading old s.0 s.1.0 h.now.0 stage s.1.1).1

  -- where nothing was read it stands as before
  pub stands_still : (result : Result (Option (List ℕ)) OpenFault) → end_after old.end result ≡ old.end → ReadsRecord old before result new after → (payloads : List (List ℕ)) (doubt : Option (List ℕ)) → Stands old payloads doubt before → Stands new payloads doubt after
  stands_still result at reads payloads doubt stands = subst (Stands new payloads doubt) (sym reads.kept) (by_before before stands (answered result reads))
    where
      by_before : (b : Option History) → Stands old payloads doubt b → IfSome b (λ h. IsNext old.end (drop old.end h.now.0.reads) result × (new.end ≡ end_after old.end result) × IsAhead new.end h.now.0.reads new.ahead) → Stands new payloads doubt b
      by_before None s a = tt
      by_before (Some h) s a =
          let there = at_reading old payloads doubt h.now.0 stage s in
          record {
            text = s.text;
            is_text = s.is_text;
            end = a.1 ∙ at ∙ s.end;
            at = subst (λ (t : Stage). IsAt t new.end new.ahead s.text doubt h.now.0) (sym (reads.stage ∙ stage)) (there.0, there.1, there.2, a.2);
          }

  longer_text : (text payload : List ℕ) (end : ℕ) → end ≡ length text → end + 5 + length payload ≡ length (with_record text payload)
  longer_text text payload end is =
      let a = length-append text (0x52 ∷ framed payload) in
      let b = length-append (big_endian 4 (length payload)) payload in
      omega (arith, a, b, is)

  stands_on : (payload : List ℕ) → ReadsRecord old before (Ok (Some payload)) new after → (payloads : List (List ℕ)) (doubt : Option (List ℕ)) → Stands old payloads doubt before → Stands new (payloads ++ payload ∷ []) doubt after
  stands_on payload reads payloads doubt stands = subst (Stands new (payloads ++ payload ∷ []) doubt) (sym reads.kept) (by_before before stands (answered (Ok (Some payload)) reads))
    where
      by_before : (b : Option History) → Stands old payloads doubt b → IfSome b (λ h. BeginsWithRecord payload (drop old.end h.now.0.reads) × (new.end ≡ old.end + 5 + length payload) × IsAhead new.end h.now.0.reads new.ahead) → Stands new (payloads ++ payload ∷ []) doubt b
      by_before None s a = tt
      by_before (Some h) s a =
          let there = at_reading old payloads doubt h.now.0 stage s in
          let rest = sym (rest_of old payloads doubt h.now.0 stage s) ∙ a.0.is in
          record {
            text = with_record s.text payload;
            is_text = more_text payloads payload s.text a.0.fits s.is_text;
            end = a.1 ∙ longer_text s.text payload old.end s.end;
            at = subst (λ (t : Stage). IsAt t new.end new.ahead (with_record s.text payload) doubt h.now.0) (sym (reads.stage ∙ stage))
                (there.0, there.1, record { rest = a.0.rest; is = there.2.is ∙ ap (λ (l : List ℕ). s.text ++ l) rest ∙ sym (append_assoc s.text (0x52 ∷ framed payload) a.0.rest) }, a.2);
          }

  pub next_some : (payload : List ℕ) → ReadsRecord old before (Ok (Some payload)) new after → ReadsNext old before (Ok (Some payload)) new after
  next_some payload reads = record {
    answer = only_answer (Ok (Some payload)) reads;
    stands = stands_on payload reads;
    stage = ap is_read (reads.stage ∙ stage);
    all = λ e. absurd (true_false e);
    unwritten = unwritten_still reads.kept;
    any_moment = keeps_same before after reads.kept;
    other = others.stays before after reads.kept;
  }

  written_or_not : (fault : OpenFault) → after ≡ before → IsUnwritten (Err fault) before after
  written_or_not (NotAJournal f) kept = unwritten_still kept
  written_or_not (Version f n) kept = unwritten_still kept
  written_or_not (BadRecord at) kept = unwritten_still kept
  written_or_not DiskFault kept = tt
  written_or_not NoMemory kept = unwritten_still kept

  pub next_fault : (result result2 : Result (Option (List ℕ)) OpenFault) (fault : OpenFault) → result ≡ Err fault → result2 ≡ Err fault → ReadsRecord old before result new after → ReadsNext old before result2 new after
  next_fault result result2 fault is is2 reads = subst (λ (r : Result (Option (List ℕ)) OpenFault). ReadsNext old before r new after) (sym is2) (by_fault (subst (λ (r : Result (Option (List ℕ)) OpenFault). ReadsRecord old before r new after) is reads))
    where
      by_fault : ReadsRecord old before (Err fault) new after → ReadsNext old before (Err fault) new after
      by_fault r = record {
        answer = only_answer (Err fault) r;
        stands = stands_still (Err fault) refl r;
        stage = ap is_read (r.stage ∙ stage);
        all = λ e. absurd (true_false e);
        unwritten = written_or_not fault r.kept;
        any_moment = keeps_same before after r.kept;
        other = others.stays before after r.kept;
      }

  -- all payloads are those that the file recovers
  all_read : ReadsRecord old before (Ok None) new after → (payloads : List (List ℕ)) (doubt : Option (List ℕ)) → Stands old payloads doubt before → IfSome before (λ h. Recovers payloads h.now.0.reads)
  all_read reads payloads doubt stands = by_before before stands (only_answer (Ok None) reads)
    where
      by_before : (b : Option History) → Stands old payloads doubt b → IfSome b (λ h. is_closed (drop old.end h.now.0.reads) ≡ true) → IfSome b (λ h. Recovers payloads h.now.0.reads)
      by_before None s c = tt
      by_before (Some h) s c =
          let begins = (at_reading old payloads doubt h.now.0 stage s).2 in
          inl (held payloads s.text begins.rest h.now.0.reads s.is_text (ap is_closed (sym (rest_of old payloads doubt h.now.0 stage s)) ∙ c) begins.is)

  module _ (reads : ReadsRecord old before (Ok None) new after) (last : Keeper) (final : Option History) where
    pub is_end_there : IfSome after (λ h. is_closed (drop new.end h.now.0.reads) ≡ true)
    is_end_there = subst (λ (o : Option History). IfSome o (λ h. is_closed (drop new.end h.now.0.reads) ≡ true)) (sym reads.kept) (by_before before (answered (Ok None) reads))
      where
        by_before : (b : Option History) → IfSome b (λ h. (is_closed (drop old.end h.now.0.reads) ≡ true) × (new.end ≡ old.end) × IsAhead new.end h.now.0.reads new.ahead) → IfSome b (λ h. is_closed (drop new.end h.now.0.reads) ≡ true)
        by_before None a = tt
        by_before (Some h) a = ap (λ (k : ℕ). is_closed (drop k h.now.0.reads)) a.1 ∙ a.0

    pub standing_still : IsStanding new after
    standing_still = (standing.0, (standing.1.0, stands_still (Ok None) refl reads standing.0 standing.1.0 standing.1.1))

    nothing : IfSome before (λ _. Unit {0})
    nothing = by_before before
      where
        by_before : (b : Option History) → IfSome b (λ _. Unit {0})
        by_before None = tt
        by_before (Some h) = tt

    pub end_failed : (result : Result (Unit {0}) OpenFault) (result2 : Result (Option (List ℕ)) OpenFault) (fault fault2 : OpenFault) → result ≡ Err fault → result2 ≡ Err fault2 → fault2 ≡ DiskFault → Finishes new after result last final → ReadsNext old before result2 last final
    end_failed result result2 fault fault2 is is2 disk finishes = subst (λ (r : Result (Option (List ℕ)) OpenFault). ReadsNext old before r last final) (sym (is2 ∙ ap Err disk)) (by_fault (subst (λ (r : Result (Unit {0}) OpenFault). Finishes new after r last final) is finishes))
      where
        by_fault : Finishes new after (Err fault) last final → ReadsNext old before (Err DiskFault) last final
        by_fault f = record {
          answer = nothing;
          stands = λ payloads doubt stands. f.stands payloads doubt (stands_still (Ok None) refl reads payloads doubt stands);
          stage = ap is_read f.stage;
          all = λ e. absurd (true_false e);
          unwritten = tt;
          any_moment = keeps_then before after final (keeps_same before after reads.kept) f.any_moment;
          other = others.through before after final (others.stays before after reads.kept) f.other;
        }

    pub ended : Finishes new after (Ok tt) last final → ReadsNext old before (Ok None) last final
    ended f = record {
      answer = only_answer (Ok None) reads;
      stands = λ payloads doubt stands. f.stands payloads doubt (stands_still (Ok None) refl reads payloads doubt stands);
      stage = ap is_read f.stage;
      all = λ _. all_read reads;
      unwritten = tt;
      any_moment = keeps_then before after final (keeps_same before after reads.kept) f.any_moment;
      other = others.through before after final (others.stays before after reads.kept) f.other;
    }

-- after a sync
module _ (old mid : Keeper) (before between : Option History) where
  pub standing_synced : (result : Result (Unit {0}) OpenFault) → IsStanding old before → Settles old before result mid between → IsStanding mid between
  standing_synced result standing settles = (standing.0, (standing.1.0, settles.stands standing.0 standing.1.0 standing.1.1))

  nothing_told : IfSome before (λ _. Unit {0})
  nothing_told = by_before before
    where
      by_before : (b : Option History) → IfSome b (λ _. Unit {0})
      by_before None = tt
      by_before (Some h) = tt

  pub not_settled : (result : Result (Unit {0}) OpenFault) (result2 : Result (Option (List ℕ)) OpenFault) (fault fault2 : OpenFault) → result ≡ Err fault → result2 ≡ Err fault2 → fault2 ≡ fault → Settles old before result mid between → ReadsNext old before result2 mid between
  not_settled result result2 fault fault2 is is2 same settles =
      let s = subst (λ (r : Result (Unit {0}) OpenFault). Settles old before r mid between) is settles in
      subst (λ (r : Result (Option (List ℕ)) OpenFault). ReadsNext old before r mid between) (sym (is2 ∙ ap Err (same ∙ s.fault))) (record {
        answer = nothing_told;
        stands = s.stands;
        stage = ap is_read s.stage;
        all = λ e. absurd (true_false e);
        unwritten = tt;
        any_moment = s.any_moment;
        other = s.other;
      })

  module _ (settles : Settles old before (Ok tt) mid between) (new : Keeper) (after : Option History) where
    abbrev Reads : Option History → Option History → Type 0
    Reads b m = IfSome b (λ h. IfSome m (λ n. n.now.0 ≡ settled h.now.0.reads))

    answer_before : (result : Result (Option (List ℕ)) OpenFault) (b m : Option History) → IsOtherKept b m → Reads b m → IfSome m (λ h. IsNext mid.end (drop mid.end h.now.0.reads) result) → IfSome b (λ h. IsNext old.end (drop old.end h.now.0.reads) result)
    answer_before result None m o r a = tt
    answer_before result (Some h) None o r a = absurd o
    answer_before result (Some h) (Some n) o r a = subst (λ (k : ℕ). IsNext k (drop k h.now.0.reads) result) settles.end (subst (λ (l : List ℕ). IsNext mid.end (drop mid.end l) result) (ap (λ (f : File). f.reads) r) a)

    recovers_before : (payloads : List (List ℕ)) (b m : Option History) → IsOtherKept b m → Reads b m → IfSome m (λ h. Recovers payloads h.now.0.reads) → IfSome b (λ h. Recovers payloads h.now.0.reads)
    recovers_before payloads None m o r a = tt
    recovers_before payloads (Some h) None o r a = absurd o
    recovers_before payloads (Some h) (Some n) o r a = subst (Recovers payloads) (ap (λ (f : File). f.reads) r) a

    unwritten_before : (b m a : Option History) → IsOtherKept b m → Reads b m → Reads m a → Reads b a
    unwritten_before None m a o r w = tt
    unwritten_before (Some h) None a o r w = absurd o
    unwritten_before (Some h) (Some n) None o r w = tt
    unwritten_before (Some h) (Some n) (Some l) o r w = w ∙ ap settled (ap (λ (f : File). f.reads) r)

    is_unwritten : (result : Result (Option (List ℕ)) OpenFault) → IsUnwritten result between after → IsUnwritten result before after
    is_unwritten (Ok None) w = tt
    is_unwritten (Ok (Some p)) w = unwritten_before before between after settles.other settles.reads w
    is_unwritten (Err (NotAJournal f)) w = unwritten_before before between after settles.other settles.reads w
    is_unwritten (Err (Version f n)) w = unwritten_before before between after settles.other settles.reads w
    is_unwritten (Err (BadRecord at)) w = unwritten_before before between after settles.other settles.reads w
    is_unwritten (Err DiskFault) w = tt
    is_unwritten (Err NoMemory) w = unwritten_before before between after settles.other settles.reads w

    pub read_again : (result : Result (Option (List ℕ)) OpenFault) → ReadsNext mid between result new after → ReadsNext old before result new after
    read_again result next = record {
      answer = answer_before result before between settles.other settles.reads next.answer;
      stands = λ payloads doubt stands. next.stands payloads doubt (settles.stands payloads doubt stands);
      stage = next.stage;
      all = λ e payloads doubt stands. recovers_before payloads before between settles.other settles.reads (next.all e payloads doubt (settles.stands payloads doubt stands));
      unwritten = is_unwritten result next.unwritten;
      any_moment = keeps_then before between after settles.any_moment next.any_moment;
      other = others.through before between after settles.other next.other;
    }

pub known : (old : Keeper) (before : Option History) (option is : Option (List ℕ)) (new : Keeper) (after : Option History) → option ≡ is → ReadsRecord old before (Ok option) new after → ReadsRecord old before (Ok is) new after
known old before option is new after same reads = subst (λ (o : Option (List ℕ)). ReadsRecord old before (Ok o) new after) same reads

-- it stands there still
pub next_standing : (old new : Keeper) (before after : Option History) (result : Result (Option (List ℕ)) OpenFault) → IsStanding old before → ReadsNext old before result new after → IsStanding new after
next_standing old new before after result standing next = (read_after standing.0 result, (standing.1.0, next.stands standing.0 standing.1.0 standing.1.1))
