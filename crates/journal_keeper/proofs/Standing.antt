-- A journal stands on a disk: at its opening, while it is read, and at its end.
use Rattle.std.proofs.Common.{◌≡◌, ℕ, ◌<◌, List, [], ◌∷◌, ◌++◌, drop, Option, None, Some, IfSome, refl, sym, ◌∙◌, ap, subst, arith}
use Rattle.std.proofs.lemmas.List.{append-nil, take-append-drop}
use Rattle.std.proofs.lemmas.List.Elements.{All-nil}
use Rattle.journal_format.specs.Header.{header}
use Rattle.sq_outside.specs.File.{File, settled}
use Rattle.sq_outside.specs.Disk.{History}
use Rattle.journal_keeper.specs.declared.journal.Stage.TheVariants.{Reading}
use Rattle.journal_format.specs.declared.file_header.Heading.{Heading}
use Rattle.journal_format.specs.declared.file_header.Heading.TheVariants.{Live}
use Rattle.journal_keeper.specs.Files.{IsLiveFile, IsFileOf}
use Rattle.journal_keeper.specs.Making.{new_journal}
use Rattle.journal_keeper.specs.Records.{IsPayload}
use Rattle.journal_keeper.specs.Stands.{Keeper, Stands, StandsOn}
use Rattle.journal_keeper.specs.Writes.{IsOtherKept}

-- before the first record
abbrev pub at_start : Keeper
at_start = record { end = 16; stage = Reading; ahead = [] }

start_on : (turn : ℕ) (rest : List ℕ) (file : File) → turn < 3 → file ≡ settled (header turn ++ rest) → StandsOn at_start [] None file
start_on turn rest file small is =
    let reads = ap (λ (f : File). f.reads) is in
    record {
      text = header turn;
      is_text = record { turn = turn; small = small; lengths = All-nil IsPayload; is = sym (append-nil (header turn)) };
      end = refl;
      at = (refl, is ∙ ap settled (sym reads), record { rest = rest; is = reads }, refl);
    }

pub live_stands : (keeper : Keeper) (heading : Heading) (turn : ℕ) (before after : Option History) → keeper ≡ at_start → heading ≡ Live turn → IsOtherKept before after → IfSome before (λ old. IsFileOf old.now.0.reads heading)
    → IfSome before (λ old. IfSome after (λ new. new.now.0 ≡ settled old.now.0.reads)) → Stands keeper [] None after
live_stands keeper heading turn before after start is other live same =
    subst (λ (k : Keeper). Stands k [] None after) (sym start) (by_both before after other (subst (λ (h : Heading). IfSome before (λ old. IsFileOf old.now.0.reads h)) is live) same)
  where
    by_both : (b a : Option History) → IsOtherKept b a → IfSome b (λ old. IsLiveFile turn old.now.0.reads) → IfSome b (λ old. IfSome a (λ new. new.now.0 ≡ settled old.now.0.reads)) → Stands at_start [] None a
    by_both b None o l s = tt
    by_both None (Some new) o l s = absurd (let e : Some new ≡ None = o in cc)
    by_both (Some old) (Some new) o l s = start_on turn (drop 16 old.now.0.reads) new.now.0 l.0
        (s ∙ ap settled (sym (take-append-drop 16 old.now.0.reads) ∙ ap (λ (l : List ℕ). l ++ drop 16 old.now.0.reads) l.1))

pub made_stands : (keeper : Keeper) (before after : Option History) → keeper ≡ at_start → IsOtherKept before after → IfSome before (λ _. IfSome after (λ new. new.now.0 ≡ settled new_journal)) → Stands keeper [] None after
made_stands keeper before after start other made = subst (λ (k : Keeper). Stands k [] None after) (sym start) (by_both before after other made)
  where
    by_both : (b a : Option History) → IsOtherKept b a → IfSome b (λ _. IfSome a (λ new. new.now.0 ≡ settled new_journal)) → Stands at_start [] None a
    by_both b None o m = tt
    by_both None (Some new) o m = absurd (let e : Some new ≡ None = o in cc)
    by_both (Some old) (Some new) o m = start_on 0 (0 ∷ []) new.now.0 (omega arith) m
