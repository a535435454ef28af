-- The loop that goes through a text byte by byte.
use Rattle.std.proofs.Common.{◌≡◌, ℕ, suc, ◌+◌, ◌-◌, ◌<◌, ◌≤◌, true, false, List, [], ◌∷◌, ◌++◌, length, Some, Ok, Err, refl, sym, ap, ◌∙◌, append_assoc, arith}
use Rattle.std.proofs.lemmas.Bool.{le-leb}
use Rattle.std.specs.Str.{IsUtf8}
use Rattle.job_states.specs.Judged.{◌>>=◌}
use Rattle.journal_format.specs.Reading.{Read}
use Rattle.journal_format.specs.declared.utf8.Owed.{Owed}
use Rattle.journal_format.specs.Utf8.{nothing_owed, after_byte, has_room, text_after, text_of}
use Rattle.journal_format.specs.Reads.{HasNoText}
use Rattle.journal_format.proofs.PartLaws.{text_lawful}
use Rattle.journal_format.proofs.TextFans.{step_on, step_off, step_end, step_done, with_byte, goes}

abbrev with_prefix : List ℕ → Read (List ℕ) → Read (List ℕ)
with_prefix prefix r = r >>= λ t. Ok (prefix ++ t.0, t.1)

with_prefix-byte : (prefix : List ℕ) (b : ℕ) (r : Read (List ℕ)) → with_prefix prefix (with_byte b r) ≡ with_prefix (prefix ++ b ∷ []) r
with_prefix-byte prefix b (Ok x) = ap (λ (t : List ℕ). let y : Read (List ℕ) = Ok (t, x.1) in y) (sym (append_assoc prefix (b ∷ []) x.0))
with_prefix-byte prefix b (Err e) = refl

with_prefix-nil : (r : Read (List ℕ)) → with_prefix [] r ≡ r
with_prefix-nil (Ok x) = refl
with_prefix-nil (Err e) = refl

-- so many bytes were gone through
pub record SkipSoFar (len done : ℕ) (owed : Owed) (left bytes : List ℕ) : Type 0 where
  pub prefix : List ℕ
  pub same : with_prefix prefix (text_after (len - done) owed.left owed.low owed.high left) ≡ text_of len bytes

pub skip_begins : (len : ℕ) (owed : Owed) (bytes : List ℕ) → owed ≡ nothing_owed → SkipSoFar len 0 owed bytes bytes
skip_begins len owed bytes is = record {
  prefix = [];
  same = with_prefix-nil (text_after (len - 0) owed.left owed.low owed.high bytes) ∙ rw is (ap (λ (k : ℕ). text_after k 0 0x80 0xBF bytes) (let z : len - 0 ≡ len = omega arith in z));
}

one_less : (len done : ℕ) → done < len → len - done ≡ suc (len - 1 - done)
one_less len done lt = omega arith

pub skip_on : (len done : ℕ) (owed next : Owed) (b : ℕ) (left rest bytes : List ℕ) → done < len → left ≡ b ∷ rest → Some next ≡ after_byte owed.left owed.low owed.high b → next.left ≤ len - 1 - done
    → SkipSoFar len done owed left bytes → SkipSoFar len (done + 1) next rest bytes
skip_on len done owed next b left rest bytes lt here is fits h =
    let k = len - 1 - done in
    let room : has_room k (after_byte owed.left owed.low owed.high b) ≡ true = ap (has_room k) (sym is) ∙ le-leb next.left k fits in
    let step : text_after (len - done) owed.left owed.low owed.high left ≡ with_byte b (goes k owed.left owed.low owed.high b rest) = rw (here, one_less len done lt) (step_on k owed.left owed.low owed.high b rest room) in
    let goes-is : goes k owed.left owed.low owed.high b rest ≡ text_after k next.left next.low next.high rest = rw (← is) refl in
    record {
      prefix = h.prefix ++ b ∷ [];
      same = rw (let z : len - (done + 1) ≡ k = omega arith in z) (sym (with_prefix-byte h.prefix b (text_after k next.left next.low next.high rest)) ∙ ap (λ (r : Read (List ℕ)). with_prefix h.prefix (with_byte b r)) (sym goes-is) ∙ ap (with_prefix h.prefix) (sym step) ∙ h.same);
    }

pub skip_stops : (len done : ℕ) (owed : Owed) (b : ℕ) (left rest bytes : List ℕ) → done < len → left ≡ b ∷ rest → has_room (len - 1 - done) (after_byte owed.left owed.low owed.high b) ≡ false
    → SkipSoFar len done owed left bytes → text_of len bytes ≡ Err left
skip_stops len done owed b left rest bytes lt here off h =
    let step : text_after (len - done) owed.left owed.low owed.high left ≡ Err left = rw (here, one_less len done lt) (step_off (len - 1 - done) owed.left owed.low owed.high b rest off) in
    sym h.same ∙ ap (with_prefix h.prefix) step

pub skip_short : (len done : ℕ) (owed : Owed) (left bytes : List ℕ) → done < len → left ≡ [] → SkipSoFar len done owed left bytes → text_of len bytes ≡ Err left
skip_short len done owed left bytes lt here h =
    let step : text_after (len - done) owed.left owed.low owed.high left ≡ Err left = rw (here, one_less len done lt) (step_end (len - 1 - done) owed.left owed.low owed.high) in
    sym h.same ∙ ap (with_prefix h.prefix) step

pub skip_ends : (len done : ℕ) (owed : Owed) (left bytes : List ℕ) → len ≤ done → HasNoText len bytes → SkipSoFar len done owed left bytes → ⊥
skip_ends len done owed left bytes le nothing h =
    let step : text_after (len - done) owed.left owed.low owed.high left ≡ Ok ([], left) = rw (let z : len - done ≡ 0 = omega arith in z) (step_done owed.left owed.low owed.high left) in
    let read : text_of len bytes ≡ Ok (h.prefix ++ [], left) = sym h.same ∙ ap (with_prefix h.prefix) step in
    let f = (text_lawful len).found bytes (h.prefix ++ []) left read in
    nothing (h.prefix ++ []) left f.1 f.0.0 f.0.1

pub text_again : (len : ℕ) (t rest bytes : List ℕ) → bytes ≡ t ++ rest → length t ≡ len → IsUtf8 t → text_of len bytes ≡ Ok (t, rest)
text_again len t rest bytes all size utf8 = ap (text_of len) all ∙ (text_lawful len).again t rest (size, utf8)
