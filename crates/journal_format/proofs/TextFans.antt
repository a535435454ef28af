-- Where a text has room for one more byte, at least 32 texts go on from here.
use Rattle.std.proofs.Common.{◌≡◌, ℕ, zero, suc, ◌+◌, ◌<◌, ◌≤◌, Bool, true, false, cond, ltb, List, [], ◌∷◌, ◌++◌, Option, Some, None, Ok, Err, refl, sym, ap, ◌∙◌, arith, lit≤}
use Rattle.std.specs.Int.{is_in_range}
use Rattle.std.specs.Str.Lossy.{second_byte_min, second_byte_max}
use Rattle.std.proofs.lemmas.Bool.{and_from}
use Rattle.job_states.specs.Judged.{◌>>=◌}
use Rattle.journal_format.specs.Reading.{Read}
use Rattle.journal_format.specs.declared.utf8.Owed.{Owed}
use Rattle.journal_format.specs.Utf8.{owed, nothing_owed, after_first, after_byte, has_room, or_nothing, text_after}
use Rattle.journal_format.proofs.Lawful.{made_err, ok_parts}
use Rattle.journal_format.proofs.TextLaws.{IsEnd, is_known, ends_text, some_byte, some_byte-known, has_room-parts, second_range}
use Rattle.journal_format.proofs.Utf8Laws.{first_one, in_range}

-- 32 texts that go on from prefix
pub record Fan (prefix : List ℕ) (room left low high : ℕ) : Type 0 where
  pub more : ℕ → List ℕ
  pub ends : (i : ℕ) → i < 32 → IsEnd room left low high (prefix ++ more i)
  pub apart : (i j : ℕ) → prefix ++ more i ≡ prefix ++ more j → i ≡ j

-- a range, and one of 32 bytes where the next byte may be the last
pub record IsWide (o : Option Owed) : Type 0 where
  pub range : (or_nothing o).low ≤ (or_nothing o).high
  pub last : (or_nothing o).left ≤ 1 → (or_nothing o).low + 31 ≤ (or_nothing o).high

wide_cond : (b : Bool) (x y : Option Owed) → IsWide x → IsWide y → IsWide (cond b x y)
wide_cond true x y p q = p
wide_cond false x y p q = q

wide_nothing : (x : Option Owed) → x ≡ None → IsWide None
wide_nothing x e = record { range = lit≤ tt; last = λ h. lit≤ tt }

wide_plain : (left : ℕ) → IsWide (Some (owed left 0x80 0xBF))
wide_plain left = record { range = lit≤ tt; last = λ h. lit≤ tt }

wide_second : (left b : ℕ) → 1 < left → IsWide (Some (owed left (second_byte_min b) (second_byte_max b)))
wide_second left b h = record { range = second_range b; last = λ l. absurd (omega arith) }

wide_first : (b : ℕ) → IsWide (after_first b)
wide_first b =
    wide_cond (ltb b 0x80) _ _ (wide_plain 0) (wide_cond (ltb b 0xC2) None _ (wide_nothing None refl) (wide_cond (ltb b 0xE0) (Some (owed 1 0x80 0xBF)) _ (wide_plain 1)
    (wide_cond (ltb b 0xF0) (Some (owed 2 (second_byte_min b) (second_byte_max b))) _ (wide_second 2 b (omega arith)) (wide_cond (ltb b 0xF5) (Some (owed 3 (second_byte_min b) (second_byte_max b))) None (wide_second 3 b (omega arith)) (wide_nothing None refl)))))

pub wide_after : (left low high b : ℕ) → IsWide (after_byte left low high b)
wide_after zero low high b = wide_first b
wide_after (suc left) low high b = wide_cond (is_in_range low high b) (Some (owed left 0x80 0xBF)) None (wide_plain left) (wide_nothing None refl)

one_ends : (left low high b : ℕ) (o : Owed) → after_byte left low high b ≡ Some o → o.left ≡ 0 → ends_text left low high (b ∷ []) ≡ true
one_ends left low high b o e none = rw e (rw none refl)

last_fan : (left low high : ℕ) → left ≤ 1 → low + 31 ≤ high → Fan [] 1 left low high
last_fan zero low high le wide = record {
  more = λ i. (65 + i) ∷ [];
  ends = λ i lt. (refl, one_ends 0 low high (65 + i) nothing_owed (first_one (65 + i) (omega arith)) refl);
  apart = λ i j e. same i j (let z : 65 + i ≡ 65 + j = cc in z);
} where
  same : (i j : ℕ) → 65 + i ≡ 65 + j → i ≡ j
  same i j e = omega arith
last_fan (suc zero) low high le wide = record {
  more = λ i. (low + i) ∷ [];
  ends = λ i lt. (refl, one_ends 1 low high (low + i) (owed 0 0x80 0xBF) (ap (λ (t : Bool). cond t (Some (owed 0 0x80 0xBF)) None) (in_range low high (low + i) (omega arith) (omega arith))) refl);
  apart = λ i j e. same low i j (let z : low + i ≡ low + j = cc in z);
} where
  same : (low i j : ℕ) → low + i ≡ low + j → i ≡ j
  same low i j e = omega arith
last_fan (suc (suc left)) low high le wide = absurd (omega arith)

-- one byte more before it
before : (b room left low high : ℕ) (prefix : List ℕ) → has_room room (after_byte left low high b) ≡ true
    → Fan prefix room (or_nothing (after_byte left low high b)).left (or_nothing (after_byte left low high b)).low (or_nothing (after_byte left low high b)).high → Fan (b ∷ prefix) (suc room) left low high
before b room left low high prefix ok f = record {
  more = f.more;
  ends = λ i lt. let x = f.ends i lt in (ap suc x.0, and_from (is_known (after_byte left low high b)) _ (has_room-parts room (after_byte left low high b) ok).0 x.1);
  apart = λ i j e. f.apart i j (let z : prefix ++ f.more i ≡ prefix ++ f.more j = cc in z);
}

-- the same texts, said to go on from less
from_nothing : (b room left low high : ℕ) → Fan (b ∷ []) room left low high → Fan [] room left low high
from_nothing b room left low high f = record { more = λ i. b ∷ f.more i; ends = f.ends; apart = f.apart }

pub fan : (room left low high : ℕ) → left ≤ suc room → low ≤ high → (left ≤ 1 → low + 31 ≤ high) → Fan [] (suc room) left low high
fan zero left low high le range wide = last_fan left low high le (wide le)
fan (suc room) left low high le range wide =
    let b = some_byte left low in
    let ok = some_byte-known left low high (suc room) le range in
    let o = after_byte left low high b in
    let w = wide_after left low high b in
    from_nothing b (suc (suc room)) left low high (before b (suc room) left low high [] ok (fan room (or_nothing o).left (or_nothing o).low (or_nothing o).high (has_room-parts (suc room) o ok).1 w.range w.last))

-- ---- steps of the reader

abbrev pub goes : ℕ → ℕ → ℕ → ℕ → ℕ → List ℕ → Read (List ℕ)
goes room left low high b bytes = text_after room (or_nothing (after_byte left low high b)).left (or_nothing (after_byte left low high b)).low (or_nothing (after_byte left low high b)).high bytes

abbrev pub with_byte : ℕ → Read (List ℕ) → Read (List ℕ)
with_byte b r = r >>= λ t. Ok (b ∷ t.0, t.1)

flat : (r : Read (List ℕ)) (b : ℕ) → ((r >>= λ x. let y : Read (ℕ × List ℕ) = Ok ((b, x.0), x.1) in y) >>= λ p. let z : Read (List ℕ) = Ok (p.0.0 ∷ p.0.1, p.1) in z) ≡ with_byte b r
flat (Ok x) b = refl
flat (Err e) b = refl

pub step_on : (room left low high b : ℕ) (bytes : List ℕ) → has_room room (after_byte left low high b) ≡ true → text_after (suc room) left low high (b ∷ bytes) ≡ with_byte b (goes room left low high b bytes)
unfolding text_after
step_on room left low high b bytes ok = rw ok (flat (goes room left low high b bytes) b)

pub step_off : (room left low high b : ℕ) (bytes : List ℕ) → has_room room (after_byte left low high b) ≡ false → text_after (suc room) left low high (b ∷ bytes) ≡ Err (b ∷ bytes)
unfolding text_after
step_off room left low high b bytes off = rw off refl

pub step_end : (room left low high : ℕ) → text_after (suc room) left low high [] ≡ Err []
unfolding text_after
step_end room left low high = refl

pub step_done : (left low high : ℕ) (bytes : List ℕ) → text_after 0 left low high bytes ≡ Ok ([], bytes)
unfolding text_after
step_done left low high bytes = refl

err_is : (x y : List ℕ) → (let a : Read (List ℕ) = Err x in a) ≡ Err y → x ≡ y
err_is x y e = cc

no_ok_err : (r : Read (List ℕ)) (x : List ℕ × List ℕ) (y : List ℕ) → r ≡ Ok x → r ≡ Err y → ⊥
no_ok_err r x y p q = cc

pub with_byte-err : (b : ℕ) (r : Read (List ℕ)) (rest : List ℕ) → with_byte b r ≡ Err rest → r ≡ Err rest
with_byte-err b r rest e = made_err r (λ (t : List ℕ). b ∷ t) rest e

with_byte-ok : (b : ℕ) (r : Read (List ℕ)) (t rest : List ℕ) → with_byte b r ≡ Ok (t, rest) → (u : List ℕ) × (r ≡ Ok (u, rest)) × (t ≡ b ∷ u)
with_byte-ok b (Ok x) t rest e =
    let p = ok_parts (b ∷ x.0) t x.1 rest e in
    (x.0, ap (λ (y : List ℕ). let r : Read (List ℕ) = Ok (x.0, y) in r) p.1, sym p.0)
with_byte-ok b (Err d) t rest e = absurd cc

-- ---- where the reader stops

pub record StopsIn (bytes rest : List ℕ) (room left low high : ℕ) : Type 0 where
  pub prefix : List ℕ
  pub whole : bytes ≡ prefix ++ rest
  pub texts : Fan prefix room left low high

pub stops_fan : (room left low high : ℕ) (bytes rest : List ℕ) → left ≤ room → low ≤ high → (left ≤ 1 → low + 31 ≤ high) → text_after room left low high bytes ≡ Err rest → StopsIn bytes rest room left low high
stops_fan zero left low high bytes rest le range wide e = absurd (no_ok_err (text_after 0 left low high bytes) ([], bytes) rest (step_done left low high bytes) e)
stops_fan (suc room) left low high [] rest le range wide e = record { prefix = []; whole = err_is [] rest (sym (step_end room left low high) ∙ e); texts = fan room left low high le range wide }
stops_fan (suc room) left low high (b ∷ bytes) rest le range wide e =
    by (has_room room (after_byte left low high b)) refl (λ fits r. stops_fan room (or_nothing (after_byte left low high b)).left (or_nothing (after_byte left low high b)).low (or_nothing (after_byte left low high b)).high bytes rest fits (wide_after left low high b).range (wide_after left low high b).last r)
  where
    by : (t : Bool) → has_room room (after_byte left low high b) ≡ t
        → ((or_nothing (after_byte left low high b)).left ≤ room → goes room left low high b bytes ≡ Err rest → StopsIn bytes rest room (or_nothing (after_byte left low high b)).left (or_nothing (after_byte left low high b)).low (or_nothing (after_byte left low high b)).high)
        → StopsIn (b ∷ bytes) rest (suc room) left low high
    by true ok again =
        let k = again (has_room-parts room (after_byte left low high b) ok).1 (with_byte-err b (goes room left low high b bytes) rest (sym (step_on room left low high b bytes ok) ∙ e)) in
        record { prefix = b ∷ k.prefix; whole = ap (λ (x : List ℕ). b ∷ x) k.whole; texts = before b room left low high k.prefix ok k.texts }
    by false off again = record { prefix = []; whole = err_is (b ∷ bytes) rest (sym (step_off room left low high b bytes off) ∙ e); texts = fan room left low high le range wide }

-- what was read, without its last byte
pub record ReadsTo (bytes text rest : List ℕ) (room left low high : ℕ) : Type 0 where
  pub prefix : List ℕ
  pub last : ℕ
  pub whole : bytes ≡ prefix ++ (last ∷ rest)
  pub is : text ≡ prefix ++ last ∷ []
  pub texts : Fan prefix room left low high

pub reads_fan : (room left low high : ℕ) (bytes text rest : List ℕ) → left ≤ suc room → low ≤ high → (left ≤ 1 → low + 31 ≤ high) → text_after (suc room) left low high bytes ≡ Ok (text, rest) → ReadsTo bytes text rest (suc room) left low high
reads_fan room left low high [] text rest le range wide e = absurd (no_ok_err (text_after (suc room) left low high []) (text, rest) [] e (step_end room left low high))
reads_fan zero left low high (b ∷ bytes) text rest le range wide e =
    by (has_room zero (after_byte left low high b)) refl
  where
    by : (t : Bool) → has_room zero (after_byte left low high b) ≡ t → ReadsTo (b ∷ bytes) text rest 1 left low high
    by true ok =
        let k = with_byte-ok b (goes zero left low high b bytes) text rest (sym (step_on zero left low high b bytes ok) ∙ e) in
        let p = ok_parts [] k.0 bytes rest (sym (step_done _ _ _ bytes) ∙ k.1) in
        record { prefix = []; last = b; whole = ap (λ (x : List ℕ). b ∷ x) p.1; is = k.2 ∙ ap (λ (x : List ℕ). b ∷ x) (sym p.0); texts = fan zero left low high le range wide }
    by false off = absurd (no_ok_err (text_after 1 left low high (b ∷ bytes)) (text, rest) (b ∷ bytes) e (step_off zero left low high b bytes off))
reads_fan (suc room) left low high (b ∷ bytes) text rest le range wide e =
    by (has_room (suc room) (after_byte left low high b)) refl (λ u fits r. reads_fan room (or_nothing (after_byte left low high b)).left (or_nothing (after_byte left low high b)).low (or_nothing (after_byte left low high b)).high bytes u rest fits (wide_after left low high b).range (wide_after left low high b).last r)
  where
    by : (t : Bool) → has_room (suc room) (after_byte left low high b) ≡ t
        → ((u : List ℕ) → (or_nothing (after_byte left low high b)).left ≤ suc room → goes (suc room) left low high b bytes ≡ Ok (u, rest) → ReadsTo bytes u rest (suc room) (or_nothing (after_byte left low high b)).left (or_nothing (after_byte left low high b)).low (or_nothing (after_byte left low high b)).high)
        → ReadsTo (b ∷ bytes) text rest (suc (suc room)) left low high
    by true ok again =
        let k = with_byte-ok b (goes (suc room) left low high b bytes) text rest (sym (step_on (suc room) left low high b bytes ok) ∙ e) in
        let q = again k.0 (has_room-parts (suc room) (after_byte left low high b) ok).1 k.1 in
        record { prefix = b ∷ q.prefix; last = q.last; whole = ap (λ (x : List ℕ). b ∷ x) q.whole; is = k.2 ∙ ap (λ (x : List ℕ). b ∷ x) q.is; texts = before b (suc room) left low high q.prefix ok q.texts }
    by false off again = absurd (no_ok_err (text_after (suc (suc room)) left low high (b ∷ bytes)) (text, rest) (b ∷ bytes) e (step_off (suc room) left low high b bytes off))
