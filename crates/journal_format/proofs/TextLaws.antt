-- Texts of a given length, byte by byte.
use Rattle.std.proofs.Common.{◌≡◌, ℕ, zero, suc, ◌≤◌, Bool, true, false, ◌&&◌, cond, ltb, leb, List, [], ◌∷◌, length, Option, Some, None, refl, sym, ap, subst, arith, lit≤}
use Rattle.std.proofs.Math.Dec.{leb-zero}
use Rattle.std.specs.Prelude.{◌==◌}
use Rattle.std.specs.Int.{is_in_range}
use Rattle.std.specs.Str.Lossy.{second_byte_min, second_byte_max}
use Rattle.std.proofs.lemmas.Bool.{leb-true, le-leb, eq-eqb, eqb-true, and_from, and_parts}
use Rattle.std.proofs.lemmas.Bool.Decides.{nat_tests}
use Rattle.std.proofs.lemmas.List.{nil_from_length}
use Rattle.journal_format.specs.Reading.{Read, both, given, byte_where, prepend}
use Rattle.journal_format.specs.declared.utf8.Owed.{Owed}
use Rattle.journal_format.specs.Utf8.{owed, after_first, after_byte, has_room, or_nothing, text_after}
use Rattle.journal_format.proofs.Lawful.{Lawful, IsMadeOf, one_byte, byte_lawful, both_lawful, made_lawful, given_lawful, fits_lawful, both_fit, both_spell}

abbrev pub is_known : Option Owed → Bool
is_known None = false
is_known (Some o) = true

-- the bytes are the rest of a text of which this is owed
abbrev pub ends_text : ℕ → ℕ → ℕ → List ℕ → Bool
ends_text left low high [] = left == 0
ends_text left low high (b ∷ bytes) = let o = or_nothing (after_byte left low high b) in is_known (after_byte left low high b) && ends_text o.left o.low o.high bytes

pub has_room-parts : (room : ℕ) (o : Option Owed) → has_room room o ≡ true → (is_known o ≡ true) × ((or_nothing o).left ≤ room)
has_room-parts room None e = absurd cc
has_room-parts room (Some o) e = (refl, leb-true o.left room e)

has_room-from : (room : ℕ) (o : Option Owed) → is_known o ≡ true → (or_nothing o).left ≤ room → has_room room o ≡ true
has_room-from room None e le = absurd cc
has_room-from room (Some o) e le = le-leb o.left room le

abbrev IsRange : Option Owed → Type 0
IsRange o = (or_nothing o).low ≤ (or_nothing o).high

pub IsRange-cond : (b : Bool) (x y : Option Owed) → IsRange x → IsRange y → IsRange (cond b x y)
IsRange-cond true x y p q = p
IsRange-cond false x y p q = q

pub second_range : (b : ℕ) → second_byte_min b ≤ second_byte_max b
second_range b = grind (arith, nat_tests)

first_range : (b : ℕ) → IsRange (after_first b)
first_range b =
    IsRange-cond (ltb b 0x80) _ _ (lit≤ tt) (IsRange-cond (ltb b 0xC2) None _ (lit≤ tt) (IsRange-cond (ltb b 0xE0) (Some (owed 1 0x80 0xBF)) _ (lit≤ tt)
    (IsRange-cond (ltb b 0xF0) (Some (owed 2 (second_byte_min b) (second_byte_max b))) _ (second_range b) (IsRange-cond (ltb b 0xF5) (Some (owed 3 (second_byte_min b) (second_byte_max b))) None (second_range b) (lit≤ tt)))))

pub range_after : (left low high b : ℕ) → IsRange (after_byte left low high b)
range_after zero low high b = first_range b
range_after (suc left) low high b = IsRange-cond (is_in_range low high b) (Some (owed left 0x80 0xBF)) None (lit≤ tt) (lit≤ tt)

-- a byte that may come next
pub some_byte : ℕ → ℕ → ℕ
some_byte zero low = 65
some_byte (suc left) low = low

pub some_byte-known : (left low high room : ℕ) → left ≤ suc room → low ≤ high → has_room room (after_byte left low high (some_byte left low)) ≡ true
unfolding some_byte
some_byte-known zero low high room le range = leb-zero room
some_byte-known (suc left) low high room le range =
    let here : is_in_range low high low ≡ true = and_from (leb low low) (leb low high) (le-leb low low (omega arith)) (le-leb low high range) in
    rw here (le-leb left room (omega arith))

abbrev pub IsEnd : ℕ → ℕ → ℕ → ℕ → List ℕ → Type 0
IsEnd room left low high bytes = (length bytes ≡ room) × (ends_text left low high bytes ≡ true)

left_fits : (bytes : List ℕ) (left low high : ℕ) → ends_text left low high bytes ≡ true → left ≤ length bytes
left_fits [] left low high e = let z = eqb-true left 0 e in omega arith
left_fits (b ∷ bytes) zero low high e = omega arith
left_fits (b ∷ bytes) (suc left) low high e = left_step bytes left (is_in_range low high b) (λ h. left_fits bytes left 0x80 0xBF h) e
  where
    left_step : (bytes : List ℕ) (left : ℕ) (t : Bool) → (ends_text left 0x80 0xBF bytes ≡ true → left ≤ length bytes)
        → (let o = or_nothing (cond t (Some (owed left 0x80 0xBF)) None) in is_known (cond t (Some (owed left 0x80 0xBF)) None) && ends_text o.left o.low o.high bytes) ≡ true → suc left ≤ length (b ∷ bytes)
    left_step bytes left true then e = let h = then e in omega arith
    left_step bytes left false then e = absurd cc

step_to : (room left low high : ℕ) (bytes : List ℕ) → IsMadeOf prepend (both_fit (λ b. has_room room (after_byte left low high b) ≡ true) (λ b. let o = or_nothing (after_byte left low high b) in IsEnd room o.left o.low o.high)) bytes → IsEnd (suc room) left low high bytes
step_to room left low high bytes (p, fit, is) =
    let o = after_byte left low high p.0 in
    let h = has_room-parts room o fit.0 in
    subst (λ (x : List ℕ). IsEnd (suc room) left low high x) (sym is) (ap suc fit.1.0, and_from (is_known o) (ends_text (or_nothing o).left (or_nothing o).low (or_nothing o).high p.1) h.0 fit.1.1)

step_from : (room left low high : ℕ) (bytes : List ℕ) → IsEnd (suc room) left low high bytes → IsMadeOf prepend (both_fit (λ b. has_room room (after_byte left low high b) ≡ true) (λ b. let o = or_nothing (after_byte left low high b) in IsEnd room o.left o.low o.high)) bytes
step_from room left low high [] h = absurd (let z : 0 ≡ suc room = h.0 in omega arith)
step_from room left low high (b ∷ bytes) h =
    let o = after_byte left low high b in
    let p = and_parts (is_known o) (ends_text (or_nothing o).left (or_nothing o).low (or_nothing o).high bytes) h.1 in
    let len : length bytes ≡ room = let z : suc (length bytes) ≡ suc room = h.0 in omega arith in
    let fits = left_fits bytes (or_nothing o).left (or_nothing o).low (or_nothing o).high p.1 in
    ((b, bytes), (has_room-from room o p.0 (omega arith), (len, p.1)), refl)

abbrev pub itself : List ℕ → List ℕ
itself bytes = bytes

pub text_after_lawful : (room left low high : ℕ) → left ≤ room → low ≤ high → Lawful itself (IsEnd room left low high) (text_after room left low high)
unfolding text_after
text_after_lawful zero left low high le range =
    let none : left ≡ 0 = omega arith in
    fits_lawful itself (λ bytes. bytes ≡ []) (IsEnd 0 left low high) (given []) (given_lawful itself [] refl)
    (λ bytes is. subst (λ (x : List ℕ). IsEnd 0 left low high x) (sym is) (refl, eq-eqb left 0 none))
    (λ bytes h. nil_from_length bytes h.0)
text_after_lawful (suc room) left low high le range =
    let ok : ℕ → Bool = λ b. has_room room (after_byte left low high b) in
    let P : ℕ → Type 0 = λ b. ok b ≡ true in
    let Q : ℕ → List ℕ → Type 0 = λ b. let o = or_nothing (after_byte left low high b) in IsEnd room o.left o.low o.high in
    let s : ℕ → List ℕ → Read (List ℕ) = λ b. let o = or_nothing (after_byte left low high b) in text_after room o.left o.low o.high in
    let one = byte_lawful ok (some_byte left low) (some_byte-known left low high room le range) in
    let two = both_lawful one_byte P (byte_where ok) (λ _. itself) Q s one
    (λ b fit. text_after_lawful room (or_nothing (after_byte left low high b)).left (or_nothing (after_byte left low high b)).low (or_nothing (after_byte left low high b)).high (has_room-parts room (after_byte left low high b) fit).1 (range_after left low high b)) in
    let three = made_lawful (prepend {A = ℕ}) (both_spell one_byte (λ _. itself)) (both_fit P Q) (both (byte_where ok) s) itself two (λ p fit. refl) in
    fits_lawful itself (IsMadeOf prepend (both_fit P Q)) (IsEnd (suc room) left low high) (text_after (suc room) left low high) three (λ x h. step_to room left low high x h) (λ x h. step_from room left low high x h)
