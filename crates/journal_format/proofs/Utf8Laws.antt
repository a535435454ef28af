-- Read byte by byte, a text is what std says that it is.
use Rattle.std.proofs.Common.{◌≡◌, ℕ, zero, suc, ◌+◌, ◌-◌, ◌*◌, ◌/◌, ◌<◌, ◌≤◌, Bool, true, false, ◌&&◌, cond, leb, List, [], ◌∷◌, ◌++◌, length, Some, None, refl, sym, ap, subst, ◌∙◌, arith, lit≤, ◌⊎◌, inl, inr}
use Rattle.std.specs.Int.{is_in_range}
use Rattle.std.specs.Str.{IsUtf8, all_scalars, encode_utf8_all}
use Rattle.std.specs.Str.Lossy.{second_byte_min, second_byte_max}
use Rattle.std.proofs.lemmas.Bool.{leb-true, le-leb, lt-ltb, le-ltb, eqb-true, and_from, and_parts}
use Rattle.std.proofs.lemmas.Bool.Decides.{nat_tests}
use Rattle.std.proofs.lemmas.Str.{IsUtf8-append}
use Rattle.std.proofs.str.Laws.{one, two, three, four, order}
use Rattle.std.proofs.str.Valid.{of_one, of_two, of_three, of_four}
use lib.Utf8.{encode, scalar, scalars, scalar_cases, next}
use Rattle.journal_format.specs.declared.utf8.Owed.{Owed}
use Rattle.journal_format.specs.Utf8.{owed, nothing_owed, after_first, or_nothing}
use Rattle.journal_format.proofs.TextLaws.{is_known, ends_text}

pub first_one : (b : ℕ) → b < 128 → after_first b ≡ Some nothing_owed
first_one b h = rw (lt-ltb b 0x80 h) refl

first_two : (b : ℕ) → 194 ≤ b → b < 224 → after_first b ≡ Some (owed 1 0x80 0xBF)
first_two b l h = rw (le-ltb b 0x80 (omega arith), le-ltb b 0xC2 l, lt-ltb b 0xE0 h) refl

first_three : (b : ℕ) → 224 ≤ b → b < 240 → after_first b ≡ Some (owed 2 (second_byte_min b) (second_byte_max b))
first_three b l h = rw (le-ltb b 0x80 (omega arith), le-ltb b 0xC2 (omega arith), le-ltb b 0xE0 l, lt-ltb b 0xF0 h) refl

first_four : (b : ℕ) → 240 ≤ b → b < 245 → after_first b ≡ Some (owed 3 (second_byte_min b) (second_byte_max b))
first_four b l h = rw (le-ltb b 0x80 (omega arith), le-ltb b 0xC2 (omega arith), le-ltb b 0xE0 (omega arith), le-ltb b 0xF0 l, lt-ltb b 0xF5 h) refl

first_low : (b : ℕ) → 128 ≤ b → b < 194 → after_first b ≡ None
first_low b l h = rw (le-ltb b 0x80 l, lt-ltb b 0xC2 h) refl

first_high : (b : ℕ) → 245 ≤ b → after_first b ≡ None
first_high b l = rw (le-ltb b 0x80 (omega arith), le-ltb b 0xC2 (omega arith), le-ltb b 0xE0 (omega arith), le-ltb b 0xF0 (omega arith), le-ltb b 0xF5 l) refl

pub in_range : (low high b : ℕ) → low ≤ b → b ≤ high → is_in_range low high b ≡ true
in_range low high b p q = and_from (leb low b) (leb b high) (le-leb low b p) (le-leb b high q)

goes_first : (b : ℕ) (o : Owed) (rest : List ℕ) → after_first b ≡ Some o → ends_text 0 0x80 0xBF (b ∷ rest) ≡ ends_text o.left o.low o.high rest
goes_first b o rest e = rw e refl

goes_next : (left low high b : ℕ) (rest : List ℕ) → low ≤ b → b ≤ high → ends_text (suc left) low high (b ∷ rest) ≡ ends_text left 0x80 0xBF rest
goes_next left low high b rest p q = rw (in_range low high b p q) refl

second_ok : (a b : ℕ) → 128 ≤ b → b < 192 → (a ≡ 224 → 160 ≤ b) → (a ≡ 240 → 144 ≤ b) → (a ≡ 237 → b < 160) → (a ≡ 244 → b < 144) → (second_byte_min a ≤ b) × (b ≤ second_byte_max a)
second_ok a b l h p q r s = (grind (arith, nat_tests), grind (arith, nat_tests))

char_ends : (c : ℕ) (rest : List ℕ) → scalar c ≡ true → ends_text 0 0x80 0xBF (encode c ++ rest) ≡ ends_text 0 0x80 0xBF rest
char_ends c rest s = by (order c 128) (order c 2048) (order c 65536) (scalar_cases c s)
  where
    by : (c < 128) ⊎ (128 ≤ c) → (c < 2048) ⊎ (2048 ≤ c) → (c < 65536) ⊎ (65536 ≤ c) → (c < 55296) ⊎ ((57344 ≤ c) × (c < 1114112)) → ends_text 0 0x80 0xBF (encode c ++ rest) ≡ ends_text 0 0x80 0xBF rest
    by (inl h) _ _ _ = ap (λ (t : List ℕ). ends_text 0 0x80 0xBF (t ++ rest)) (one c h) ∙ goes_first c nothing_owed rest (first_one c h)
    by (inr l) (inl h) _ _ = ap (λ (t : List ℕ). ends_text 0 0x80 0xBF (t ++ rest)) (two c l h)
        ∙ goes_first (192 + c / 64) (owed 1 0x80 0xBF) (next c ∷ rest) (first_two (192 + c / 64) (omega arith) (omega arith)) ∙ goes_next 0 0x80 0xBF (next c) rest (omega arith) (omega arith)
    by (inr _) (inr l) (inl h) s = ap (λ (t : List ℕ). ends_text 0 0x80 0xBF (t ++ rest)) (three c l h)
        ∙ goes_first (224 + c / 4096) (owed 2 (second_byte_min (224 + c / 4096)) (second_byte_max (224 + c / 4096))) (next (c / 64) ∷ next c ∷ rest) (first_three (224 + c / 4096) (omega arith) (omega arith))
        ∙ (let k : (second_byte_min (224 + c / 4096) ≤ next (c / 64)) × (next (c / 64) ≤ second_byte_max (224 + c / 4096)) = second_ok (224 + c / 4096) (next (c / 64)) (omega arith) (omega arith) (λ e. omega arith) (λ e. omega arith) (λ e. low_three c l h s e) (λ e. omega arith) in
        goes_next 1 (second_byte_min (224 + c / 4096)) (second_byte_max (224 + c / 4096)) (next (c / 64)) (next c ∷ rest) k.0 k.1)
        ∙ goes_next 0 0x80 0xBF (next c) rest (omega arith) (omega arith)
      where
        low_three : (c : ℕ) → 2048 ≤ c → c < 65536 → (c < 55296) ⊎ ((57344 ≤ c) × (c < 1114112)) → 224 + c / 4096 ≡ 237 → next (c / 64) < 160
        low_three c l h (inl x) e = omega arith
        low_three c l h (inr x) e = omega arith
    by (inr _) (inr _) (inr l) s = ap (λ (t : List ℕ). ends_text 0 0x80 0xBF (t ++ rest)) (four c l)
        ∙ (let top : c < 1114112 = below c s in
        goes_first (240 + c / 262144) (owed 3 (second_byte_min (240 + c / 262144)) (second_byte_max (240 + c / 262144))) (next (c / 4096) ∷ next (c / 64) ∷ next c ∷ rest) (first_four (240 + c / 262144) (omega arith) (omega arith))
        ∙ (let k : (second_byte_min (240 + c / 262144) ≤ next (c / 4096)) × (next (c / 4096) ≤ second_byte_max (240 + c / 262144)) = second_ok (240 + c / 262144) (next (c / 4096)) (omega arith) (omega arith) (λ e. omega arith) (λ e. omega arith) (λ e. omega arith) (λ e. omega arith) in
        goes_next 2 (second_byte_min (240 + c / 262144)) (second_byte_max (240 + c / 262144)) (next (c / 4096)) (next (c / 64) ∷ next c ∷ rest) k.0 k.1))
        ∙ goes_next 1 0x80 0xBF (next (c / 64)) (next c ∷ rest) (omega arith) (omega arith)
        ∙ goes_next 0 0x80 0xBF (next c) rest (omega arith) (omega arith)
      where
        below : (c : ℕ) → (c < 55296) ⊎ ((57344 ≤ c) × (c < 1114112)) → c < 1114112
        below c (inl x) = omega arith
        below c (inr x) = x.1

all_end : (cs : List ℕ) → all_scalars cs ≡ true → ends_text 0 0x80 0xBF (encode_utf8_all cs) ≡ true
all_end [] s = refl
all_end (c ∷ cs) s = let p = and_parts (scalar c) (scalars cs) s in char_ends c (encode_utf8_all cs) p.0 ∙ all_end cs p.1

pub text_ends : (bytes : List ℕ) → IsUtf8 bytes → ends_text 0 0x80 0xBF bytes ≡ true
text_ends bytes (cs, (s, e)) = ap (ends_text 0 0x80 0xBF) (sym e) ∙ all_end cs s

-- ---- back

next_parts : (left low high : ℕ) (bytes : List ℕ) → ends_text (suc left) low high bytes ≡ true → (b : ℕ) × (rest : List ℕ) × (bytes ≡ b ∷ rest) × (low ≤ b) × (b ≤ high) × (ends_text left 0x80 0xBF rest ≡ true)
next_parts left low high [] e = absurd (let z = eqb-true (suc left) 0 e in omega arith)
next_parts left low high (b ∷ rest) e = by (is_in_range low high b) refl e
  where
    by : (t : Bool) → is_in_range low high b ≡ t → (let o = or_nothing (cond t (Some (owed left 0x80 0xBF)) None) in is_known (cond t (Some (owed left 0x80 0xBF)) None) && ends_text o.left o.low o.high rest) ≡ true
        → (b' : ℕ) × (rest' : List ℕ) × (b ∷ rest ≡ b' ∷ rest') × (low ≤ b') × (b' ≤ high) × (ends_text left 0x80 0xBF rest' ≡ true)
    by true is h = let p = and_parts (leb low b) (leb b high) is in (b, rest, refl, leb-true low b p.0, leb-true b high p.1, h)
    by false is h = absurd cc

second_parts : (a b : ℕ) → second_byte_min a ≤ b → b ≤ second_byte_max a → (128 ≤ b) × (b < 192) × (a ≡ 224 → 160 ≤ b) × (a ≡ 240 → 144 ≤ b) × (a ≡ 237 → b < 160) × (a ≡ 244 → b < 144)
second_parts a b p q = (grind (arith, nat_tests), grind (arith, nat_tests), (λ e. grind (arith, nat_tests)), (λ e. grind (arith, nat_tests)), (λ e. grind (arith, nat_tests)), (λ e. grind (arith, nat_tests)))

none_first : (b : ℕ) (rest : List ℕ) → after_first b ≡ None → ends_text 0 0x80 0xBF (b ∷ rest) ≡ true → ⊥
none_first b rest e h = let z : ends_text 0 0x80 0xBF (b ∷ rest) ≡ false = rw e refl in let t : true ≡ false = sym h ∙ z in cc

-- a fact that leads from rest to what it begins with
at_rest : (b : ℕ) (rest prefix end : List ℕ) → rest ≡ prefix ++ end → IsUtf8 (b ∷ prefix) → IsUtf8 end → IsUtf8 (b ∷ rest)
at_rest b rest prefix end e p q = subst IsUtf8 (ap (λ (t : List ℕ). b ∷ t) (sym e)) (IsUtf8-append (b ∷ prefix) end p q)

three_low : (b y z : ℕ) → 224 ≤ b → 128 ≤ y → y < 192 → 128 ≤ z → (b ≡ 224 → 160 ≤ y) → 2048 ≤ (b - 224) * 4096 + (y - 128) * 64 + (z - 128)
three_low b y z l yl yh zl h = elim (order b 225) [
  | inl lt ↦ (let k : 160 ≤ y = h (omega arith) in omega arith)
  | inr ge ↦ omega arith
]

three_out : (b y z : ℕ) → 224 ≤ b → 128 ≤ y → y < 192 → 128 ≤ z → z < 192 → (b ≡ 237 → y < 160) → ((b - 224) * 4096 + (y - 128) * 64 + (z - 128) < 55296) ⊎ (57344 ≤ (b - 224) * 4096 + (y - 128) * 64 + (z - 128))
three_out b y z l yl yh zl zh h = by (order b 237) (order b 238)
  where
    by : (b < 237) ⊎ (237 ≤ b) → (b < 238) ⊎ (238 ≤ b) → ((b - 224) * 4096 + (y - 128) * 64 + (z - 128) < 55296) ⊎ (57344 ≤ (b - 224) * 4096 + (y - 128) * 64 + (z - 128))
    by (inl lt) _ = inl (omega arith)
    by (inr ge) (inl lt) = inl (let k : y < 160 = h (omega arith) in omega arith)
    by (inr _) (inr ge) = inr (omega arith)

four_bounds : (b y : ℕ) → 240 ≤ b → b < 245 → 128 ≤ y → y < 192 → (b ≡ 240 → 144 ≤ y) → (b ≡ 244 → y < 144) → (16 ≤ (b - 240) * 64 + (y - 128)) × ((b - 240) * 64 + (y - 128) < 272)
four_bounds b y l h yl yh p q = (
  elim (order b 241) [ inl lt ↦ (let k : 144 ≤ y = p (omega arith) in omega arith) | inr ge ↦ omega arith ],
  elim (order b 244) [ inl lt ↦ omega arith | inr ge ↦ (let k : y < 144 = q (omega arith) in omega arith) ],
)

pub ends_utf8 : (n : ℕ) (bytes : List ℕ) → length bytes ≤ n → ends_text 0 0x80 0xBF bytes ≡ true → IsUtf8 bytes
ends_utf8 n [] le e = ([], (refl, refl))
ends_utf8 zero (b ∷ rest) le e = absurd (omega arith)
ends_utf8 (suc n) (b ∷ rest) le e = by (λ other shorter ends. ends_utf8 n other shorter ends) (order b 128) (order b 194) (order b 224) (order b 240) (order b 245)
  where
    by : ((other : List ℕ) → length other ≤ n → ends_text 0 0x80 0xBF other ≡ true → IsUtf8 other) → (b < 128) ⊎ (128 ≤ b) → (b < 194) ⊎ (194 ≤ b) → (b < 224) ⊎ (224 ≤ b) → (b < 240) ⊎ (240 ≤ b) → (b < 245) ⊎ (245 ≤ b) → IsUtf8 (b ∷ rest)
    by again (inl h) _ _ _ _ = at_rest b rest [] rest refl (of_one (b ∷ []) 0 (lit≤ tt) h) (again rest (omega arith) (sym (goes_first b nothing_owed rest (first_one b h)) ∙ e))
    by again (inr l) (inl h) _ _ _ = absurd (none_first b rest (first_low b l h) e)
    by again (inr _) (inr l) (inl h) _ _ =
        let y = next_parts 0 0x80 0xBF rest (sym (goes_first b (owed 1 0x80 0xBF) rest (first_two b l h)) ∙ e) in
        let len : length rest ≡ suc (length y.1) = ap length y.2 in
        at_rest b rest (y.0 ∷ []) y.1 y.2 (of_two (b ∷ y.0 ∷ []) 0 (lit≤ tt) (l, h) (y.3, omega (arith, y.4))) (again y.1 (omega arith) y.5)
    by again (inr _) (inr _) (inr l) (inl h) _ =
        let y = next_parts 1 (second_byte_min b) (second_byte_max b) rest (sym (goes_first b (owed 2 (second_byte_min b) (second_byte_max b)) rest (first_three b l h)) ∙ e) in
        let z = next_parts 0 0x80 0xBF y.1 y.5 in
        let k = second_parts b y.0 y.3 y.4 in
        let zh : z.0 < 192 = omega (arith, z.4) in
        let is : rest ≡ y.0 ∷ z.0 ∷ z.1 = y.2 ∙ ap (λ (t : List ℕ). y.0 ∷ t) z.2 in
        let len : length rest ≡ suc (suc (length z.1)) = ap length is in
        at_rest b rest (y.0 ∷ z.0 ∷ []) z.1 is
        (of_three (b ∷ y.0 ∷ z.0 ∷ []) 0 (lit≤ tt) (l, h) (k.0, k.1) (z.3, zh) (three_low b y.0 z.0 l k.0 k.1 z.3 k.2) (three_out b y.0 z.0 l k.0 k.1 z.3 zh k.4))
        (again z.1 (omega arith) z.5)
    by again (inr _) (inr _) (inr _) (inr l) (inl h) =
        let y = next_parts 2 (second_byte_min b) (second_byte_max b) rest (sym (goes_first b (owed 3 (second_byte_min b) (second_byte_max b)) rest (first_four b l h)) ∙ e) in
        let z = next_parts 1 0x80 0xBF y.1 y.5 in
        let w = next_parts 0 0x80 0xBF z.1 z.5 in
        let k = second_parts b y.0 y.3 y.4 in
        let is : rest ≡ y.0 ∷ z.0 ∷ w.0 ∷ w.1 = y.2 ∙ ap (λ (t : List ℕ). y.0 ∷ t) (z.2 ∙ ap (λ (t : List ℕ). z.0 ∷ t) w.2) in
        let len : length rest ≡ suc (suc (suc (length w.1))) = ap length is in
        at_rest b rest (y.0 ∷ z.0 ∷ w.0 ∷ []) w.1 is
        (of_four (b ∷ y.0 ∷ z.0 ∷ w.0 ∷ []) 0 (lit≤ tt) l (k.0, k.1) (z.3, omega (arith, z.4)) (w.3, omega (arith, w.4)) (four_bounds b y.0 l h k.0 k.1 k.3 k.5))
        (again w.1 (omega arith) w.5)
    by again (inr _) (inr _) (inr _) (inr _) (inr l) = absurd (none_first b rest (first_high b l) e)

pub utf8_from_ends : (bytes : List ℕ) → ends_text 0 0x80 0xBF bytes ≡ true → IsUtf8 bytes
utf8_from_ends bytes e = ends_utf8 (length bytes) bytes (omega arith) e
