-- The laws of the parts that all tags share.
use Rattle.std.proofs.Common.{◌≡◌, ℕ, zero, suc, ◌/◌, ◌^◌, ◌<◌, ◌≤◌, Bool, true, false, cond, leb, List, [], ◌∷◌, ◌++◌, length, Option, Some, None, Ok, Err, refl, sym, ap, subst, ◌∙◌, arith, lit≤}
use Rattle.std.specs.Prelude.{◌==◌, if◌then◌else◌}
use Rattle.std.specs.Str.{IsUtf8, is_utf8}
use Rattle.std.specs.List.{flat_map, AllByRecursion}
use Rattle.std.proofs.Math.Nat.{one-le-pow}
use Rattle.std.proofs.lemmas.Nat.{div_below}
use Rattle.std.proofs.lemmas.Bool.{eqb-true, eqb-false}
use Rattle.std.proofs.lemmas.List.{nil_from_length}
use Rattle.std.proofs.lemmas.Str.{IsUtf8-from_is_utf8, is_utf8-from_IsUtf8}
use Rattle.journal_format.specs.Reading.{Read, both, made, given, after_tag, tagged, number, ◌then◌, prepend, items}
use Rattle.job_states.specs.Length.{is_within}
use Rattle.journal_format.specs.Spelling.{big_endian}
use Rattle.journal_format.specs.Utf8.{text_of}
use Rattle.journal_format.specs.Grammar.{sized_at, text_at, list_at}
use Rattle.journal_format.proofs.TestLaws.{Passes, within-parts, within-from, within_zero-parts, within_zero-from}
use Rattle.journal_format.proofs.Lawful.{Lawful, IsStuck, IsMadeOf, both_lawful, made_lawful, given_lawful, fits_lawful, both_fit, both_spell}
use Rattle.journal_format.proofs.NumberLaws.{Leads, number_after_lawful, may_lead-from}
use Rattle.journal_format.proofs.TextLaws.{IsEnd, itself, text_after_lawful}
use Rattle.journal_format.proofs.Utf8Laws.{text_ends, utf8_from_ends}

-- ---- numbers

quotient-zero : (width x : ℕ) → x < 256 ^ width → x / 256 ^ width ≡ 0
quotient-zero width x lt =
    let pos : 0 < 256 ^ width = one-le-pow width 256 (lit≤ tt) in
    let below : x / 256 ^ width < 1 = div_below x (256 ^ width) 1 pos (omega arith) in
    omega arith

pub number_lawful : (width least most : ℕ) → least ≤ most → most < 256 ^ width → Lawful (big_endian width) (Passes (is_within least most)) (number width least most)
number_lawful width least most le lt =
    let zero-least : least / 256 ^ width ≡ 0 = quotient-zero width least (omega arith) in
    fits_lawful (big_endian width) (Leads least most width 0) (Passes (is_within least most)) (number width least most)
    (number_after_lawful least most width 0 le (may_lead-from least most width 0 (omega arith) (omega arith)))
    (λ x h. within-from least most x h.low h.high)
    (λ x h. let p = within-parts least most x h in record { low = p.0; high = p.1; leading = quotient-zero width x (omega (arith, p.1)) })

pub most_lawful : (width most : ℕ) → most < 256 ^ width → Lawful (big_endian width) (Passes (λ n. leb n most)) (number width 0 most)
most_lawful width most lt =
    fits_lawful (big_endian width) (Passes (is_within 0 most)) (Passes (λ n. leb n most)) (number width 0 most) (number_lawful width 0 most (omega arith) lt)
    (λ n e. within_zero-parts most n e) (λ n e. within_zero-from most n e)

-- ---- texts

pub text_lawful : (len : ℕ) → Lawful itself (λ t. (length t ≡ len) × IsUtf8 t) (text_of len)
text_lawful len =
    fits_lawful itself (IsEnd len 0 0x80 0xBF) (λ t. (length t ≡ len) × IsUtf8 t) (text_of len) (text_after_lawful len 0 0x80 0xBF (omega arith) (lit≤ tt))
    (λ t h. (h.0, utf8_from_ends t h.1)) (λ t h. (h.0, text_ends t h.1))

-- ---- a number, and what has that size

abbrev pub sized : {B : Type 0} → ℕ → (B → ℕ) → (B → List ℕ) → B → List ℕ
sized width size G b = big_endian width (size b) ++ G b

pub sized_lawful : {B : Type 0} (width least most : ℕ) (size : B → ℕ) (G : B → List ℕ) (R : B → Type 0) (s : ℕ → List ℕ → Read B) → least ≤ most → most < 256 ^ width
    → ((n : ℕ) → is_within least most n ≡ true → Lawful G (λ b. (size b ≡ n) × R b) (s n))
    → Lawful (sized width size G) (λ b. Passes (is_within least most) (size b) × R b) (sized_at width least most s)
unfolding sized_at
sized_lawful {B = B} width least most size G R s le lt each =
    let P : ℕ → Type 0 = Passes (is_within least most) in
    let Q : ℕ → B → Type 0 = λ n b. (size b ≡ n) × R b in
    let two = both_lawful (big_endian width) P (number width least most) (λ _. G) Q s (number_lawful width least most le lt) each in
    let three = made_lawful (λ (p : ℕ × B). p.1) (both_spell (big_endian width) (λ _. G)) (both_fit P Q) (both (number width least most) s) (sized width size G) two
    (λ p fit. ap (λ (n : ℕ). big_endian width n ++ G p.1) fit.1.0) in
    fits_lawful (sized width size G) (IsMadeOf (λ p. p.1) (both_fit P Q)) (λ b. P (size b) × R b) (made (λ p. p.1) (both (number width least most) s)) three
    (λ b m. subst (λ (x : B). P (size x) × R x) (sym m.2) (subst P (sym m.1.1.0) m.1.0, m.1.1.1)) (λ b h. ((size b, b), (h.0, (refl, h.1)), refl))

-- UTF-8 of a length from least to most
abbrev pub IsSized : ℕ → ℕ → List ℕ → Type 0
IsSized least most t = Passes (is_within least most) (length t) × Passes is_utf8 t

pub text_at_lawful : (width least most : ℕ) → least ≤ most → most < 256 ^ width → Lawful (sized width length itself) (IsSized least most) (text_at width least most)
text_at_lawful width least most le lt = sized_lawful width least most length itself (Passes is_utf8) text_of le lt (λ n fit.
    fits_lawful itself (λ t. (length t ≡ n) × IsUtf8 t) (λ t. (length t ≡ n) × Passes is_utf8 t) (text_of n) (text_lawful n) (λ t h. (h.0, is_utf8-from_IsUtf8 t h.1)) (λ t h. (h.0, IsUtf8-from_is_utf8 t h.1)))

abbrev pub IsAtMost : ℕ → List ℕ → Type 0
IsAtMost most t = Passes (λ n. leb n most) (length t) × Passes is_utf8 t

pub text_most_lawful : (most : ℕ) → most < 256 ^ 2 → Lawful (sized 2 length itself) (IsAtMost most) (text_at 2 0 most)
text_most_lawful most lt =
    fits_lawful (sized 2 length itself) (IsSized 0 most) (IsAtMost most) (text_at 2 0 most) (text_at_lawful 2 0 most (omega arith) lt)
    (λ t h. (within_zero-parts most (length t) h.0, h.1)) (λ t h. (within_zero-from most (length t) h.0, h.1))

-- ---- lists

pub then_lawful : {A B : Type 0} (F : A → List ℕ) (P : A → Type 0) (r : List ℕ → Read A) (G : B → List ℕ) (Q : B → Type 0) (s : List ℕ → Read B)
    → Lawful F P r → Lawful G Q s → Lawful (both_spell F (λ _. G)) (both_fit P (λ _. Q)) (r then s)
then_lawful F P r G Q s L M = both_lawful F P r (λ _. G) (λ _. Q) (λ _. s) L (λ a fit. M)

abbrev pub AreItems : {A : Type 0} → (A → Type 0) → ℕ → List A → Type 0
AreItems P n xs = (length xs ≡ n) × AllByRecursion P xs

pub items_lawful : {A : Type 0} (F : A → List ℕ) (P : A → Type 0) (item : List ℕ → Read A) → Lawful F P item → (n : ℕ) → Lawful (flat_map F) (AreItems P n) (items item n)
unfolding items
items_lawful {A = A} F P item L zero =
    fits_lawful (flat_map F) (λ xs. xs ≡ []) (AreItems P 0) (given []) (given_lawful (flat_map F) [] refl)
    (λ xs is. subst (λ (x : List A). AreItems P 0 x) (sym is) (refl, tt)) (λ xs h. nil_from_length xs h.0)
items_lawful {A = A} F P item L (suc n) =
    let two = then_lawful F P item (flat_map F) (AreItems P n) (items item n) L (items_lawful F P item L n) in
    let three = made_lawful (prepend {A = A}) (both_spell F (λ _. flat_map F)) (both_fit P (λ _. AreItems P n)) (item then items item n) (flat_map F) two (λ p fit. refl) in
    fits_lawful (flat_map F) (IsMadeOf prepend (both_fit P (λ _. AreItems P n))) (AreItems P (suc n)) (items item (suc n)) three (items_to P n) (items_from P n)
  where
    items_to : {A : Type 0} (P : A → Type 0) (n : ℕ) (xs : List A) → IsMadeOf prepend (both_fit P (λ _. AreItems P n)) xs → AreItems P (suc n) xs
    items_to {A = A} P n xs (p, fit, is) = subst (λ (x : List A). AreItems P (suc n) x) (sym is) (ap suc fit.1.0, (fit.0, fit.1.1))

    items_from : {A : Type 0} (P : A → Type 0) (n : ℕ) (xs : List A) → AreItems P (suc n) xs → IsMadeOf prepend (both_fit P (λ _. AreItems P n)) xs
    items_from P n [] h = absurd (let z : 0 ≡ suc n = h.0 in omega arith)
    items_from P n (x ∷ xs) h = ((x, xs), (h.1.0, (let z : suc (length xs) ≡ suc n = h.0 in omega arith, h.1.1)), refl)

abbrev pub AreSized : {A : Type 0} → ℕ → ℕ → (A → Type 0) → List A → Type 0
AreSized least most P xs = Passes (is_within least most) (length xs) × AllByRecursion P xs

pub list_lawful : {A : Type 0} (width least most : ℕ) (F : A → List ℕ) (P : A → Type 0) (item : List ℕ → Read A) → least ≤ most → most < 256 ^ width
    → Lawful F P item → Lawful (sized width length (flat_map F)) (AreSized least most P) (list_at width least most item)
list_lawful width least most F P item le lt L = sized_lawful width least most length (flat_map F) (AllByRecursion P) (items item) le lt (λ n fit. items_lawful F P item L n)

-- ---- tags

-- what may be read after a tag: the values of this tag, or none where no value has it
abbrev pub OfTag : {A : Type 0} → (A → ℕ) → (A → List ℕ) → (A → Type 0) → ℕ → Option (List ℕ → Read A) → Type 0
OfTag {A = A} tag body P t None = (a : A) → P a → tag a ≡ t → ⊥
OfTag {A = A} tag body P t (Some r) = Lawful body (λ a. P a × (tag a ≡ t)) r

abbrev pub tagged_spell : {A : Type 0} → (A → ℕ) → (A → List ℕ) → A → List ℕ
tagged_spell tag body a = tag a ∷ body a

tagged_again : {A : Type 0} (tag : A → ℕ) (body : A → List ℕ) (P : A → Type 0) (a : A) (rest : List ℕ) (o : Option (List ℕ → Read A)) → OfTag tag body P (tag a) o → P a
    → after_tag o (tag a) (body a ++ rest) ≡ Ok (a, rest)
tagged_again tag body P a rest None h p = absurd (h a p refl)
tagged_again tag body P a rest (Some r) L p = L.again a rest (p, refl)

tagged_found : {A : Type 0} (tag : A → ℕ) (body : A → List ℕ) (P : A → Type 0) (t : ℕ) (bytes : List ℕ) (a : A) (rest : List ℕ) (o : Option (List ℕ → Read A)) → OfTag tag body P t o
    → after_tag o t bytes ≡ Ok (a, rest) → P a × (t ∷ bytes ≡ tagged_spell tag body a ++ rest)
tagged_found tag body P t bytes a rest None h e = absurd cc
tagged_found tag body P t bytes a rest (Some r) L e =
    let x = L.found bytes a rest e in
    (x.0.0, ap (λ (b : ℕ). b ∷ bytes) (sym x.0.1) ∙ ap (λ (u : List ℕ). tag a ∷ u) x.1)

tagged_stuck : {A : Type 0} (tag : A → ℕ) (body : A → List ℕ) (P : A → Type 0) (some : A) → P some → (t : ℕ) (bytes rest : List ℕ) (o : Option (List ℕ → Read A)) → OfTag tag body P t o
    → after_tag o t bytes ≡ Err rest → IsStuck (tagged_spell tag body) P (t ∷ bytes) rest
tagged_stuck {A = A} tag body P some fit t bytes rest None h e =
    let whole : t ∷ bytes ≡ rest = cc in
    record {
      prefix = [];
      whole = whole;
      value = some;
      more = tagged_spell tag body some;
      is_fit = fit;
      goes_on = refl;
      ends = λ a b later more at_rest p text.
          let z : t ∷ bytes ≡ b ∷ later = whole ∙ at_rest in
          let tb : t ≡ b = cc in
          let ab : tag a ≡ b = cc in
          h a p (ab ∙ sym tb);
    }
tagged_stuck {A = A} tag body P some fit t bytes rest (Some r) L e =
    let k = L.stuck bytes rest e in
    record {
      prefix = t ∷ k.prefix;
      whole = ap (λ (u : List ℕ). t ∷ u) k.whole;
      value = k.value;
      more = k.more;
      is_fit = k.is_fit.0;
      goes_on = ap (λ (b : ℕ). b ∷ body k.value) k.is_fit.1 ∙ ap (λ (u : List ℕ). t ∷ u) k.goes_on;
      ends = λ a b later more at_rest p text.
          let ta : tag a ≡ t = cc in
          let body-is : body a ≡ k.prefix ++ (b ∷ more) = cc in
          k.ends a b later more at_rest (p, ta) body-is;
    }

tagged_nothing : {A : Type 0} (spell : A → List ℕ) (P : A → Type 0) (some : A) → P some → (rest : List ℕ) → [] ≡ rest → IsStuck spell P [] rest
tagged_nothing spell P some fit rest is = record {
  prefix = [];
  whole = is;
  value = some;
  more = spell some;
  is_fit = fit;
  goes_on = refl;
  ends = λ a b later more at_rest p text. let z : [] ≡ b ∷ later = is ∙ at_rest in cc;
}

tagged_stuck_any : {A : Type 0} (tag : A → ℕ) (body : A → List ℕ) (P : A → Type 0) (reader_of : ℕ → Option (List ℕ → Read A)) (some : A) → P some → ((t : ℕ) → OfTag tag body P t (reader_of t))
    → (bytes rest : List ℕ) → tagged reader_of bytes ≡ Err rest → IsStuck (tagged_spell tag body) P bytes rest
tagged_stuck_any tag body P reader_of some fit each [] rest e = tagged_nothing (tagged_spell tag body) P some fit rest (let z : [] ≡ rest = cc in z)
tagged_stuck_any tag body P reader_of some fit each (t ∷ bytes) rest e = tagged_stuck tag body P some fit t bytes rest (reader_of t) (each t) e

tagged_found_any : {A : Type 0} (tag : A → ℕ) (body : A → List ℕ) (P : A → Type 0) (reader_of : ℕ → Option (List ℕ → Read A)) → ((t : ℕ) → OfTag tag body P t (reader_of t))
    → (bytes : List ℕ) (a : A) (rest : List ℕ) → tagged reader_of bytes ≡ Ok (a, rest) → P a × (bytes ≡ tagged_spell tag body a ++ rest)
tagged_found_any tag body P reader_of each [] a rest e = absurd cc
tagged_found_any tag body P reader_of each (t ∷ bytes) a rest e = tagged_found tag body P t bytes a rest (reader_of t) (each t) e

pub tagged_lawful : {A : Type 0} (tag : A → ℕ) (body : A → List ℕ) (P : A → Type 0) (reader_of : ℕ → Option (List ℕ → Read A)) (some : A) → P some → ((t : ℕ) → OfTag tag body P t (reader_of t))
    → Lawful (tagged_spell tag body) P (tagged reader_of)
tagged_lawful tag body P reader_of some fit each = record {
  some = some;
  some_fits = fit;
  again = λ a rest p. tagged_again tag body P a rest (reader_of (tag a)) (each (tag a)) p;
  found = tagged_found_any tag body P reader_of each;
  stuck = tagged_stuck_any tag body P reader_of some fit each;
}

-- one tag more
pub tag_or : {A : Type 0} (tag : A → ℕ) (body : A → List ℕ) (P : A → Type 0) (u t : ℕ) (x y : Option (List ℕ → Read A)) → OfTag tag body P u x → ((t ≡ u → ⊥) → OfTag tag body P t y)
    → OfTag tag body P t (cond (t == u) x y)
tag_or {A = A} tag body P u t x y one other = by (t == u) refl
  where
    by : (b : Bool) → (t == u) ≡ b → OfTag tag body P t (cond b x y)
    by true e = subst (λ (v : ℕ). OfTag tag body P v x) (sym (eqb-true t u e)) one
    by false e = other (eqb-false t u e)

-- the same spelling, said otherwise
pub spell_lawful : {A : Type 0} (F G : A → List ℕ) (P : A → Type 0) (r : List ℕ → Read A) → Lawful F P r → ((a : A) → G a ≡ F a) → Lawful G P r
spell_lawful {A = A} F G P r L same = record {
  some = L.some;
  some_fits = L.some_fits;
  again = λ a rest p. ap (λ (t : List ℕ). r (t ++ rest)) (same a) ∙ L.again a rest p;
  found = λ bytes a rest e. let x = L.found bytes a rest e in (x.0, x.1 ∙ ap (λ (t : List ℕ). t ++ rest) (sym (same a)));
  stuck = λ bytes rest e. let k = L.stuck bytes rest e in record {
    prefix = k.prefix;
    whole = k.whole;
    value = k.value;
    more = k.more;
    is_fit = k.is_fit;
    goes_on = same k.value ∙ k.goes_on;
    ends = λ a b later more at_rest p text. k.ends a b later more at_rest p (sym (same a) ∙ text);
  };
}
