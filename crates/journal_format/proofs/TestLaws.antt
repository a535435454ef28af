-- Tests that are joined by `&&`, and what each of them gives.
use Rattle.std.proofs.Common.{◌≡◌, ℕ, ◌+◌, ◌≤◌, Bool, true, ◌&&◌, leb, ltb, List, [], ◌∷◌, refl, arith}
use Rattle.std.proofs.Math.Dec.{leb-zero}
use Rattle.std.specs.List.{list_all, AllByRecursion}
use Rattle.std.specs.Str.{IsUtf8, is_utf8}
use Rattle.std.proofs.lemmas.Str.{is_utf8-from_IsUtf8}
use Rattle.std.proofs.lemmas.Bool.{and_parts, and_from, leb-true, le-leb, ltb-true, lt-ltb}
use Rattle.job_states.specs.Length.{is_within}

abbrev pub Passes : {A : Type 0} → (A → Bool) → A → Type 0
Passes test a = test a ≡ true

pub parts3 : (a b c : Bool) → (a && b && c) ≡ true → (a ≡ true) × (b ≡ true) × (c ≡ true)
parts3 true true true e = (refl, refl, refl)
parts3 a b c e = absurd cc

pub from3 : (a b c : Bool) → a ≡ true → b ≡ true → c ≡ true → (a && b && c) ≡ true
from3 true true true p q r = refl
from3 a b c p q r = absurd cc

pub parts4 : (a b c d : Bool) → (a && b && c && d) ≡ true → (a ≡ true) × (b ≡ true) × (c ≡ true) × (d ≡ true)
parts4 true true true true e = (refl, refl, refl, refl)
parts4 a b c d e = absurd cc

pub from4 : (a b c d : Bool) → a ≡ true → b ≡ true → c ≡ true → d ≡ true → (a && b && c && d) ≡ true
from4 true true true true p q r s = refl
from4 a b c d p q r s = absurd cc

pub parts9 : (a b c d e f g h i : Bool) → (a && b && c && d && e && f && g && h && i) ≡ true
    → (a ≡ true) × (b ≡ true) × (c ≡ true) × (d ≡ true) × (e ≡ true) × (f ≡ true) × (g ≡ true) × (h ≡ true) × (i ≡ true)
parts9 true true true true true true true true true all = (refl, refl, refl, refl, refl, refl, refl, refl, refl)
parts9 a b c d e f g h i all = absurd cc

pub from9 : (a b c d e f g h i : Bool) → a ≡ true → b ≡ true → c ≡ true → d ≡ true → e ≡ true → f ≡ true → g ≡ true → h ≡ true → i ≡ true
    → (a && b && c && d && e && f && g && h && i) ≡ true
from9 true true true true true true true true true p q r s t u v w x = refl
from9 a b c d e f g h i p q r s t u v w x = absurd cc

pub within-parts : (least most n : ℕ) → is_within least most n ≡ true → (least ≤ n) × (n ≤ most)
within-parts least most n e = let p = and_parts (leb least n) (leb n most) e in (leb-true least n p.0, leb-true n most p.1)

pub within-from : (least most n : ℕ) → least ≤ n → n ≤ most → is_within least most n ≡ true
within-from least most n p q = and_from (leb least n) (leb n most) (le-leb least n p) (le-leb n most q)

pub within_zero-parts : (most n : ℕ) → is_within 0 most n ≡ true → leb n most ≡ true
within_zero-parts most n e = (and_parts (leb 0 n) (leb n most) e).1

pub within_zero-from : (most n : ℕ) → leb n most ≡ true → is_within 0 most n ≡ true
within_zero-from most n e = and_from (leb 0 n) (leb n most) (leb-zero n) e

pub below-from : (most end n : ℕ) → end ≡ most + 1 → leb n most ≡ true → ltb n end ≡ true
below-from most end n is e = lt-ltb n end (omega (arith, leb-true n most e))

pub below-parts : (most end n : ℕ) → end ≡ most + 1 → ltb n end ≡ true → leb n most ≡ true
below-parts most end n is e = le-leb n most (omega (arith, ltb-true n end e))

-- each item passes both tests
pub all-parts : {A : Type 0} (p q : A → Bool) (xs : List A) → AllByRecursion (λ x. Passes p x × Passes q x) xs → Passes (list_all p) xs × Passes (list_all q) xs
all-parts p q [] h = (refl, refl)
all-parts p q (x ∷ xs) h = let k = all-parts p q xs h.1 in (and_from (p x) (list_all p xs) h.0.0 k.0, and_from (q x) (list_all q xs) h.0.1 k.1)

pub all-from : {A : Type 0} (p q : A → Bool) (xs : List A) → Passes (list_all p) xs → Passes (list_all q) xs → AllByRecursion (λ x. Passes p x × Passes q x) xs
all-from p q [] e f = tt
all-from p q (x ∷ xs) e f =
    let g = and_parts (p x) (list_all p xs) e in
    let h = and_parts (q x) (list_all q xs) f in
    ((g.0, h.0), all-from p q xs g.1 h.1)

pub utf8_passes : (t : List ℕ) → IsUtf8 t → is_utf8 t ≡ true
utf8_passes t h = is_utf8-from_IsUtf8 t h
