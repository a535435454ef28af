-- Of more values than there are holes, one is in none.
use Rattle.std.proofs.Common.{◌≡◌, ℕ, zero, suc, ◌<◌, ◌≤◌, Bool, true, false, cond, ltb, List, [], ◌∷◌, length, refl, sym, ap, subst, ◌∙◌, arith, ◌⊎◌, inl, inr}
use Rattle.job_states.specs.Texts.{is_among}
use Rattle.std.specs.Str.{bytes_eq}
use Rattle.std.proofs.lemmas.Bool.{or_from, cases_Bool, cases_lt, lt-ltb, le-ltb}
use Rattle.std.proofs.lemmas.Slice.Eq.{bytes_eq-Decides}

abbrev Apart : ℕ → (ℕ → List ℕ) → Type 0
Apart n f = (i j : ℕ) → i < n → j < n → f i ≡ f j → i ≡ j

-- is a value among the first n?
found_at : (n : ℕ) (f : ℕ → List ℕ) (x : List ℕ) → ((j : ℕ) × (j < n) × (f j ≡ x)) ⊎ ((j : ℕ) → j < n → bytes_eq x (f j) ≡ false)
found_at zero f x = inr (λ j lt. absurd (omega arith))
found_at (suc n) f x = by (found_at n f x) (cases_Bool (bytes_eq x (f n)))
  where
    below : ((j : ℕ) → j < n → bytes_eq x (f j) ≡ false) → bytes_eq x (f n) ≡ false → (j : ℕ) → j < suc n → bytes_eq x (f j) ≡ false
    below all off j lt = elim (cases_lt j n) [ inl l ↦ all j l | inr g ↦ (let same : n ≡ j = omega arith in subst (λ (k : ℕ). bytes_eq x (f k) ≡ false) same off) ]

    by : ((j : ℕ) × (j < n) × (f j ≡ x)) ⊎ ((j : ℕ) → j < n → bytes_eq x (f j) ≡ false) → (bytes_eq x (f n) ≡ true) ⊎ (bytes_eq x (f n) ≡ false) → ((j : ℕ) × (j < suc n) × (f j ≡ x)) ⊎ ((j : ℕ) → j < suc n → bytes_eq x (f j) ≡ false)
    by (inl (j, lt, e)) _ = inl (j, omega arith, e)
    by (inr all) (inl is) = inl (n, omega arith, sym ((bytes_eq-Decides x (f n)).0 is))
    by (inr all) (inr off) = inr (below all off)

-- all but the value at j
skip : ℕ → ℕ → ℕ
skip j i = cond (ltb i j) i (suc i)

skip-cases : (j i : ℕ) → ((i < j) × (skip j i ≡ i)) ⊎ ((j ≤ i) × (skip j i ≡ suc i))
unfolding skip
skip-cases j i = elim (cases_lt i j) [ inl l ↦ inl (l, ap (λ (t : Bool). cond t i (suc i)) (lt-ltb i j l)) | inr g ↦ inr (g, ap (λ (t : Bool). cond t i (suc i)) (le-ltb i j g)) ]

skip-bound : (n j i : ℕ) → j < suc n → i < n → skip j i < suc n
skip-bound n j i jl il = elim (skip-cases j i) [ inl (l, e) ↦ omega arith | inr (g, e) ↦ omega arith ]

skip-other : (j i : ℕ) → skip j i ≡ j → ⊥
skip-other j i same = elim (skip-cases j i) [ inl (l, e) ↦ absurd (omega arith) | inr (g, e) ↦ absurd (omega arith) ]

skip-apart : (j i k : ℕ) → skip j i ≡ skip j k → i ≡ k
skip-apart j i k same = by (skip-cases j i) (skip-cases j k)
  where
    by : ((i < j) × (skip j i ≡ i)) ⊎ ((j ≤ i) × (skip j i ≡ suc i)) → ((k < j) × (skip j k ≡ k)) ⊎ ((j ≤ k) × (skip j k ≡ suc k)) → i ≡ k
    by (inl (a, b)) (inl (c, d)) = omega arith
    by (inl (a, b)) (inr (c, d)) = absurd (omega arith)
    by (inr (a, b)) (inl (c, d)) = absurd (omega arith)
    by (inr (a, b)) (inr (c, d)) = omega arith

differs : (n : ℕ) (f : ℕ → List ℕ) (x : List ℕ) (j i : ℕ) → Apart (suc n) f → j < suc n → f j ≡ x → i < n → bytes_eq x (f (skip j i)) ≡ false
differs n f x j i apart jl here il = elim (cases_Bool (bytes_eq x (f (skip j i)))) [
  | inl is ↦ absurd (skip-other j i (apart (skip j i) j (skip-bound n j i jl il) jl (sym ((bytes_eq-Decides x (f (skip j i))).0 is) ∙ sym here)))
  | inr off ↦ off
]

pub one_outside : (holes : List (List ℕ)) (n : ℕ) (f : ℕ → List ℕ) → Apart n f → length holes < n → (i : ℕ) × (i < n) × (is_among holes (f i) ≡ false)
one_outside [] n f apart lt = (0, lt, refl)
one_outside (x ∷ holes) zero f apart lt = absurd (omega arith)
one_outside (x ∷ holes) (suc n) f apart lt = by (found_at (suc n) f x) (λ g apart'. one_outside holes n g apart' (omega arith))
  where
    by : ((j : ℕ) × (j < suc n) × (f j ≡ x)) ⊎ ((j : ℕ) → j < suc n → bytes_eq x (f j) ≡ false)
        → ((g : ℕ → List ℕ) → Apart n g → (i : ℕ) × (i < n) × (is_among holes (g i) ≡ false))
        → (i : ℕ) × (i < suc n) × (is_among (x ∷ holes) (f i) ≡ false)
    by (inl (j, jl, here)) again =
        let k = again (λ i. f (skip j i)) (λ a b al bl e. skip-apart j a b (apart (skip j a) (skip j b) (skip-bound n j a jl al) (skip-bound n j b jl bl) e)) in
        (skip j k.0, skip-bound n j k.0 jl k.1, or_from (bytes_eq x (f (skip j k.0))) (is_among holes (f (skip j k.0))) (differs n f x j k.0 apart jl here k.1) k.2)
    by (inr all) again =
        let k = again f (λ a b al bl e. apart a b (omega arith) (omega arith) e) in
        (k.0, omega (arith, k.1), or_from (bytes_eq x (f k.0)) (is_among holes (f k.0)) (all k.0 (omega (arith, k.1))) k.2)
