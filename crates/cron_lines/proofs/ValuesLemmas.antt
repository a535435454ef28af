-- Values that pass a test, and the bits that stand for them.
use Rattle.std.proofs.Common.{bit_or, w64, subst, ◌≡◌, ◌≢◌, ℕ, zero, suc, ◌+◌, ◌*◌, ◌%◌, ◌^◌, ◌<◌, ◌≤◌, Bool, true, false, cond, ◌||◌, ◌==◌, List, [], ◌∷◌, filter, inl, inr, ap, sym, refl, ◌∙◌, arith}
use Rattle.std.specs.Int.{bit_at}
use Rattle.std.specs.List.{range_with_len}
use Rattle.std.proofs.Math.Bool.{or-false, or-true}
use Rattle.std.proofs.lemmas.Bool.{cases_lt, eq-eqb}
use Rattle.std.proofs.lemmas.Bool.Decides.{nat_tests}
use Rattle.std.proofs.lemmas.Nat.Bits.{bit_at_set_same, bit_at_set_other, bit_at-zero}
use Rattle.cron_lines.specs.declared.fields.Item.{Item}
use Rattle.cron_lines.specs.Field.{holds}
use Rattle.cron_lines.specs.Values.{values_where, has}

-- ---- numbers of a range that pass a test

abbrev passing : (ℕ → Bool) → ℕ → ℕ → List ℕ
passing test from n = filter test (range_with_len from n)

below-other : (a v : ℕ) → v < a → (a == v) ≡ false
below-other a v h = grind (arith, nat_tests)

has-passing_below : (test : ℕ → Bool) (from n v : ℕ) → v < from → has (passing test from n) v ≡ false
has-passing_below test from zero v h = refl
has-passing_below test from (suc n) v h =
    let later = has-passing_below test (from + 1) n v (omega arith) in
    elim (test from) as (λ b. has (cond b (from ∷ passing test (from + 1) n) (passing test (from + 1) n)) v ≡ false) [
      | true ↦ ap (λ b. b || has (passing test (from + 1) n) v) (below-other from v h) ∙ later
      | false ↦ later
    ]

has-passing : (test : ℕ → Bool) (from n v : ℕ) → from ≤ v → v < from + n → has (passing test from n) v ≡ test v
has-passing test from zero v low high = absurd (omega arith)
has-passing test from (suc n) v low high =
    let rest = passing test (from + 1) n in
    elim (cases_lt from v) [
      | inl above ↦
          let later = has-passing test (from + 1) n v (omega arith) (omega arith) in
          let other : (from == v) ≡ false = not_same from v above in
          elim (test from) as (λ b. has (cond b (from ∷ rest) rest) v ≡ test v) [
            | true ↦ ap (λ b. b || has rest v) other ∙ later
            | false ↦ later
          ]
      | inr at ↦
          let here : from ≡ v = omega arith in
          at_test (test from) refl here
    ]
  where
    not_same : (a b : ℕ) → a < b → (a == b) ≡ false
    not_same a b h = grind (arith, nat_tests)

    at_test : (b : Bool) → test from ≡ b → from ≡ v → has (cond b (from ∷ passing test (from + 1) n) (passing test (from + 1) n)) v ≡ test v
    at_test true is here = ap (λ c. c || has (passing test (from + 1) n) v) (eq-eqb from v here) ∙ sym (sym (ap test here) ∙ is)
    at_test false is here = has-passing_below test (from + 1) n v (omega arith) ∙ sym (sym (ap test here) ∙ is)

passing_same : (f g : ℕ → Bool) (from n : ℕ) → ((k : ℕ) → k < from + n → f k ≡ g k) → passing f from n ≡ passing g from n
passing_same f g from zero same = refl
passing_same f g from (suc n) same =
    ap (λ b. cond b (from ∷ passing f (from + 1) n) (passing f (from + 1) n)) (same from (omega arith))
    ∙ ap (λ rest. cond (g from) (from ∷ rest) rest) (passing_same f g (from + 1) n (λ k h. same k (omega arith)))

passing-never : (from n : ℕ) → passing (λ v. false) from n ≡ []
passing-never from zero = refl
passing-never from (suc n) = passing-never (from + 1) n

pub has-values_where : (test : ℕ → Bool) (v : ℕ) → v < 60 → has (values_where test) v ≡ test v
unfolding values_where
has-values_where test v h = has-passing test 0 60 v (omega arith) (omega arith)

pub values_where_same : (f g : ℕ → Bool) → ((k : ℕ) → k < 60 → f k ≡ g k) → values_where f ≡ values_where g
unfolding values_where
values_where_same f g same = passing_same f g 0 60 (λ k h. same k (omega arith))

-- ---- numbers whose bits stand for values

-- whether a value is in the set that a number stands for
abbrev pub is_in : ℕ → ℕ → Bool
is_in bits value = bit_at bits value == 1

pub values_where-no_bits : values_where (is_in 0) ≡ []
unfolding values_where
values_where-no_bits =
    values_where_same (is_in 0) (λ v. false) (λ k h. ap (λ x. x == 1) (bit_at-zero k))
    ∙ passing-never 0 60

-- ---- a value that is added to a set, and one that is not

pub set-done : (bits all value : ℕ) (item : Item) → value < 60 → holds item value ≡ true → ((k : ℕ) → k < value → is_in all k ≡ (is_in bits k || holds item k)) → (k : ℕ) → k < value + 1 → is_in (bit_or all (1 * 2 ^ value % 2 ^ 64)) k ≡ (is_in bits k || holds item k)
set-done bits all value item small held done k h =
    let new = bit_or all (1 * 2 ^ value % 2 ^ 64) in
    let is_one : ℕ → Bool = λ x. x == 1 in
    elim (cases_lt k value) [
      | inl below ↦
          let other : k ≢ value = omega arith in
          ap is_one (bit_at_set_other w64 all value (omega arith) k other) ∙ done k below
      | inr above ↦
          let last : k ≡ value = omega arith in
          let P : ℕ → Type 0 = λ i. is_in new i ≡ (is_in bits i || holds item i) in
          subst P (sym last) (ap is_one (bit_at_set_same w64 all value (omega arith)) ∙ sym (ap (λ b. is_in bits value || b) held ∙ or-true (is_in bits value)))
    ]

pub set-kept : (bits all value : ℕ) → value < 60 → ((k : ℕ) → value ≤ k → bit_at all k ≡ bit_at bits k) → (k : ℕ) → value + 1 ≤ k → bit_at (bit_or all (1 * 2 ^ value % 2 ^ 64)) k ≡ bit_at bits k
set-kept bits all value small kept k h =
    let other : k ≢ value = omega arith in
    bit_at_set_other w64 all value (omega arith) k other ∙ kept k (omega arith)

pub skip-done : (bits all value : ℕ) (item : Item) → holds item value ≡ false → bit_at all value ≡ bit_at bits value → ((k : ℕ) → k < value → is_in all k ≡ (is_in bits k || holds item k)) → (k : ℕ) → k < value + 1 → is_in all k ≡ (is_in bits k || holds item k)
skip-done bits all value item held same done k h =
    let is_one : ℕ → Bool = λ x. x == 1 in
    elim (cases_lt k value) [
      | inl below ↦ done k below
      | inr above ↦
          let last : k ≡ value = omega arith in
          let P : ℕ → Type 0 = λ i. is_in all i ≡ (is_in bits i || holds item i) in
          subst P (sym last) (ap is_one same ∙ sym (ap (λ b. is_in bits value || b) held ∙ or-false (is_in bits value)))
    ]
