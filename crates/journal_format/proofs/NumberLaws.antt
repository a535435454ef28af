-- Numbers of k bytes within a range.
use Rattle.std.proofs.Common.{◌≡◌, ℕ, zero, suc, ◌+◌, ◌-◌, ◌*◌, ◌/◌, ◌%◌, ◌^◌, ◌<◌, ◌≤◌, Bool, true, ◌&&◌, ltb, ◌∷◌, refl, sym, ap, subst, ◌∙◌, arith, lit≤}
use Rattle.std.specs.Int.{byte_at, bytes_high_first}
use Rattle.std.proofs.Math.Nat.{div-div-eq-div-mul, pow-suc, div-one, div-mul-le_self, one-le-pow}
use Rattle.std.proofs.lemmas.Nat.{le-div}
use Rattle.std.proofs.lemmas.Bool.{ltb-true, lt-ltb, and_parts, and_from}
use Rattle.journal_format.specs.Reading.{both, given, byte_where, may_lead, number_after}
use Rattle.journal_format.proofs.TestLaws.{within-parts, within-from}
use Rattle.journal_format.proofs.Lawful.{Lawful, IsMadeOf, one_byte, byte_lawful, both_lawful, made_lawful, given_lawful, fits_lawful, both_fit, both_spell}

div-mono : (k a b : ℕ) → a ≤ b → a / 256 ^ k ≤ b / 256 ^ k
div-mono k a b h = le-div (a / 256 ^ k) b (256 ^ k) (let p : 1 ≤ 256 ^ k = one-le-pow k 256 (lit≤ tt) in p) (let q = div-mul-le_self a (256 ^ k) in omega arith)

pub quotient-suc : (k x : ℕ) → x / 256 ^ suc k ≡ x / 256 ^ k / 256
quotient-suc k x = rw pow-suc (sym (div-div-eq-div-mul x (256 ^ k) 256))

byte-is : (k x : ℕ) → byte_at k x ≡ x / 256 ^ k % 256
byte-is zero x = ap (λ (y : ℕ). y % 256) (sym (div-one x))
byte-is (suc k) x = refl

-- a number from least to most whose bytes so far are n
pub record Leads (least most k n x : ℕ) : Type 0 where
  pub low : least ≤ x
  pub high : x ≤ most
  pub leading : x / 256 ^ k ≡ n

pub may_lead-parts : (least most k n : ℕ) → may_lead least most k n ≡ true → (least / 256 ^ k ≤ n) × (n ≤ most / 256 ^ k)
may_lead-parts least most k n e = within-parts (least / 256 ^ k) (most / 256 ^ k) n e

pub may_lead-from : (least most k n : ℕ) → least / 256 ^ k ≤ n → n ≤ most / 256 ^ k → may_lead least most k n ≡ true
may_lead-from least most k n p q = within-from (least / 256 ^ k) (most / 256 ^ k) n p q

abbrev pub is_next : ℕ → ℕ → ℕ → ℕ → ℕ → Bool
is_next least most k n b = ltb b 256 && may_lead least most k (n * 256 + b)

next-parts : (least most k n b : ℕ) → is_next least most k n b ≡ true → (b < 256) × (may_lead least most k (n * 256 + b) ≡ true)
next-parts least most k n b e = let p = and_parts (ltb b 256) (may_lead least most k (n * 256 + b)) e in (ltb-true b 256 p.0, p.1)

pub next-from : (least most k n b : ℕ) → b < 256 → may_lead least most k (n * 256 + b) ≡ true → is_next least most k n b ≡ true
next-from least most k n b p q = and_from (ltb b 256) (may_lead least most k (n * 256 + b)) (lt-ltb b 256 p) q

some_next : (l h n : ℕ) → l ≤ h → l / 256 ≤ n → n ≤ h / 256 → (l - n * 256 < 256) × (l ≤ n * 256 + (l - n * 256)) × (n * 256 + (l - n * 256) ≤ h)
some_next l h n lh p q = (omega arith, omega arith, omega arith)

some_byte : (least most k n : ℕ) → least ≤ most → may_lead least most (suc k) n ≡ true → is_next least most k n (least / 256 ^ k - n * 256) ≡ true
some_byte least most k n le e =
    let p = may_lead-parts least most (suc k) n e in
    let low : least / 256 ^ k / 256 ≤ n = rw (← quotient-suc k least) p.0 in
    let high : n ≤ most / 256 ^ k / 256 = rw (← quotient-suc k most) p.1 in
    let x = some_next (least / 256 ^ k) (most / 256 ^ k) n (div-mono k least most le) low high in
    next-from least most k n (least / 256 ^ k - n * 256) x.0 (may_lead-from least most k (n * 256 + (least / 256 ^ k - n * 256)) x.1 x.2)

lead_byte : (q n b : ℕ) → b < 256 → q ≡ n * 256 + b → (q % 256 ≡ b) × (q / 256 ≡ n)
lead_byte q n b lt e = (omega arith, omega arith)

lead_back : (q n : ℕ) → q / 256 ≡ n → (q % 256 < 256) × (q ≡ n * 256 + q % 256)
lead_back q n e = (omega arith, omega arith)

spell_step : (least most k n : ℕ) (p : ℕ × ℕ) → both_fit (λ b. is_next least most k n b ≡ true) (λ b. Leads least most k (n * 256 + b)) p → bytes_high_first (suc k) p.1 ≡ both_spell one_byte (λ _. bytes_high_first k) p
spell_step least most k n p fit =
    let b = next-parts least most k n p.0 fit.0 in
    let x = lead_byte (p.1 / 256 ^ k) n p.0 b.0 fit.1.leading in
    ap (λ (c : ℕ). c ∷ bytes_high_first k p.1) (byte-is k p.1 ∙ x.0)

step_to : (least most k n x : ℕ) → IsMadeOf (λ p. p.1) (both_fit (λ b. is_next least most k n b ≡ true) (λ b. Leads least most k (n * 256 + b))) x → Leads least most (suc k) n x
step_to least most k n x (p, fit, is) =
    let b = next-parts least most k n p.0 fit.0 in
    let y = lead_byte (p.1 / 256 ^ k) n p.0 b.0 fit.1.leading in
    record {
      low = rw is fit.1.low;
      high = rw is fit.1.high;
      leading = rw is (quotient-suc k p.1 ∙ y.1);
    }

step_from : (least most k n x : ℕ) → Leads least most (suc k) n x → IsMadeOf (λ p. p.1) (both_fit (λ b. is_next least most k n b ≡ true) (λ b. Leads least most k (n * 256 + b))) x
step_from least most k n x h =
    let y = lead_back (x / 256 ^ k) n (sym (quotient-suc k x) ∙ h.leading) in
    let lead = may_lead-from least most k (n * 256 + x / 256 ^ k % 256) (subst (λ (z : ℕ). least / 256 ^ k ≤ z) y.1 (div-mono k least x h.low)) (subst (λ (z : ℕ). z ≤ most / 256 ^ k) y.1 (div-mono k x most h.high)) in
    ((x / 256 ^ k % 256, x), (next-from least most k n (x / 256 ^ k % 256) y.0 lead, record { low = h.low; high = h.high; leading = y.1 }), refl)

zero_to : (least most n x : ℕ) → may_lead least most 0 n ≡ true → x ≡ n → Leads least most 0 n x
zero_to least most n x e is =
    let p = may_lead-parts least most 0 n e in
    let low : least ≤ n = subst (λ (z : ℕ). z ≤ n) (div-one least) p.0 in
    let high : n ≤ most = subst (λ (z : ℕ). n ≤ z) (div-one most) p.1 in
    record { low = omega arith; high = omega arith; leading = div-one x ∙ is }

pub number_after_lawful : (least most k n : ℕ) → least ≤ most → may_lead least most k n ≡ true → Lawful (bytes_high_first k) (Leads least most k n) (number_after least most k n)
unfolding number_after
number_after_lawful least most zero n le e =
    fits_lawful (bytes_high_first 0) (λ x. x ≡ n) (Leads least most 0 n) (given n) (given_lawful (bytes_high_first 0) n refl) (λ x is. zero_to least most n x e is) (λ x h. sym (div-one x) ∙ h.leading)
number_after_lawful least most (suc k) n le e =
    let P : ℕ → Type 0 = λ b. is_next least most k n b ≡ true in
    let Q : ℕ → ℕ → Type 0 = λ b. Leads least most k (n * 256 + b) in
    let one = byte_lawful (is_next least most k n) (least / 256 ^ k - n * 256) (some_byte least most k n le e) in
    let two = both_lawful one_byte P (byte_where (is_next least most k n)) (λ _. bytes_high_first k) Q (λ b. number_after least most k (n * 256 + b)) one
    (λ b fit. number_after_lawful least most k (n * 256 + b) le (next-parts least most k n b fit).1) in
    let three = made_lawful (λ (p : ℕ × ℕ). p.1) (both_spell one_byte (λ _. bytes_high_first k)) (both_fit P Q) (both (byte_where (is_next least most k n)) (λ b. number_after least most k (n * 256 + b))) (bytes_high_first (suc k)) two
    (λ p fit. spell_step least most k n p fit) in
    fits_lawful (bytes_high_first (suc k)) (IsMadeOf (λ p. p.1) (both_fit P Q)) (Leads least most (suc k) n) (number_after least most (suc k) n) three (λ x h. step_to least most k n x h) (λ x h. step_from least most k n x h)
