-- The loop that reads a number byte by byte.
use Rattle.std.proofs.Common.{◌≡◌, ℕ, suc, ◌+◌, ◌-◌, ◌*◌, ◌/◌, ◌^◌, ◌<◌, ◌≤◌, true, false, ◌&&◌, ltb, leb, List, [], ◌∷◌, Ok, Err, refl, sym, ap, subst, ◌∙◌, arith, lit≤, ◌⊎◌, inl, inr}
use Rattle.std.proofs.Math.Nat.{div-le_self, one-le-pow, pow-le-pow_right}
use Rattle.std.proofs.lemmas.Bool.{lt-leb, and_left, and_right}
use Rattle.std.proofs.lemmas.Nat.{div_below}
use Rattle.job_states.specs.Judged.{◌>>=◌}
use Rattle.journal_format.specs.Reading.{Read, may_lead, number_after}
use Rattle.journal_format.proofs.NumberLaws.{may_lead-parts, may_lead-from, next-from, quotient-suc, is_next}

pub record SoFar (least most width done n : ℕ) (rest bytes : List ℕ) : Type 0 where
  pub same : number_after least most (width - done) n rest ≡ number_after least most width 0 bytes
  pub lead : may_lead least most (width - done) n ≡ true

second : (r : Read ℕ) (b : ℕ) → ((r >>= λ x. let y : Read (ℕ × ℕ) = Ok ((b, x.0), x.1) in y) >>= λ p. let z : Read ℕ = Ok (p.0.1, p.1) in z) ≡ r
second (Ok x) b = refl
second (Err e) b = refl

step_on : (least most k n b : ℕ) (rest : List ℕ) → is_next least most k n b ≡ true → number_after least most (suc k) n (b ∷ rest) ≡ number_after least most k (n * 256 + b) rest
unfolding number_after
step_on least most k n b rest e = rw e (second (number_after least most k (n * 256 + b) rest) b)

step_off : (least most k n b : ℕ) (rest : List ℕ) → is_next least most k n b ≡ false → number_after least most (suc k) n (b ∷ rest) ≡ Err (b ∷ rest)
unfolding number_after
step_off least most k n b rest e = rw e refl

step_end : (least most k n : ℕ) → number_after least most (suc k) n [] ≡ Err []
unfolding number_after
step_end least most k n = refl

step_done : (least most n : ℕ) (rest : List ℕ) → number_after least most 0 n rest ≡ Ok (n, rest)
unfolding number_after
step_done least most n rest = refl

pub begins : (least most width : ℕ) (bytes : List ℕ) → least ≤ most → most < 256 ^ width → SoFar least most width 0 0 bytes bytes
begins least most width bytes le lt =
    let w : width - 0 ≡ width = omega arith in
    let pos : 0 < 256 ^ width = one-le-pow width 256 (lit≤ tt) in
    let below : least / 256 ^ width < 1 = div_below least (256 ^ width) 1 pos (omega arith) in
    record { same = ap (λ (k : ℕ). number_after least most k 0 bytes) w; lead = rw w (may_lead-from least most width 0 (omega arith) (omega arith)) }

pub goes_on : (least most width done n b part : ℕ) (rest bytes : List ℕ) → done < width → b < 256 → part ≡ 256 ^ (width - 1 - done)
    → least / part ≤ n * 256 + b → n * 256 + b ≤ most / part → SoFar least most width done n (b ∷ rest) bytes → SoFar least most width (done + 1) (n * 256 + b) rest bytes
goes_on least most width done n b part rest bytes lt bl is low high h =
    let k = width - 1 - done in
    let one : width - done ≡ suc k = omega arith in
    let two : k ≡ width - (done + 1) = omega arith in
    let lead = may_lead-from least most k (n * 256 + b) (rw (← is) low) (rw (← is) high) in
    let next = next-from least most k n b bl lead in
    record {
      same = rw (← two) (sym (step_on least most k n b rest next) ∙ ap (λ (j : ℕ). number_after least most j n (b ∷ rest)) (sym one) ∙ h.same);
      lead = rw (← two) lead;
    }

outside : (l h n : ℕ) → (n < l) ⊎ (h < n) → (leb l n && leb n h) ≡ false
outside l h n (inl p) = and_left (leb l n) (leb n h) (lt-leb l n p)
outside l h n (inr p) = and_right (leb l n) (leb n h) (lt-leb n h p)

pub stops : (least most width done n b part : ℕ) (rest bytes : List ℕ) → done < width → part ≡ 256 ^ (width - 1 - done)
    → (n * 256 + b < least / part) ⊎ (most / part < n * 256 + b) → SoFar least most width done n (b ∷ rest) bytes → number_after least most width 0 bytes ≡ Err (b ∷ rest)
stops least most width done n b part rest bytes lt is out h =
    let k = width - 1 - done in
    let one : width - done ≡ suc k = omega arith in
    let no : may_lead least most k (n * 256 + b) ≡ false = rw (← is) (outside (least / part) (most / part) (n * 256 + b) out) in
    let next : is_next least most k n b ≡ false = and_right (ltb b 256) (may_lead least most k (n * 256 + b)) no in
    sym h.same ∙ ap (λ (j : ℕ). number_after least most j n (b ∷ rest)) one ∙ step_off least most k n b rest next

pub stops_short : (least most width done n : ℕ) (bytes : List ℕ) → done < width → SoFar least most width done n [] bytes → number_after least most width 0 bytes ≡ Err []
stops_short least most width done n bytes lt h =
    let one : width - done ≡ suc (width - done - 1) = omega arith in
    sym h.same ∙ ap (λ (j : ℕ). number_after least most j n []) one ∙ step_end least most (width - done - 1) n

pub ends : (least most width done n : ℕ) (rest bytes : List ℕ) → width ≤ done → SoFar least most width done n rest bytes → number_after least most width 0 bytes ≡ Ok (n, rest)
ends least most width done n rest bytes le h =
    let none : width - done ≡ 0 = omega arith in
    sym h.same ∙ ap (λ (j : ℕ). number_after least most j n rest) none ∙ step_done least most n rest

-- the next number fits 64 bits
pub fits : (least most width done n b : ℕ) (rest bytes : List ℕ) → done < width → most < 2 ^ 64 → b < 256 → SoFar least most width done n rest bytes → n * 256 + b < 2 ^ 64
fits least most width done n b rest bytes lt ml bl h =
    let k = width - 1 - done in
    let one : width - done ≡ suc k = omega arith in
    let p = may_lead-parts least most (width - done) n h.lead in
    let q : n ≤ most / 256 ^ k / 256 = rw (← quotient-suc k most, ← one) p.1 in
    let r = div-le_self most (256 ^ k) in
    omega arith

pub below_power : (k : ℕ) → 0 < 256 ^ k
below_power k = one-le-pow k 256 (lit≤ tt)

pub power_fits : (width done : ℕ) → width ≤ 8 → done < width → 256 ^ (width - 1 - done) < 2 ^ 64
power_fits width done le lt =
    let p : 256 ^ (width - 1 - done) ≤ 256 ^ 7 = pow-le-pow_right (let q : 0 < 256 = lit≤ tt in q) (let r : width - 1 - done ≤ 7 = omega arith in r) in
    omega arith

-- the same, for bytes known to begin so
pub at_prefix : (least most width done n : ℕ) (left prefix bytes : List ℕ) → left ≡ prefix → SoFar least most width done n left bytes → SoFar least most width done n prefix bytes
at_prefix least most width done n left prefix bytes e h = subst (λ (x : List ℕ). SoFar least most width done n x bytes) e h
