-- Where a text is cut.
use Rattle.std.proofs.Common.{◌≡◌, ◌≤◌, ◌<◌, ◌⊎◌, inl, inr, ℕ, zero, suc, Bool, true, false, ◌&&◌, cond, if◌then◌else◌, nat_le, List, length, take, ap, sym, ◌∙◌, refl, subst, arith}
use Rattle.std.proofs.lemmas.Bool.{lt-leb}
use Rattle.std.proofs.Math.Nat.{eq-or-lt_of_le}
use Rattle.std.specs.Prelude.{nat_lt, slice_index_or}
use Rattle.std.specs.Str.{IsCharBoundary}
use Rattle.plan_model.specs.JobCommands.{cut_at, message_of}

module _ (text : List ℕ) where
  -- the byte goes on with a character
  abbrev goes_on : ℕ → Bool
  goes_on n = nat_le 128 (slice_index_or text n 0) && nat_lt (slice_index_or text n 0) 192

  inside : (n : ℕ) → n < length text → goes_on n ≡ true → ¬ (IsCharBoundary text n)
  inside n within e h = grind (arith, e, h.1, within)

  outside : (n : ℕ) → n < length text → goes_on n ≡ false → IsCharBoundary text n
  outside n within e = (omega (arith, within), λ _ high. grind (arith, e, high))

  -- the last boundary up to a place is where a text is cut
  pub cut_is : (n kept : ℕ) → n < length text → kept ≤ n → IsCharBoundary text kept → ((i : ℕ) → kept < i → i ≤ n → ¬ (IsCharBoundary text i)) → cut_at n text ≡ kept
  cut_is zero kept within bound boundary nearest = omega (arith, bound)
  cut_is (suc n) kept within bound boundary nearest =
      by (goes_on (suc n)) refl (eq-or-lt_of_le bound) (λ below. cut_is n kept (omega (arith, within)) (omega (arith, below)) boundary (λ i above le. nearest i above (omega (arith, le))))
    where
      by : (b : Bool) → goes_on (suc n) ≡ b → (kept ≡ suc n) ⊎ (kept < suc n) → (kept < suc n → cut_at n text ≡ kept) → cond b (cut_at n text) (suc n) ≡ kept
      by true e (inr below) rest = rest below
      by true e (inl same) rest = absurd (inside (suc n) within e (subst (IsCharBoundary text) same boundary))
      by false e (inr below) rest = absurd (nearest (suc n) below (omega arith) (outside (suc n) within e))
      by false e (inl same) rest = sym same

-- a short message is kept whole, and of a long one what comes before the cut
pub kept_whole : (text : List ℕ) → length text ≤ 1024 → message_of text ≡ text
kept_whole text short = ap (λ b. if b then text else take (cut_at 1024 text) text) (is_most (length text) 1024 short)
  where
    is_most : (n most : ℕ) → n ≤ most → nat_le n most ≡ true
    is_most n most le = grind (arith, le)

pub kept_part : (text : List ℕ) (kept : ℕ) → 1024 < length text → cut_at 1024 text ≡ kept → message_of text ≡ take kept text
kept_part text kept long cut = ap (λ b. if b then text else take (cut_at 1024 text) text) (is_more (length text) 1024 long) ∙ ap (λ n. take n text) cut
  where
    is_more : (n most : ℕ) → most < n → nat_le n most ≡ false
    is_more n most lt = lt-leb n most lt
