-- Reading from left to right: small readers, and how they are put together.
use Rattle.std.specs.Prelude.{ℕ, zero, suc, ◌+◌, ◌*◌, ◌/◌, ◌^◌, Bool, ◌&&◌, nat_lt, if◌then◌else◌, List, [], ◌∷◌, Option, Some, None, Result, Ok, Err}
use Rattle.job_states.specs.Judged.{◌>>=◌}
use Rattle.job_states.specs.Length.{is_within}

-- a value and the bytes after it, or the bytes from the first one on that nothing continues
abbrev pub Read : Type 0 → Type 0
Read A = Result (A × List ℕ) (List ℕ)

-- one after the other; the second may depend on what the first read
abbrev pub both : {A B : Type 0} → (List ℕ → Read A) → (A → List ℕ → Read B) → List ℕ → Read (A × B)
both first second bytes = do
  a ← first bytes
  b ← second a.0 a.1
  Ok ((a.0, b.0), b.1)

abbrev pub made : {A B : Type 0} → (A → B) → (List ℕ → Read A) → List ℕ → Read B
made make read bytes = read bytes >>= λ a. Ok (make a.0, a.1)

-- no bytes at all
abbrev pub given : {A : Type 0} → A → List ℕ → Read A
given a bytes = Ok (a, bytes)

abbrev pub byte_where : (ℕ → Bool) → List ℕ → Read ℕ
byte_where is_allowed [] = Err []
byte_where is_allowed (b ∷ bytes) = if is_allowed b then Ok (b, bytes) else Err (b ∷ bytes)

-- a value whose first byte is its tag: the tag says how to read the rest, where it may stand here
abbrev pub after_tag : {A : Type 0} → Option (List ℕ → Read A) → ℕ → List ℕ → Read A
after_tag None tag bytes = Err (tag ∷ bytes)
after_tag (Some read) tag bytes = read bytes

abbrev pub tagged : {A : Type 0} → (ℕ → Option (List ℕ → Read A)) → List ℕ → Read A
tagged reader_of [] = Err []
tagged reader_of (tag ∷ bytes) = after_tag (reader_of tag) tag bytes

-- n may be the leading part of a number from least to most of which k bytes are still to come
abbrev pub may_lead : ℕ → ℕ → ℕ → ℕ → Bool
may_lead least most k n = is_within (least / 256 ^ k) (most / 256 ^ k) n

-- k bytes of a number from least to most; its bytes so far are the number n
unfoldable pub number_after : ℕ → ℕ → ℕ → ℕ → List ℕ → Read ℕ
number_after least most zero n = given n
number_after least most (suc k) n =
    made (λ p. p.1) (both (byte_where (λ b. nat_lt b 256 && may_lead least most k (n * 256 + b))) (λ b. number_after least most k (n * 256 + b)))

-- a number of k bytes from least to most
abbrev pub number : ℕ → ℕ → ℕ → List ℕ → Read ℕ
number k least most bytes = number_after least most k 0 bytes

-- one after the other
infixr 20 ◌then◌
abbrev pub ◌then◌ : {A B : Type 0} → (List ℕ → Read A) → (List ℕ → Read B) → List ℕ → Read (A × B)
first then second = both first (λ _. second)

abbrev pub prepend : {A : Type 0} → A × List A → List A
prepend p = p.0 ∷ p.1

-- so many items in turn
unfoldable pub items : {A : Type 0} → (List ℕ → Read A) → ℕ → List ℕ → Read (List A)
items item zero = given []
items item (suc n) = made prepend (item then items item n)
