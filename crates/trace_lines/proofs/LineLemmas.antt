-- Lines and commands of too few or too many words, and bytes that are no text.
use Rattle.std.proofs.Common.{◌≡◌, ◌≤◌, ℕ, List, [], ◌∷◌, length, map, Bool, true, false, ◌&&◌, leb, refl, inl, inr, Err, arith}
use Rattle.std.proofs.lemmas.Bool.{cases_Bool}
use Rattle.std.proofs.lemmas.Bool.Decides.{nat_tests}
use Rattle.std.proofs.lemmas.Str.{IsUtf8-from_is_utf8, is_utf8-from_IsUtf8}
use Rattle.std.specs.Borrow.{Bor}
use Rattle.std.specs.Str.{IsUtf8, is_utf8}
use Rattle.trace_lines.specs.declared.line.LineFault.TheVariants.{NotALine}
use Rattle.trace_lines.specs.Lines.{command_of, line_of_words, words_of, judged_line}

abbrev pub texts : List (Bor (List ℕ)) → List (List ℕ)
texts words = map (λ w. w.now) words

pub command_of-other : (words : List (Bor (List ℕ))) → (length words ≡ 1 → ⊥) → (length words ≡ 2 → ⊥) → (length words ≡ 3 → ⊥) → (length words ≡ 4 → ⊥) → (length words ≡ 6 → ⊥) → command_of (texts words) ≡ Err NotALine
command_of-other [] one two three four six = refl
command_of-other (a ∷ []) one two three four six = absurd (one refl)
command_of-other (a ∷ b ∷ []) one two three four six = absurd (two refl)
command_of-other (a ∷ b ∷ c ∷ []) one two three four six = absurd (three refl)
command_of-other (a ∷ b ∷ c ∷ d ∷ []) one two three four six = absurd (four refl)
command_of-other (a ∷ b ∷ c ∷ d ∷ e ∷ []) one two three four six = refl
command_of-other (a ∷ b ∷ c ∷ d ∷ e ∷ f ∷ []) one two three four six = absurd (six refl)
command_of-other (a ∷ b ∷ c ∷ d ∷ e ∷ f ∷ g ∷ more) one two three four six = refl

pub judged_line-words : (bytes : List ℕ) → length bytes ≤ 4096 → IsUtf8 bytes → judged_line bytes ≡ line_of_words (words_of bytes)
judged_line-words bytes short utf8 =
    let within : leb (length bytes) 4096 ≡ true = grind (arith, nat_tests, short) in
    rw (within, is_utf8-from_IsUtf8 bytes utf8) refl

neither : (b : Bool) → (b && false) ≡ false
neither true = refl
neither false = refl

pub judged_line-other : (bytes : List ℕ) → (IsUtf8 bytes → ⊥) → judged_line bytes ≡ Err NotALine
judged_line-other bytes other =
    elim (cases_Bool (is_utf8 bytes)) [
      | inl is ↦ absurd (other (IsUtf8-from_is_utf8 bytes is))
      | inr not ↦ rw (not, neither (leb (length bytes) 4096)) refl
    ]
