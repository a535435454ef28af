-- Words, as a search for the next one finds them.
use Rattle.std.proofs.Common.{◌≡◌, ℕ, suc, ◌+◌, ◌-◌, ◌<◌, ◌≤◌, Bool, true, false, not, cond, ◌&&◌, ◌||◌, ◌==◌, List, [], ◌∷◌, length, map, filter, take, drop, get_or, ap, sym, refl, ◌∙◌, arith, length-drop}
use Rattle.std.specs.List.{position_or_len, before_first, range_with_len}
use Rattle.std.proofs.lemmas.List.{get_or-drop}
use Rattle.std.proofs.lemmas.List.Sums.{position_or_len_is}
use Rattle.std.proofs.lemmas.Bool.Decides.{nat_tests}
use Rattle.cron_lines.specs.Words.{Word, is_blank, begins_word, word_at, words_from}

-- ---- which words begin from a place on

found : (text : List ℕ) (from n : ℕ) → List Word
found text from n = map (word_at text) (filter (begins_word text) (range_with_len from n))

found-step : (text : List ℕ) (from n : ℕ) (begins : Bool) → begins_word text from ≡ begins → found text from (suc n) ≡ cond begins (word_at text from ∷ found text (from + 1) n) (found text (from + 1) n)
unfolding found
found-step text from n true is = ap (λ b. map (word_at text) (cond b (from ∷ filter (begins_word text) (range_with_len (from + 1) n)) (filter (begins_word text) (range_with_len (from + 1) n)))) is
found-step text from n false is = ap (λ b. map (word_at text) (cond b (from ∷ filter (begins_word text) (range_with_len (from + 1) n)) (filter (begins_word text) (range_with_len (from + 1) n)))) is

words_from-step : (text : List ℕ) (from : ℕ) (begins : Bool) → from < length text → begins_word text from ≡ begins → words_from text from ≡ cond begins (word_at text from ∷ words_from text (from + 1)) (words_from text (from + 1))
unfolding words_from found
words_from-step text from begins h is =
    let more : length text - from ≡ suc (length text - (from + 1)) = omega arith in
    ap (found text from) more ∙ found-step text from (length text - (from + 1)) begins is

pub words_from-begins : (text : List ℕ) (from : ℕ) → from < length text → begins_word text from ≡ true → words_from text from ≡ word_at text from ∷ words_from text (from + 1)
words_from-begins text from = words_from-step text from true

pub words_from-passes : (text : List ℕ) (from : ℕ) → from < length text → begins_word text from ≡ false → words_from text from ≡ words_from text (from + 1)
words_from-passes text from = words_from-step text from false

pub words_from-end : (text : List ℕ) (from : ℕ) → length text ≤ from → words_from text from ≡ []
unfolding words_from found
words_from-end text from h =
    let none : length text - from ≡ 0 = omega arith in ap (found text from) none

-- ---- a word that goes on

-- no word begins after a byte that is no blank
pub begins_word-inside : (text : List ℕ) (at : ℕ) → 0 < at → is_blank (get_or text (at - 1) 0) ≡ false → begins_word text at ≡ false
begins_word-inside text at h letter = ends (is_blank (get_or text at 0)) (at == 0) (above at h) letter
  where
    above : (n : ℕ) → 0 < n → (n == 0) ≡ false
    above n h = grind (arith, nat_tests)

    ends : (here first : Bool) → first ≡ false → is_blank (get_or text (at - 1) 0) ≡ false → (not here && (first || is_blank (get_or text (at - 1) 0))) ≡ false
    ends true first p q = refl
    ends false first p q = ap (λ b. b || is_blank (get_or text (at - 1) 0)) p ∙ q

-- a word's bytes, up to the first blank
pub word_bytes : (from at : ℕ) (text : List ℕ) → from ≤ at → at ≤ length text → ((k : ℕ) → from ≤ k → k < at → is_blank (get_or text k 0) ≡ false) → (at < length text → is_blank (get_or text at 0) ≡ true) → take (at - from) (drop from text) ≡ before_first is_blank (drop from text)
word_bytes from at text low high letters stop =
    let rest = drop from text in
    let end : position_or_len is_blank rest ≡ at - from =
    position_or_len_is is_blank rest (at - from) 0 (omega (arith, length-drop from text))
    (λ k h. ap is_blank (get_or-drop from text k 0) ∙ letters (from + k) (omega arith) (omega arith))
    (λ h. let e : from + (at - from) ≡ at = omega arith in ap is_blank (get_or-drop from text (at - from) 0) ∙ ap (λ n. is_blank (get_or text n 0)) e ∙ stop (omega (arith, length-drop from text))) in
    ap (λ n. take n rest) (sym end)
