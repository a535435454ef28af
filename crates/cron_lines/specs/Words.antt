-- The words of a text: what spaces and tabs separate.
use Rattle.std.specs.Prelude.{ℕ, ◌-◌, Bool, not, ◌&&◌, ◌||◌, ◌==◌, List, map, filter, length, drop, slice_index}
use Rattle.std.specs.List.{before_first, range_with_len}

-- a space or a tab
abbrev pub is_blank : ℕ → Bool
is_blank c = (c == 32) || (c == 9)

-- a word begins at each byte that is no blank and stands first or after a blank
abbrev pub begins_word : List ℕ → ℕ → Bool
begins_word text at =
    not (is_blank (slice_index text at)) && ((at == 0) || is_blank (slice_index text (at - 1)))

-- a word: the place of its first byte in the text, and its bytes
pub record Word : Type 0 where
  pub at : ℕ
  pub bytes : List ℕ

-- its bytes go on up to the next blank
abbrev pub word_at : List ℕ → ℕ → Word
word_at text at = record { at = at; bytes = before_first is_blank (drop at text) }

-- the words that begin at a place or after it
unfoldable pub words_from : List ℕ → ℕ → List Word
words_from text from =
    map (word_at text) (filter (begins_word text) (range_with_len from (length text - from)))

abbrev pub words_of : List ℕ → List Word
words_of text = words_from text 0
