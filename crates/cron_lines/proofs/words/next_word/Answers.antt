use Rattle.std.proofs.Common.{◌+◌, ◌<◌, ◌∷◌, List, ℕ, length, slice_range, ap, sym, ◌∙◌, arith}
use Rattle.cron_lines.specs.Words.{Word, words_from}
use Rattle.cron_lines.proofs.WordLemmas.{words_from-begins, words_from-end}
use Rattle.cron_lines.proofs.words.next_word.Goals as goal

pub returns-then-start-text : goal.returns-then-start-text
returns-then-start-text c =
    c.word_start-start.ensures.same ∙ words_from-end c.args.text.now c.word_start-start.result (omega arith)

pub returns : goal.returns
returns c =
    let text = c.args.text.now in
    let start = c.word_start-start.result in
    let inside : start < length text = omega arith in
    let made : List ℕ → List Word → List Word = λ bytes words. record { at = start; bytes = bytes } ∷ words in (
      omega arith,
      c.word_end.ensures.within,
      c.word_start-start.ensures.same
          ∙ words_from-begins text start inside (c.word_start-start.ensures.begins inside)
          ∙ ap (λ bytes. made bytes (words_from text (start + 1))) (sym c.word_end.ensures.bytes)
          ∙ ap (made (slice_range text start c.word_end.result)) c.word_end.ensures.after,
    )
