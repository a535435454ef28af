use Rattle.std.proofs.Common.{◌≡◌, ℕ, ◌-◌, false, length, get_or, subst, inl, inr, sym, ◌∙◌, arith}
use Rattle.std.proofs.lemmas.Bool.{cases_lt}
use Rattle.cron_lines.specs.Words.{is_blank}
use Rattle.cron_lines.proofs.WordLemmas.{word_bytes, begins_word-inside, words_from-passes}
use Rattle.cron_lines.proofs.words.word_end.Goals as goal

pub returns-then-is_blank-clause-bytes : goal.returns-then-is_blank-clause-bytes
returns-then-is_blank-clause-bytes c =
    word_bytes c.args.start c.loop-at.at c.args.text.now (omega arith) (omega arith) c.loop-at.invariant.letters
    (λ _. sym c.is_blank.ensures ∙ c.if-is_blank.true)

pub returns-clause-bytes : goal.returns-clause-bytes
returns-clause-bytes c =
    word_bytes c.args.start (length c.args.text.now) c.args.text.now (omega arith) (omega arith)
    (λ k low high. c.loop-at.invariant.letters k low (omega arith))
    (λ h. absurd (omega arith))

pub loop-at-preserved : goal.loop-at-preserved
loop-at-preserved c =
    let at = c.loop-at.at in
    let letters = c.loop-at.invariant.letters in
    let inside = begins_word-inside c.args.text.now at (omega arith) (letters (at - 1) (omega arith) (omega arith)) in
    record {
      letters = λ k low high. elim (cases_lt k at) [
        | inl before ↦ letters k low before
        | inr last ↦
            let here : at ≡ k = omega arith in
            let P : ℕ → Type 0 = λ i. is_blank (get_or c.args.text.now i 0) ≡ false in
            subst P here (sym c.is_blank.ensures ∙ c.if-is_blank.false)
      ];
      after = c.loop-at.invariant.after ∙ words_from-passes c.args.text.now at c.loop-at-test.true inside;
    }
