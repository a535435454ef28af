use Rattle.std.proofs.Common.{◌≡◌, ℕ, ◌+◌, ◌<◌, ◌≤◌, false, get_or}
use Rattle.cron_lines.specs.Words.{is_blank, words_from}
use Rattle.cron_lines.proofs.words.word_end.Given as goal

abbrev pub invariant-loop-at : goal.invariant-loop-at
invariant-loop-at l = record {
  letters : (k : ℕ) → l.start ≤ k → k < l.at → is_blank (get_or l.text k 0) ≡ false;
  after : words_from l.text (l.start + 1) ≡ words_from l.text l.at;
}
