use Rattle.std.proofs.Common.{◌≡◌}
use Rattle.cron_lines.specs.Words.{words_from}
use Rattle.cron_lines.proofs.words.word_start.Given as goal

abbrev pub invariant-loop-at : goal.invariant-loop-at
invariant-loop-at l = words_from l.text l.from ≡ words_from l.text l.at
