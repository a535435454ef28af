use Rattle.std.proofs.Common.{sym, ◌∙◌, arith}
use Rattle.cron_lines.proofs.WordLemmas.{words_from-passes}
use Rattle.cron_lines.proofs.words.word_start.Goals as goal

pub loop-at-preserved : goal.loop-at-preserved
loop-at-preserved c =
    c.loop-at.invariant
    ∙ words_from-passes c.args.text.now c.loop-at.at (omega arith) (sym c.begins_word.ensures ∙ c.if-begins_word.false)
