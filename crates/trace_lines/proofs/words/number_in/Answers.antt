use Rattle.std.proofs.Common.{inr, rules}
use Rattle.trace_lines.proofs.WordLemmas.{number_of-unparsed}
use Rattle.trace_lines.proofs.words.number_in.Goals as goal

pub returns-in-Err : goal.returns-in-Err
returns-in-Err c = inr (number_of-unparsed c.args.word.now c.in-Err.field-0 c.in-Err.ensures.value.0 (search rules) (search rules))
