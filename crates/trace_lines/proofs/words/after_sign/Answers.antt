use Rattle.trace_lines.proofs.WordLemmas.{after_sign-stripped}
use Rattle.std.proofs.lemmas.Str.Pattern.{strip_prefix_char}
use Rattle.trace_lines.proofs.words.after_sign.Goals as goal

pub returns : goal.returns
returns c = after_sign-stripped c.args.sign c.args.word.now _ (strip_prefix_char c.args.sign c.args.word.now _ c.strip_prefix.ensures.cases c.requires)
