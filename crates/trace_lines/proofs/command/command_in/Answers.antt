use Rattle.std.proofs.Common.{inr, rules}
use Rattle.trace_lines.proofs.LineLemmas.{command_of-other}
use Rattle.trace_lines.proofs.command.command_in.Goals as goal

pub returns-in_default-clause-exact : goal.returns-in_default-clause-exact
returns-in_default-clause-exact c =
    inr (command_of-other c.args.words.now (search rules) (search rules) (search rules) (search rules) (search rules))
