use Rattle.std.proofs.Common.{◌≡◌, sym, ◌∙◌, rules}
use Rattle.std.specs.Prelude.{not}
use Rattle.job_states.specs.Ranges.{is_in_range}
use Rattle.transition_table.proofs.InRange.{fit}
use Rattle.transition_table.proofs.ranges.is_in_range.Goals as goal

pub returns-after-matches-clause-fit : goal.returns-after-matches-clause-fit
returns-after-matches-clause-fit c = λ h. let e : not c.match-matches.matches ≡ is_in_range c.args.step.now = search rules in fit c.args.step.now (sym e ∙ h)
