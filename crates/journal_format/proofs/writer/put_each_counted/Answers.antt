use Rattle.std.proofs.Common.{ap, sym, ◌∙◌}
use Rattle.std.specs.List.{list_all}
use Rattle.std.specs.Str.{is_utf8}
use Rattle.std.proofs.lemmas.List.{take_all}
use Rattle.std.proofs.lemmas.List.Folds.{list_all-map}
use Rattle.job_states.specs.declared.job.Counted.{Counted}
use Rattle.journal_format.proofs.writer.put_each_counted.Goals as goal

pub returns-clause-texts : goal.returns-clause-texts
returns-clause-texts c =
    list_all-map is_utf8 (λ (c : Counted). c.list) c.args.cs.now
    ∙ ap (list_all (λ (c : Counted). is_utf8 c.list)) (sym (take_all c.loop-c.c-index c.args.cs.now c.loop-c-test.false))
    ∙ c.loop-c.invariant.1
