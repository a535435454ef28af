use Rattle.std.proofs.Common.{◌≡◌, cond, ap, sym, ◌∙◌, count_by, arith}
use Rattle.std.specs.Map.{values_of}
use Rattle.std.specs.Map.Iter.{deref_pair}
use Rattle.std.proofs.lemmas.Map.Iter.{rest_all}
use Rattle.exec_tables.specs.Jobs.{at_stage_in, is_at}
use Rattle.exec_tables.proofs.RowLemmas.{number_sum}
use Rattle.exec_tables.proofs.jobs.Jobs.at_stage.Goals as goal

pub returns : goal.returns
returns c =
    let es = c.self.inside.rows.entries in
    let test = is_at c.args.stage in
    let begun = ap (λ l. count_by test (values_of l)) (c.into_iter-job-iterator.ensures.into_iter_gives ∙ c.iter-job-items.ensures.rest) in
    let ended = ap (λ l. count_by test (values_of l)) (rest_all deref_pair c.loop-job.job-iterator c.next.new.self c.next.result c.in-None.is c.next.ensures.steps) in
    let seen = c.loop-job.invariant ∙ begun in
    let all : c.loop-job.there ≡ count_by test (values_of es) = omega (arith, seen, ended) in
    all ∙ sym (number_sum (λ j. cond (test j) 1 0) es c.iter-job-items.ensures.unique) ∙ ap (λ t. at_stage_in t.rows c.args.stage) c.self.view_is
