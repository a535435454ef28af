use Rattle.std.proofs.Common.{◌≡◌, cond, ap, sym, ◌∙◌, rules, count_by, arith}
use Rattle.std.specs.Map.{values_of}
use Rattle.std.specs.Map.Iter.{deref_pair}
use Rattle.std.proofs.lemmas.Map.Iter.{rest_all}
use Rattle.queue_model.specs.World.{is_holder}
use Rattle.exec_tables.specs.Jobs.{holders_in}
use Rattle.exec_tables.proofs.RowLemmas.{number_sum}
use Rattle.exec_tables.proofs.jobs.Jobs.holders.Goals as goal

pub returns-then-self-generation : goal.returns-then-self-generation
returns-then-self-generation c = sym (sym (ap (λ t. holders_in t.rows c.args.key.now c.args.generation) c.self.view_is) ∙ c.self.invariant.newest c.args.key.now c.args.generation (search rules))

pub returns : goal.returns
returns c =
    let es = c.self.inside.rows.entries in
    let test = is_holder c.args.key.now c.args.generation in
    let begun = ap (λ l. count_by test (values_of l)) (c.into_iter-job-iterator.ensures.into_iter_gives ∙ c.iter-job-items.ensures.rest) in
    let ended = ap (λ l. count_by test (values_of l)) (rest_all deref_pair c.loop-job.job-iterator c.next.new.self c.next.result c.in-None.is c.next.ensures.steps) in
    let seen = c.loop-job.invariant ∙ begun in
    let all : c.loop-job.holders ≡ count_by test (values_of es) = omega (arith, seen, ended) in
    all ∙ sym (number_sum (λ j. cond (test j) 1 0) es c.iter-job-items.ensures.unique) ∙ ap (λ t. holders_in t.rows c.args.key.now c.args.generation) c.self.view_is
