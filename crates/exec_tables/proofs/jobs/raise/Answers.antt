use Rattle.std.proofs.Common.{ap, sym, ◌+◌, ◌∙◌}
use Rattle.queue_model.specs.Map as map
use Rattle.exec_tables.specs.Jobs.{counts_of, raised}
use Rattle.exec_tables.proofs.jobs.raise.Goals as goal

pub returns-clause-rows : goal.returns-clause-rows
returns-clause-rows c =
    let counts = counts_of c.args.claims.now.entries in
    c.put.ensures.rows ∙ ap (λ n. map.insert counts c.in-Some.pid (n + 1)) c.count-count.ensures ∙ sym (ap (raised counts) c.in-Some.is)
