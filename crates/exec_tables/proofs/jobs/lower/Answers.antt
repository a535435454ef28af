use Rattle.std.proofs.Common.{◌-◌, Some, ap, sym, ◌∙◌, rules}
use Rattle.queue_model.specs.Sights.{set}
use Rattle.exec_tables.specs.Jobs.{counts_of, lowered, kept_count}
use Rattle.exec_tables.proofs.Claims.{kept_some}
use Rattle.exec_tables.proofs.jobs.lower.Goals as goal

pub returns-else-count-le1-clause-rows : goal.returns-else-count-le1-clause-rows
returns-else-count-le1-clause-rows c =
    let counts = counts_of c.args.claims.now.entries in
    c.replace.ensures.rows ∙ ap (set counts (Some c.in-Some.pid)) (kept_some (c.count-count.result - 1) (search rules)) ∙ ap (λ n. set counts (Some c.in-Some.pid) (kept_count (n - 1))) c.count-count.ensures ∙ sym (ap (lowered counts) c.in-Some.is)
