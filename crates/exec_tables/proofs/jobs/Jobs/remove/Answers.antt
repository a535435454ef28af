use Rattle.std.proofs.Common.{ap, sym, ◌∙◌}
use Rattle.queue_model.specs.Map as map
use Rattle.exec_tables.specs.Jobs.{claimant_at, counts_of}
use Rattle.exec_tables.proofs.Claims.{taken}
use Rattle.exec_tables.proofs.jobs.Jobs.remove.Goals as goal

pub invariant_of-self : goal.invariant_of-self
invariant_of-self c =
    let is = c.self.inside in
    let before = c.claimant-before.ensures ∙ ap (λ t. claimant_at (map.get t.rows c.args.id)) (sym c.self.view_is) in
    taken (map.from_entries is.rows.entries) _ (counts_of is.claims.entries) _ is.newest c.args.id c.claimant-before.result c.self.invariant before c.remove.ensures.rows c.lower.ensures.rows
