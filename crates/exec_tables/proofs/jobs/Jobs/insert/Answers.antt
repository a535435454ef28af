use Rattle.std.proofs.Common.{ap, sym, ◌∙◌, rules}
use Rattle.queue_model.specs.Map as map
use Rattle.exec_tables.specs.Jobs.{claimant_at, counts_of}
use Rattle.exec_tables.proofs.Claims.{fits, put}
use Rattle.exec_tables.proofs.jobs.Jobs.insert.Goals as goal

pub raise-requires-clause-fits : goal.raise-requires-clause-fits
raise-requires-clause-fits c = λ pid _.
    let is = c.self.inside in
    fits is.rows.entries (counts_of is.claims.entries) _ is.newest c.claimant-before.result c.len-jobs.ensures.unique (search rules) c.self.invariant c.lower.ensures.rows pid

pub invariant_of-self : goal.invariant_of-self
invariant_of-self c =
    let is = c.self.inside in
    let before = c.claimant-before.ensures ∙ ap (λ t. claimant_at (map.get t.rows c.args.id)) (sym c.self.view_is) in
    put (map.from_entries is.rows.entries) _ (counts_of is.claims.entries) _ _ is.newest _ c.args.id c.claimant-before.result c.claimant-after.result c.args.job c.self.invariant before c.claimant-after.ensures
    c.newer-self-inside.ensures c.requires.limit c.put.ensures.rows c.lower.ensures.rows c.raise.ensures.rows

pub returns-clause-rows : goal.returns-clause-rows
returns-clause-rows c = c.put.ensures.rows ∙ ap (λ t. map.insert t.rows c.args.id c.args.job) c.self.view_is
