use Rattle.std.proofs.Common.{◌≡◌, ap, sym, ◌∙◌, rules}
use Rattle.queue_model.specs.Map as map
use Rattle.queue_model.specs.Transitions.{counted}
use Rattle.queue_model.specs.World.{job}
use Rattle.exec_tables.specs.Jobs.{claimant_at, claimant_of, counts_of, newer}
use Rattle.exec_tables.proofs.Claims.{counted_limit, fits, moved}
use Rattle.exec_tables.proofs.RowLemmas.{number_changed, number_found, number_missing, number_there, same_Some}
use Rattle.exec_tables.proofs.jobs.Jobs.change.Goals as goal

pub returns-in_default-clause-there : goal.returns-in_default-clause-there
returns-in_default-clause-there c = λ j there. absurd (number_missing c.self.inside.rows.entries c.args.id j c.in_default.ensures.value (ap (λ t. map.get t.rows c.args.id) c.self.view_is ∙ there))

pub returns-clause-absent : goal.returns-clause-absent
returns-clause-absent c = λ gone. absurd (number_there c.self.inside.rows.entries c.args.id c.in-Some.job.now c.in-Some.ensures.value (ap (λ t. map.get t.rows c.args.id) c.self.view_is ∙ gone))

pub raise-requires-clause-fits : goal.raise-requires-clause-fits
raise-requires-clause-fits c = λ pid _.
    let is = c.self.inside in
    fits is.rows.entries (counts_of is.claims.entries) _ is.newest c.claimant-before.result c.len-jobs.ensures.unique (search rules) c.self.invariant c.lower.ensures.rows pid

pub invariant_of-self-2 : goal.invariant_of-self-2
invariant_of-self-2 c =
    let is = c.self.inside in
    let now = c.in-Some.job.now in
    let there = number_found is.rows.entries c.args.id ∙ sym c.in-Some.ensures.value in
    let rows = number_changed is.rows.entries (c.get_mut.follows.lender c.write.new.job).entries c.args.id now now (λ _. c.write.new.job) c.in-Some.ensures.value (λ at. ((c.get_mut.follows.holds c.write.new.job).3 at).0) there in
    let before = c.claimant-before.ensures ∙ ap (λ t. claimant_at (map.get t.rows c.args.id)) (sym c.self.view_is) in
    let state = ap (λ j. j.state) (sym c.write.ensures) in
    moved (map.from_entries is.rows.entries) _ (counts_of is.claims.entries) _ _ is.newest _ c.args.id c.claimant-before.result c.claimant-after.result now c.write.new.job c.self.invariant before (c.claimant-after.ensures ∙ ap claimant_of state) (c.newer-newest.ensures ∙ ap (newer is.newest) state)
    there (ap (λ j. j.row.limited) c.write.ensures ∙ counted_limit now.row c.args.counters) rows c.lower.ensures.rows c.raise.ensures.rows

pub returns-clause-there : goal.returns-clause-there
returns-clause-there c = λ j there.
    let es = c.self.inside.rows.entries in
    let now = c.in-Some.job.now in
    let seen = ap (λ t. map.get t.rows c.args.id) c.self.view_is ∙ there in
    let same : now ≡ j = same_Some now j (c.in-Some.ensures.value ∙ sym (number_found es c.args.id) ∙ seen) in
    number_changed es (c.get_mut.follows.lender c.write.new.job).entries c.args.id now j (λ _. c.write.new.job) c.in-Some.ensures.value (λ at. ((c.get_mut.follows.holds c.write.new.job).3 at).0) seen
    ∙ ap (map.insert (map.from_entries es) c.args.id) (c.write.ensures ∙ ap (λ x. job (counted x.row c.args.counters) c.args.state) same)
    ∙ ap (λ t. map.insert t.rows c.args.id (job (counted j.row c.args.counters) c.args.state)) c.self.view_is
