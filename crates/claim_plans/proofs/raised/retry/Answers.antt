use Rattle.std.proofs.Common.{sym, subst}
use Rattle.job_states.specs.declared.job.JobRow.{JobRow}
use Rattle.transition_table.specs.Seen.{IsFit}
use Rattle.claim_plans.proofs.Errors.{limit_fits}
use Rattle.claim_plans.proofs.raised.retry.Goals as goal

pub enqueue-requires : goal.enqueue-requires
enqueue-requires c = record {
  fit = subst (λ (row : JobRow). IsFit row.limited) (sym c.in_ok-row.ensures) (limit_fits c.args.scene.now c.is_good.ensures c.args.job.now.row.id c.args.job.now c.requires.claim.found);
}
