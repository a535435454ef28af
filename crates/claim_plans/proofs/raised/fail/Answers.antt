use Rattle.std.proofs.Common.{◌≡◌, true, ◌&&◌, Some, sym, subst}
use Rattle.std.proofs.lemmas.Bool.{and_from}
use Rattle.job_states.specs.Length.{is_name}
use Rattle.job_states.specs.Ranges.{are_counters, is_message}
use Rattle.claim_plans.proofs.Errors.{counters_fit, fail_comes}
use Rattle.claim_plans.proofs.raised.fail.Goals as goal

pub end-requires-clause-end : goal.end-requires-clause-end
end-requires-clause-end c =
    let kept = c.in_ok-message_of.field-0 in
    let counters = subst (λ after. are_counters (Some after) ≡ true) (sym c.requires.after) (counters_fit c.args.scene.now c.is_good.ensures c.args.job.now.row.id c.args.job.now c.requires.claim.found c.args.error) in
    and_from (is_name c.args.error && is_message kept) (are_counters (Some c.args.after)) (and_from (is_name c.args.error) (is_message kept) c.requires.error c.in_ok-message_of.ensures.short) counters

pub returns : goal.returns
returns c = fail_comes c.args.scene.now c.args.error c.args.message c.args.job.now c.begin-draft.result c.end.new.self c.begin-draft.ensures
    c.in_ok-message_of.field-0 c.args.after c.in_ok-unblocked.unblocked c.answer.result c.in_ok-message_of.ensures.same c.requires.after c.in_ok-unblocked.ensures.ended c.answer.ensures
