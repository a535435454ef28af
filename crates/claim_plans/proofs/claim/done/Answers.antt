use Rattle.std.proofs.Common.{rules}
use Rattle.job_states.specs.declared.answer.Answer.TheVariants as answer
use Rattle.job_states.specs.declared.command.Command.TheVariants as command
use Rattle.job_states.specs.declared.transition.Transition.TheVariants.{Done}
use Rattle.plan_drafts.specs.Drafting.{GivesDraft}
use Rattle.plan_model.specs.Drafts.{begin, end}
use Rattle.claim_plans.proofs.Coming.{done_comes}
use Rattle.claim_plans.proofs.claim.done.Goals as goal

pub finish-requires : goal.finish-requires
finish-requires c =
    let s = c.args.scene.now in
    let job = c.in_ok-job.job.now.row.id in
    let gives : GivesDraft c.begin-draft.result c.end_done.new.draft (end s.moment job (Done job) (begin s)) c.in_ok-unblocked.unblocked = search rules in
    record {
      told = c.plans_are_told.ensures.jobs s (command.Done c.args.pid c.args.id) c.end_done.new.draft (answer.Done c.args.id c.in_ok-unblocked.unblocked) c.is_good.ensures tt c.in_ok-job.ensures.accepted
          (done_comes s c.args.pid c.args.id c.begin-draft.result c.end_done.new.draft c.begin-draft.ensures job c.in_ok-unblocked.unblocked c.in_ok-job.ensures.claim.number gives);
    }
