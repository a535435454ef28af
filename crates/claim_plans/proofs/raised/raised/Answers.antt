use Rattle.std.proofs.Common.{rules, sym, subst}
use Rattle.job_states.specs.declared.command.Command.TheVariants as command
use Rattle.plan_model.specs.Drafts.{begin}
use Rattle.plan_model.specs.JobCommands.{does, raise}
use Rattle.plan_model.specs.Planned.{Drafted}
use Rattle.plan_model.proofs.Raising.{with_job_found}
use Rattle.plan_scenes.specs.Begun.{ComesTo}
use Rattle.claim_plans.proofs.raised.raised.Goals as goal

pub finish-requires : goal.finish-requires
finish-requires c =
    let s = c.args.scene.now in
    let j = c.in_ok-job.job.now in
    let asked = command.Raised c.args.pid c.args.id c.args.error c.args.message in
    let made : ComesTo s (raise s c.args.error c.args.message j (begin s)) c.in_ok-draft.draft c.in_ok-draft.answer = search rules in
    let comes : ComesTo s (does s asked) c.in_ok-draft.draft c.in_ok-draft.answer = subst (λ (d : Drafted). ComesTo s d c.in_ok-draft.draft c.in_ok-draft.answer) (sym (with_job_found s c.args.id (λ x. raise s c.args.error c.args.message x (begin s)) j c.in_ok-job.ensures.claim.found)) made in
    record { told = c.plans_are_told.ensures.jobs s asked c.in_ok-draft.draft c.in_ok-draft.answer c.is_good.ensures c.requires c.in_ok-job.ensures.accepted comes }
