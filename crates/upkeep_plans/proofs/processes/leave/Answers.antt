use Rattle.std.proofs.Common.{◌≡◌, ◌+◌, ℕ, length, arith, ap, sym, ◌∙◌, subst}
use Rattle.std.specs.Option.{option_copied}
use Rattle.job_states.specs.declared.transition.Transition.TheVariants.{Release}
use Rattle.plan_drafts.specs.Drafting.{Drafting, with_draft}
use Rattle.plan_model.specs.Drafts.{push}
use Rattle.plan_model.specs.UpkeepCommands.{release_all}
use Rattle.upkeep_plans.specs.Standing.{HasClaims}
use Rattle.upkeep_plans.proofs.StandingJobs.{may_release, released}
use Rattle.upkeep_plans.proofs.TakenCases.{first_rest}
use Rattle.upkeep_plans.proofs.processes.leave.Goals as goal

one_more : (n k m : ℕ) → n + (k + 1) ≡ m → n + 1 + k ≡ m
one_more n k m e = omega (arith, e)

pub push-requires-clause-allowed : goal.push-requires-clause-allowed
push-requires-clause-allowed c =
    let j = c.in-Some.job.now in
    let js = c.next_job.new.self in
    let are = first_rest j c.loop-job.claims js (sym (ap option_copied c.in-Some.is) ∙ c.next_job.ensures.first) c.next_job.ensures.left in
    may_release c.args.pid j js c.loop-job.draft (subst (λ xs. HasClaims c.args.pid xs c.loop-job.draft) are c.loop-job.invariant.claims)

pub loop-job-preserved : goal.loop-job-preserved
loop-job-preserved c =
    let j = c.in-Some.job.now in
    let js = c.next_job.new.self in
    let d : Drafting = c.loop-job.draft in
    let h = c.loop-job.invariant in
    let are = first_rest j c.loop-job.claims js (sym (ap option_copied c.in-Some.is) ∙ c.next_job.ensures.first) c.next_job.ensures.left in
    let claims = subst (λ xs. HasClaims c.args.pid xs d) are h.claims in
    let e : c.push.new.self ≡ with_draft d (push d.moment (Release j.row.id) d.draft) = c.in_ok-push.ensures in
    let next : Drafting = with_draft d (push d.moment (Release j.row.id) d.draft) in
    record {
      frame = e ∙ (λ i. with_draft (h.frame i) next.draft) ∙ ap (λ (x : Drafting). with_draft c.args.draft.now x.draft) (sym e);
      same = ap (λ (x : Drafting). release_all x.moment js x.draft) e ∙ ap (λ xs. release_all d.moment xs d.draft) (sym are) ∙ h.same;
      claims = subst (HasClaims c.args.pid js) (sym e) (released c.args.pid j js d claims);
      count = omega (arith, h.count, ap length are);
      few = h.few;
    }
