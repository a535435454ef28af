use Rattle.std.proofs.Common.{◌≡◌, length, arith, ap, sym, ◌∙◌, refl, subst}
use Rattle.std.specs.Option.{option_copied}
use Rattle.job_states.specs.declared.transition.Transition.{Transition}
use Rattle.job_states.specs.Moment.{IsMoment}
use Rattle.plan_drafts.specs.Drafting.{Drafting, with_draft}
use Rattle.plan_model.specs.Drafts.{end}
use Rattle.plan_model.specs.GoodDraft.{IsAllowed}
use Rattle.plan_model.specs.UpkeepCommands.{fail_all}
use Rattle.upkeep_plans.specs.Standing.{HasClaims}
use Rattle.upkeep_plans.proofs.StandingJobs.{failed, failing, failing_ends, here, may_fail}
use Rattle.upkeep_plans.proofs.TakenCases.{first_rest}
use Rattle.row_locks.proofs.Membership.{Contains-head}
use Rattle.upkeep_plans.proofs.prune.fail_each.Goals as goal

pub end-requires-clause-allowed : goal.end-requires-clause-allowed
end-requires-clause-allowed c =
    let j = c.in-Some.job.now in
    let js = c.next_job.new.self in
    let d : Drafting = c.loop-job.draft in
    let h = c.loop-job.invariant in
    let pid = c.args.pid in
    let message = c.args.message.now in
    let are = first_rest j c.loop-job.claims js (sym (ap option_copied c.in-Some.is) ∙ c.next_job.ensures.first) c.next_job.ensures.left in
    let claims = subst (λ xs. HasClaims pid xs d) are h.claims in
    let step : c.in_ok-step.step ≡ failing pid j js d claims message = c.in_ok-step.ensures in
    subst (λ t. IsAllowed d.moment d.draft t) (sym step) (may_fail pid j js d claims message)

pub end-requires-clause-known : goal.end-requires-clause-known
end-requires-clause-known c =
    let j = c.in-Some.job.now in
    let js = c.next_job.new.self in
    let d : Drafting = c.loop-job.draft in
    let h = c.loop-job.invariant in
    let pid = c.args.pid in
    let message = c.args.message.now in
    let are = first_rest j c.loop-job.claims js (sym (ap option_copied c.in-Some.is) ∙ c.next_job.ensures.first) c.next_job.ensures.left in
    let claims = subst (λ xs. HasClaims pid xs d) are h.claims in
    claims.was j (Contains-head j js)

pub loop-job-preserved : goal.loop-job-preserved
loop-job-preserved c =
    let j = c.in-Some.job.now in
    let js = c.next_job.new.self in
    let d : Drafting = c.loop-job.draft in
    let h = c.loop-job.invariant in
    let pid = c.args.pid in
    let message = c.args.message.now in
    let are = first_rest j c.loop-job.claims js (sym (ap option_copied c.in-Some.is) ∙ c.next_job.ensures.first) c.next_job.ensures.left in
    let claims = subst (λ xs. HasClaims pid xs d) are h.claims in
    let step : c.in_ok-step.step ≡ failing pid j js d claims message = c.in_ok-step.ensures in
    let t : Transition = failing pid j js d claims message in
    let m = d.moment in
    let after : Drafting = with_draft d (end m j.row.id t d.draft).0 in
    let e : c.end.new.self ≡ after = c.in_ok-end.ensures.ended.draft ∙ ap (λ (x : Transition). with_draft d (end m j.row.id x d.draft).0) step in
    let ends = failing_ends pid j js d claims message c.requires.message in
    let allows = may_fail pid j js d claims message in
    let found = here pid j js d claims in
    let moment = subst (λ (x : Drafting). IsMoment x.moment) (sym h.frame) c.requires.moment in
    let law = c.ends_let_go.ensures in
    let next = failed pid j js d claims after refl
    (λ x other there rests. law.others m t d.draft j.row.id h.good moment ends refl allows x.row.id other x there rests)
    (law.processes m j.row.id t d.draft ends pid)
    (law.claims m t j.row.id pid d.draft j allows refl refl found (claims.claimed j (Contains-head j js))) in
    record {
      frame = e ∙ (λ i. with_draft (h.frame i) after.draft) ∙ ap (λ (x : Drafting). with_draft c.args.draft.now x.draft) (sym e);
      same = ap (λ (x : Drafting). fail_all x.moment message js x.draft) e ∙ ap (λ xs. fail_all m message xs d.draft) (sym are) ∙ h.same;
      claims = subst (HasClaims pid js) (sym e) next;
      count = omega (arith, h.count, ap length are);
      few = h.few;
      good = c.in_ok-end.ensures.good;
      ends = c.in_ok-end.ensures.ends;
    }
