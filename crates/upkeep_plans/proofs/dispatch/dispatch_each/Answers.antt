use Rattle.std.proofs.Common.{◌≡◌, ◌≤◌, List, None, Some, rules, ap, sym, ◌∙◌, refl, subst}
use Rattle.std.specs.Option.{ForSome, option_copied}
use Rattle.job_states.specs.declared.transition.Transition.TheVariants.{Dispatch}
use Rattle.queue_model.specs.declared.Job.{Job}
use Rattle.plan_drafts.specs.Drafting.{Drafting}
use Rattle.queue_model.specs.Named.{put_named}
use Rattle.plan_model.specs.GoodDraft.{IsFresh}
use Rattle.plan_model.specs.Drafts.{meets, push}
use Rattle.plan_model.specs.Drafts.{Draft}
use Rattle.plan_model.specs.Scenes.{Scene}
use Rattle.plan_model.specs.UpkeepCommands.{dispatch_case}
use Rattle.upkeep_plans.specs.Standing.{StandJobs, is_due_at, itself}
use Rattle.upkeep_plans.proofs.StandingJobs.{jobs_move, jobs_pass, may_dispatch}
use Rattle.upkeep_plans.proofs.TakenCases.{ends, first_rest, no_first, stand, stays_full, takes_next}
use Rattle.upkeep_plans.proofs.dispatch.dispatch_each.Goals as goal

abbrev Stands : Scene → List Job → Draft → Type 0
Stands s = StandJobs itself (is_due_at s.moment) s

pub returns-then-is_full : goal.returns-then-is_full
returns-then-is_full c = stays_full dispatch_case Stands c.args.cases.now c.args.jobs c.loop-job.cases c.loop-job.jobs c.loop-job.invariant (sym c.if-is_full.true ∙ c.is_full.ensures)

pub take-requires : goal.take-requires
take-requires c =
    let t = c.loop-job.cases in
    let m = t.scene.moment in
    let x = c.in-Some.job.now in
    let ys = c.next_job.new.self in
    let h = c.loop-job.invariant in
    let are = first_rest x c.loop-job.jobs ys (sym (ap option_copied c.in-Some.is) ∙ c.next_job.ensures.first) c.next_job.ensures.left in
    let st = stand dispatch_case Stands c.args.cases.now c.args.jobs t c.loop-job.jobs h x ys are in
    let met : c.meets-put.result ≡ meets t.drafting.draft m x.row.limited = c.meets-put.ensures.met ∙ (λ i. meets (c.draft-draft.ensures i).draft (c.draft-draft.ensures i).moment (c.as_ref.ensures.value i)) ∙ ap (λ n. meets t.drafting.draft n x.row.limited) h.taking.moment in
    let fresh = subst (λ (d : Drafting). IsFresh d.draft.world d.draft.given) c.draft-draft.ensures c.is_fresh.ensures in
    let given = subst (λ (d : Drafting). ForSome (put_named c.meets-put.result) (λ generation. generation ≤ d.draft.given.generation)) c.draft-draft.ensures c.meets-put.ensures.given in
    may_dispatch t h.taking x ys st fresh c.meets-put.result met given

pub loop-job-preserved : goal.loop-job-preserved
loop-job-preserved c =
    let t = c.loop-job.cases in
    let m = t.scene.moment in
    let x = c.in-Some.job.now in
    let ys = c.next_job.new.self in
    let h = c.loop-job.invariant in
    let are = first_rest x c.loop-job.jobs ys (sym (ap option_copied c.in-Some.is) ∙ c.next_job.ensures.first) c.next_job.ensures.left in
    let met : c.meets-put.result ≡ meets t.drafting.draft m x.row.limited = c.meets-put.ensures.met ∙ (λ i. meets (c.draft-draft.ensures i).draft (c.draft-draft.ensures i).moment (c.as_ref.ensures.value i)) ∙ ap (λ n. meets t.drafting.draft n x.row.limited) h.taking.moment in
    takes_next dispatch_case Stands c.args.cases.now c.args.jobs t c.loop-job.jobs h x ys are c.take.new.self (Dispatch c.in-Some.job.now.row.id c.meets-put.result) c.in_ok-take.ensures (ap (λ put. Some (push m (Dispatch x.row.id put) t.drafting.draft)) (sym met))
    (λ d. jobs_pass itself (is_due_at m) t.scene x ys d) (λ d. jobs_move itself (is_due_at m) t.scene x ys d (Dispatch c.in-Some.job.now.row.id c.meets-put.result) refl)

pub returns : goal.returns
returns c =
    let none : c.next_job.result ≡ None = search rules in
    ends dispatch_case Stands c.args.cases.now c.args.jobs c.loop-job.cases c.loop-job.jobs c.loop-job.invariant (no_first c.loop-job.jobs (sym (ap option_copied none) ∙ c.next_job.ensures.first))
