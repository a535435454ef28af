use Rattle.std.proofs.Common.{◌≡◌, List, None, rules, ap, sym, ◌∙◌, refl}
use Rattle.std.specs.Option.{option_copied}
use Rattle.job_states.specs.declared.transition.Transition.TheVariants.{Clear}
use Rattle.queue_model.specs.declared.Job.{Job}
use Rattle.plan_model.specs.Drafts.{Draft}
use Rattle.plan_model.specs.Scenes.{Scene}
use Rattle.plan_model.specs.UpkeepCommands.{clear_case, is_over}
use Rattle.upkeep_plans.specs.Standing.{StandJobs, itself}
use Rattle.upkeep_plans.proofs.StandingJobs.{jobs_move, jobs_pass, may_clear}
use Rattle.upkeep_plans.proofs.TakenCases.{ends, first_rest, no_first, stand, stays_full, takes_next}
use Rattle.upkeep_plans.proofs.clear.clear_each.Goals as goal

abbrev Stands : Scene → List Job → Draft → Type 0
Stands s = StandJobs itself (is_over s) s

pub returns-then-is_full : goal.returns-then-is_full
returns-then-is_full c = stays_full clear_case Stands c.args.cases.now c.args.jobs c.loop-job.cases c.loop-job.jobs c.loop-job.invariant (sym c.if-is_full.true ∙ c.is_full.ensures)

pub take-requires : goal.take-requires
take-requires c =
    let t = c.loop-job.cases in
    let m = t.scene.moment in
    let x = c.in-Some.job.now in
    let ys = c.next_job.new.self in
    let h = c.loop-job.invariant in
    let are = first_rest x c.loop-job.jobs ys (sym (ap option_copied c.in-Some.is) ∙ c.next_job.ensures.first) c.next_job.ensures.left in
    let st = stand clear_case Stands c.args.cases.now c.args.jobs t c.loop-job.jobs h x ys are in
    may_clear t h.taking x ys st

pub loop-job-preserved : goal.loop-job-preserved
loop-job-preserved c =
    let t = c.loop-job.cases in
    let m = t.scene.moment in
    let x = c.in-Some.job.now in
    let ys = c.next_job.new.self in
    let h = c.loop-job.invariant in
    let are = first_rest x c.loop-job.jobs ys (sym (ap option_copied c.in-Some.is) ∙ c.next_job.ensures.first) c.next_job.ensures.left in
    takes_next clear_case Stands c.args.cases.now c.args.jobs t c.loop-job.jobs h x ys are c.take.new.self (Clear c.in-Some.job.now.row.id) c.in_ok-take.ensures refl
    (λ d. jobs_pass itself (is_over t.scene) t.scene x ys d) (λ d. jobs_move itself (is_over t.scene) t.scene x ys d (Clear c.in-Some.job.now.row.id) refl)

pub returns : goal.returns
returns c =
    let none : c.next_job.result ≡ None = search rules in
    ends clear_case Stands c.args.cases.now c.args.jobs c.loop-job.cases c.loop-job.jobs c.loop-job.invariant (no_first c.loop-job.jobs (sym (ap option_copied none) ∙ c.next_job.ensures.first))
