use Rattle.std.proofs.Common.{◌≡◌, ◌≤◌, ℕ, ◌++◌, true, false, cond, List, ◌∷◌, None, Some, rules, ap, sym, ◌∙◌, refl, subst}
use Rattle.std.specs.Option.{option_copied}
use Rattle.job_states.specs.declared.transition.Transition.TheVariants.{Unblock}
use Rattle.semaphores.specs.Semaphore.{is_closed}
use Rattle.queue_model.specs.Map.{get}
use Rattle.queue_model.specs.declared.Job.{Job}
use Rattle.plan_drafts.specs.Drafting.{Drafting}
use Rattle.plan_model.specs.Drafts.{generation_at, push}
use Rattle.plan_model.specs.GoodDraft.{IsFresh}
use Rattle.plan_model.specs.Scenes.{Scene}
use Rattle.plan_model.specs.UpkeepCommands.{is_overdue, unblock_case}
use Rattle.upkeep_plans.specs.Left.{late_from, late_left}
use Rattle.upkeep_plans.specs.Standing.{StandLate, is_late}
use Rattle.upkeep_plans.specs.Taking.{Taking, is_full}
use Rattle.upkeep_plans.proofs.LateCases.{late_cons, may_unblock, or_first, shut}
use Rattle.upkeep_plans.proofs.StandingJobs.{jobs_move, jobs_pass}
use Rattle.upkeep_plans.proofs.TakenCases.{first_rest, stand, takes_next}
use Rattle.upkeep_plans.proofs.unblock.unblock_at.Goals as goal

pub returns-then-is_shut : goal.returns-then-is_shut
returns-then-is_shut c =
    let first = c.args.cases.now in
    let s = first.scene in
    let key = c.args.key.now in
    shut first (late_from s key c.args.jobs) c.loop-job.cases s.moment key c.loop-job.jobs (late_left s.book.world s.moment (Some key)) c.loop-job.invariant (sym c.if-is_shut.true ∙ c.is_shut.ensures)

pub take-requires : goal.take-requires
take-requires c =
    let first = c.args.cases.now in
    let s = first.scene in
    let key = c.args.key.now in
    let t : Taking = c.loop-job.cases in
    let m = s.moment in
    let j : Job = c.in-Some.job.now in
    let js : List Job = c.next_job.new.self in
    let h = c.loop-job.invariant in
    let more = late_left s.book.world m (Some key) in
    let jobs = first_rest j c.loop-job.jobs js (sym (ap option_copied c.in-Some.is) ∙ c.next_job.ensures.first) c.next_job.ensures.left in
    let moment : c.moment-moment.result ≡ m = c.moment-moment.ensures ∙ ap (λ (x : Scene). x.moment) c.scene.ensures in
    let asked : c.is_overdue.result ≡ true = search rules in
    let late : is_overdue m j ≡ true = ap (λ n. is_overdue n j) (sym moment) ∙ sym c.is_overdue.ensures ∙ asked in
    let are : late_from s key c.loop-job.jobs ≡ (key, j) ∷ late_from s key js = ap (late_from s key) jobs ∙ ap (λ xs. xs ++ more) (late_cons m key j js late) in
    let shut : c.is_shut.result ≡ false = search rules in
    let opened : is_closed (get t.drafting.draft.world.semaphores key) ≡ false = or_first (is_full t) (is_closed (get t.drafting.draft.world.semaphores key)) (sym c.is_shut.ensures ∙ shut) in
    let at : c.generation_at-generation.result ≡ generation_at t.drafting.draft key = c.generation_at-generation.ensures.at ∙ ap (λ (d : Drafting). generation_at d.draft key) c.draft-draft.ensures in
    let st = stand unblock_case StandLate first (late_from s key c.args.jobs) t (late_from s key c.loop-job.jobs) h (key, j) (late_from s key js) are in
    let fresh = subst (λ (d : Drafting). IsFresh d.draft.world d.draft.given) c.draft-draft.ensures c.is_fresh.ensures in
    let given = subst (λ (d : Drafting). c.generation_at-generation.result ≤ d.draft.given.generation) c.draft-draft.ensures c.generation_at-generation.ensures.given in
    may_unblock t key j (late_from s key js) c.generation_at-generation.result h.taking st fresh opened at given

pub loop-job-preserved : goal.loop-job-preserved
loop-job-preserved c =
    let first = c.args.cases.now in
    let s = first.scene in
    let key = c.args.key.now in
    let t : Taking = c.loop-job.cases in
    let m = s.moment in
    let j : Job = c.in-Some.job.now in
    let js : List Job = c.next_job.new.self in
    let h = c.loop-job.invariant in
    let more = late_left s.book.world m (Some key) in
    let jobs = first_rest j c.loop-job.jobs js (sym (ap option_copied c.in-Some.is) ∙ c.next_job.ensures.first) c.next_job.ensures.left in
    let moment : c.moment-moment.result ≡ m = c.moment-moment.ensures ∙ ap (λ (x : Scene). x.moment) c.scene.ensures in
    let asked : c.is_overdue.result ≡ true = search rules in
    let late : is_overdue m j ≡ true = ap (λ n. is_overdue n j) (sym moment) ∙ sym c.is_overdue.ensures ∙ asked in
    let are : late_from s key c.loop-job.jobs ≡ (key, j) ∷ late_from s key js = ap (late_from s key) jobs ∙ ap (λ xs. xs ++ more) (late_cons m key j js late) in
    let shut : c.is_shut.result ≡ false = search rules in
    let opened : is_closed (get t.drafting.draft.world.semaphores key) ≡ false = or_first (is_full t) (is_closed (get t.drafting.draft.world.semaphores key)) (sym c.is_shut.ensures ∙ shut) in
    let at : c.generation_at-generation.result ≡ generation_at t.drafting.draft key = c.generation_at-generation.ensures.at ∙ ap (λ (d : Drafting). generation_at d.draft key) c.draft-draft.ensures in
    let n = t.scene.moment in
    takes_next unblock_case StandLate first (late_from s key c.args.jobs) t (late_from s key c.loop-job.jobs) h (key, j) (late_from s key js) are c.take.new.self (Unblock j.row.id c.generation_at-generation.result) c.in_ok-take.ensures
    (ap (λ b. cond b None (Some (push n (Unblock j.row.id (generation_at t.drafting.draft key)) t.drafting.draft))) opened ∙ ap (λ g. Some (push n (Unblock j.row.id g) t.drafting.draft)) (sym at))
    (λ d. jobs_pass (λ (x : List ℕ × Job). x.1) (is_late n) t.scene (key, j) (late_from s key js) d) (λ d. jobs_move (λ (x : List ℕ × Job). x.1) (is_late n) t.scene (key, j) (late_from s key js) d (Unblock j.row.id c.generation_at-generation.result) refl)
