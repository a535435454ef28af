use Rattle.std.proofs.Common.{◌≡◌, true, false, rules, None, Some, ◌∙◌, ap, sym, subst}
use Rattle.std.specs.Prelude.{drop}
use Rattle.std.specs.Ordering.{nat_cmp}
use Rattle.queue_model.specs.Map as map
use Rattle.queue_model.specs.World.{World}
use Rattle.exec_tables.specs.Next.{IsNext, Listed, by_key}
use Rattle.plan_model.specs.Orders.{first_of}
use Rattle.plan_model.specs.UpkeepCommands.{is_over}
use Rattle.upkeep_plans.specs.Left.{over_left}
use Rattle.upkeep_plans.proofs.KeyWalks.{jobs_end, job_taken, job_skipped, jobs_fall, goes, stops}
use Rattle.upkeep_plans.proofs.walks.over.next_over.Goals as goal

pub returns-then-is_over-clause-first : goal.returns-then-is_over-clause-first
returns-then-is_over-clause-first c =
    let s = c.args.scene.now in
    let same : c.tables-tables.result.now.world ≡ s.book.world = search rules in
    let next = subst (λ (w : World). IsNext nat_cmp (Listed by_key w.jobs) (Some c.loop-id.past) c.job_after.result) same c.job_after.ensures in
    let at : map.get s.book.world.jobs c.in-Some.id ≡ Some c.in_ok-job.job.now = search rules in
    let over : is_over s c.in_ok-job.job.now ≡ true = search rules in
    (goes c.in_ok-job.job.now (over_left s c.loop-id.past) (over_left s c.in-Some.id) (job_taken s.book.world (is_over s) c.loop-id.past c.job_after.result next c.in-Some.id c.in_ok-job.job.now c.in-Some.is at over)).0 ∙ ap first_of c.loop-id.invariant

pub returns-then-is_over-clause-left : goal.returns-then-is_over-clause-left
returns-then-is_over-clause-left c =
    let s = c.args.scene.now in
    let same : c.tables-tables.result.now.world ≡ s.book.world = search rules in
    let next = subst (λ (w : World). IsNext nat_cmp (Listed by_key w.jobs) (Some c.loop-id.past) c.job_after.result) same c.job_after.ensures in
    let at : map.get s.book.world.jobs c.in-Some.id ≡ Some c.in_ok-job.job.now = search rules in
    let over : is_over s c.in_ok-job.job.now ≡ true = search rules in
    (goes c.in_ok-job.job.now (over_left s c.loop-id.past) (over_left s c.in-Some.id) (job_taken s.book.world (is_over s) c.loop-id.past c.job_after.result next c.in-Some.id c.in_ok-job.job.now c.in-Some.is at over)).1 ∙ ap (drop 1) c.loop-id.invariant

pub loop-id-smaller : goal.loop-id-smaller
loop-id-smaller c =
    let s = c.args.scene.now in
    let same : c.tables-tables.result.now.world ≡ s.book.world = search rules in
    let next = subst (λ (w : World). IsNext nat_cmp (Listed by_key w.jobs) (Some c.loop-id.past) c.job_after.result) same c.job_after.ensures in
    let at : map.get s.book.world.jobs c.in-Some.id ≡ Some c.in_ok-job.job.now = search rules in
    jobs_fall s.book.world (is_over s) c.loop-id.past c.job_after.result next c.in-Some.id c.in_ok-job.job.now c.in-Some.is at

pub loop-id-preserved : goal.loop-id-preserved
loop-id-preserved c =
    let s = c.args.scene.now in
    let same : c.tables-tables.result.now.world ≡ s.book.world = search rules in
    let next = subst (λ (w : World). IsNext nat_cmp (Listed by_key w.jobs) (Some c.loop-id.past) c.job_after.result) same c.job_after.ensures in
    let at : map.get s.book.world.jobs c.in-Some.id ≡ Some c.in_ok-job.job.now = search rules in
    let over : is_over s c.in_ok-job.job.now ≡ false = search rules in
    sym (job_skipped s.book.world (is_over s) c.loop-id.past c.job_after.result next c.in-Some.id c.in_ok-job.job.now c.in-Some.is at over) ∙ c.loop-id.invariant

pub returns-clause-first : goal.returns-clause-first
returns-clause-first c =
    let s = c.args.scene.now in
    let same : c.tables-tables.result.now.world ≡ s.book.world = search rules in
    let next = subst (λ (w : World). IsNext nat_cmp (Listed by_key w.jobs) (Some c.loop-id.past) c.job_after.result) same c.job_after.ensures in
    let none : c.job_after.result ≡ None = search rules in
    (stops (over_left s c.loop-id.past) (jobs_end s.book.world (is_over s) c.loop-id.past c.job_after.result next none)).0 ∙ ap first_of c.loop-id.invariant

pub returns-clause-left : goal.returns-clause-left
returns-clause-left c =
    let s = c.args.scene.now in
    let same : c.tables-tables.result.now.world ≡ s.book.world = search rules in
    let next = subst (λ (w : World). IsNext nat_cmp (Listed by_key w.jobs) (Some c.loop-id.past) c.job_after.result) same c.job_after.ensures in
    let none : c.job_after.result ≡ None = search rules in
    (stops (over_left s c.loop-id.past) (jobs_end s.book.world (is_over s) c.loop-id.past c.job_after.result next none)).1 ∙ ap (drop 1) c.loop-id.invariant
