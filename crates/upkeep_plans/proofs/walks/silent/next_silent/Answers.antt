use Rattle.std.proofs.Common.{◌≡◌, true, false, rules, None, Some, ◌∙◌, ap, sym, subst}
use Rattle.std.specs.Prelude.{drop}
use Rattle.std.specs.Ordering.{nat_cmp}
use Rattle.queue_model.specs.Map as map
use Rattle.queue_model.specs.World.{World}
use Rattle.exec_tables.specs.Next.{IsNext, Listed, by_key}
use Rattle.plan_model.specs.Orders.{first_of}
use Rattle.plan_model.specs.UpkeepCommands.{is_silent}
use Rattle.upkeep_plans.specs.Left.{silent_left}
use Rattle.upkeep_plans.proofs.KeyWalks.{silent_end, silent_taken, silent_skipped, processes_fall, goes, stops}
use Rattle.upkeep_plans.proofs.walks.silent.next_silent.Goals as goal

pub returns-then-is_silent-clause-first : goal.returns-then-is_silent-clause-first
returns-then-is_silent-clause-first c =
    let s = c.args.scene.now in
    let same : c.tables-tables.result.now.world ≡ s.book.world = search rules in
    let next = subst (λ (w : World). IsNext nat_cmp (Listed by_key w.processes) (Some c.loop-pid.past) c.process_after.result) same c.process_after.ensures in
    let at : map.get s.book.world.processes c.in-Some.pid ≡ Some c.in_ok-process.process.now = search rules in
    let over : is_silent s c.in_ok-process.process.now ≡ true = search rules in
    (goes (c.in-Some.pid, c.in_ok-process.process.now) (silent_left s c.loop-pid.past) (silent_left s c.in-Some.pid) (silent_taken s c.loop-pid.past c.process_after.result next c.in-Some.pid c.in_ok-process.process.now c.in-Some.is at over)).0 ∙ ap first_of c.loop-pid.invariant

pub returns-then-is_silent-clause-left : goal.returns-then-is_silent-clause-left
returns-then-is_silent-clause-left c =
    let s = c.args.scene.now in
    let same : c.tables-tables.result.now.world ≡ s.book.world = search rules in
    let next = subst (λ (w : World). IsNext nat_cmp (Listed by_key w.processes) (Some c.loop-pid.past) c.process_after.result) same c.process_after.ensures in
    let at : map.get s.book.world.processes c.in-Some.pid ≡ Some c.in_ok-process.process.now = search rules in
    let over : is_silent s c.in_ok-process.process.now ≡ true = search rules in
    (goes (c.in-Some.pid, c.in_ok-process.process.now) (silent_left s c.loop-pid.past) (silent_left s c.in-Some.pid) (silent_taken s c.loop-pid.past c.process_after.result next c.in-Some.pid c.in_ok-process.process.now c.in-Some.is at over)).1 ∙ ap (drop 1) c.loop-pid.invariant

pub loop-pid-smaller : goal.loop-pid-smaller
loop-pid-smaller c =
    let s = c.args.scene.now in
    let same : c.tables-tables.result.now.world ≡ s.book.world = search rules in
    let next = subst (λ (w : World). IsNext nat_cmp (Listed by_key w.processes) (Some c.loop-pid.past) c.process_after.result) same c.process_after.ensures in
    let at : map.get s.book.world.processes c.in-Some.pid ≡ Some c.in_ok-process.process.now = search rules in
    processes_fall s c.loop-pid.past c.process_after.result next c.in-Some.pid c.in_ok-process.process.now c.in-Some.is at

pub loop-pid-preserved : goal.loop-pid-preserved
loop-pid-preserved c =
    let s = c.args.scene.now in
    let same : c.tables-tables.result.now.world ≡ s.book.world = search rules in
    let next = subst (λ (w : World). IsNext nat_cmp (Listed by_key w.processes) (Some c.loop-pid.past) c.process_after.result) same c.process_after.ensures in
    let at : map.get s.book.world.processes c.in-Some.pid ≡ Some c.in_ok-process.process.now = search rules in
    let over : is_silent s c.in_ok-process.process.now ≡ false = search rules in
    sym (silent_skipped s c.loop-pid.past c.process_after.result next c.in-Some.pid c.in_ok-process.process.now c.in-Some.is at over) ∙ c.loop-pid.invariant

pub returns-clause-first : goal.returns-clause-first
returns-clause-first c =
    let s = c.args.scene.now in
    let same : c.tables-tables.result.now.world ≡ s.book.world = search rules in
    let next = subst (λ (w : World). IsNext nat_cmp (Listed by_key w.processes) (Some c.loop-pid.past) c.process_after.result) same c.process_after.ensures in
    let none : c.process_after.result ≡ None = search rules in
    (stops (silent_left s c.loop-pid.past) (silent_end s c.loop-pid.past c.process_after.result next none)).0 ∙ ap first_of c.loop-pid.invariant

pub returns-clause-left : goal.returns-clause-left
returns-clause-left c =
    let s = c.args.scene.now in
    let same : c.tables-tables.result.now.world ≡ s.book.world = search rules in
    let next = subst (λ (w : World). IsNext nat_cmp (Listed by_key w.processes) (Some c.loop-pid.past) c.process_after.result) same c.process_after.ensures in
    let none : c.process_after.result ≡ None = search rules in
    (stops (silent_left s c.loop-pid.past) (silent_end s c.loop-pid.past c.process_after.result next none)).1 ∙ ap (drop 1) c.loop-pid.invariant
