use Rattle.std.proofs.Common.{◌≡◌, ℕ, List, ◌∷◌, None, Some, rules, ap, sym, ◌∙◌, refl, subst}
use Rattle.std.specs.Cmp.{nat_cmp_total}
use Rattle.std.specs.Option.{option_map}
use Rattle.std.specs.Prelude.{Contains}
use Rattle.queue_model.specs.declared.Process.{Process}
use Rattle.row_locks.proofs.Membership.{Contains-head, Contains-tail, Contains-from_filter}
use Rattle.plan_model.specs.Orders.{first_of}
use Rattle.plan_model.specs.Scenes.{are_free}
use Rattle.plan_model.specs.UpkeepCommands.{is_silent}
use Rattle.plan_model.proofs.MapLemmas.{entry_found}
use Rattle.upkeep_plans.proofs.Pruning.{first_pruned, none_pruned, passed, pruned}
use Rattle.upkeep_plans.proofs.TakenCases.{first_rest, no_first}
use Rattle.upkeep_plans.proofs.prune.prune_first.Goals as goal

pub loop-pid-init : goal.loop-pid-init
loop-pid-init c =
    let s = c.args.scene.now in
    let entries : List (ℕ × Process) = s.book.world.processes.entries in
    record {
      same = refl;
      there = λ e h. entry_found nat_cmp_total entries e s.book.world.processes.sorted (Contains-from_filter (λ (x : ℕ × Process). is_silent s x.1) entries e (subst (λ xs. Contains xs e) c.new-silent.ensures h));
    }

pub prune_process-requires : goal.prune_process-requires
prune_process-requires c =
    let s = c.args.scene.now in
    let pid = c.in-Some.pid in
    let p : Process = c.in-Some.process.now in
    let rest = c.next_process.new.self in
    let h = c.loop-pid.invariant in
    let begins = c.new-silent.ensures in
    let first : Some (pid, p) ≡ first_of c.loop-pid.silent = sym (ap (option_map (λ q. (q.0, q.1.now))) c.in-Some.is) ∙ c.next_process.ensures.first in
    let are : c.loop-pid.silent ≡ (pid, p) ∷ rest = first_rest (pid, p) c.loop-pid.silent rest first c.next_process.ensures.left in
    let same = h.same ∙ ap (first_pruned s) begins in
    h.there (pid, p) (subst (λ xs. Contains xs (pid, p)) (sym are) (Contains-head (pid, p) rest))

pub returns-then-are_free : goal.returns-then-are_free
returns-then-are_free c =
    let s = c.args.scene.now in
    let pid = c.in-Some.pid in
    let p : Process = c.in-Some.process.now in
    let rest = c.next_process.new.self in
    let h = c.loop-pid.invariant in
    let begins = c.new-silent.ensures in
    let first : Some (pid, p) ≡ first_of c.loop-pid.silent = sym (ap (option_map (λ q. (q.0, q.1.now))) c.in-Some.is) ∙ c.next_process.ensures.first in
    let are : c.loop-pid.silent ≡ (pid, p) ∷ rest = first_rest (pid, p) c.loop-pid.silent rest first c.next_process.ensures.left in
    let same = h.same ∙ ap (first_pruned s) begins in
    let free : c.are_free.result ≡ are_free s.book c.in_ok-draft.draft.draft.rows = c.are_free.ensures ∙ ap (are_free s.book) c.rows.ensures in
    pruned s c.loop-pid.silent same pid p rest are c.in_ok-draft.draft c.in_ok-draft.failed c.in_ok-draft.ensures.draft (sym c.if-are_free.true ∙ free) c.in_ok-draft.ensures.failed

pub loop-pid-preserved : goal.loop-pid-preserved
loop-pid-preserved c =
    let s = c.args.scene.now in
    let pid = c.in-Some.pid in
    let p : Process = c.in-Some.process.now in
    let rest = c.next_process.new.self in
    let h = c.loop-pid.invariant in
    let begins = c.new-silent.ensures in
    let first : Some (pid, p) ≡ first_of c.loop-pid.silent = sym (ap (option_map (λ q. (q.0, q.1.now))) c.in-Some.is) ∙ c.next_process.ensures.first in
    let are : c.loop-pid.silent ≡ (pid, p) ∷ rest = first_rest (pid, p) c.loop-pid.silent rest first c.next_process.ensures.left in
    let same = h.same ∙ ap (first_pruned s) begins in
    let free : c.are_free.result ≡ are_free s.book c.in_ok-draft.draft.draft.rows = c.are_free.ensures ∙ ap (are_free s.book) c.rows.ensures in
    record {
      same = passed s c.loop-pid.silent same pid p rest are c.in_ok-draft.draft c.in_ok-draft.failed c.in_ok-draft.ensures.draft (sym c.if-are_free.false ∙ free) ∙ ap (first_pruned s) (sym begins);
      there = λ e later. h.there e (subst (λ xs. Contains xs e) (sym are) (Contains-tail (pid, p) rest e later));
    }

pub returns : goal.returns
returns c =
    let s = c.args.scene.now in
    let h = c.loop-pid.invariant in
    let same = h.same ∙ ap (first_pruned s) c.new-silent.ensures in
    let none : c.next_process.result ≡ None = search rules in
    none_pruned s c.loop-pid.silent same c.begin.result c.begin.ensures (no_first c.loop-pid.silent (sym (ap (option_map (λ q. (q.0, q.1.now))) none) ∙ c.next_process.ensures.first))
