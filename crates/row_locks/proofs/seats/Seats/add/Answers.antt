use Rattle.std.proofs.Common.{ap, subst, sym, ◌++◌, ◌∙◌}
use Rattle.std.specs.Prelude.{IsPermutation}
use Rattle.std.specs.BTreeMap.{insert_entry, is_at}
use Rattle.std.specs.Map.{set_value}
use Rattle.std.specs.Ordering.{nat_cmp}
use Rattle.std.proofs.lemmas.Result.{on_err_weaker, on_ok_weaker}
use Rattle.row_locks.specs.Locks.{locks_of}
use Rattle.row_locks.specs.Seats.{BySeat, locks_in}
use Rattle.row_locks.proofs.SeatLocks.{added, found_in_order, inserted_in_order, merged, seen, set_in_order, unchanged}
use Rattle.row_locks.proofs.seats.Seats.add.Goals as goal

pub merge-requires : goal.merge-requires
merge-requires c = found_in_order (λ v. v.items) c.args.seat c.in-Some.held.now c.self.inside.rows.entries (sym c.in-Some.ensures.value) c.self.invariant.rows_up

pub invariant_of-self : goal.invariant_of-self
invariant_of-self c =
    let holds = c.get_mut.follows.holds c.merge.new.held in
    set_in_order (λ v. v.items) c.args.seat c.merge.new.held c.self.inside.rows.entries (c.get_mut.follows.lender c.merge.new.held).entries holds.0 holds.4 c.merge.ensures.in_order c.self.invariant.rows_up

pub returns-in-Some-clause-in_order : goal.returns-in-Some-clause-in_order
returns-in-Some-clause-in_order c =
    let holds = c.get_mut.follows.holds c.merge.new.held in
    set_in_order (λ v. v.items) c.args.seat c.merge.new.held c.self.inside.rows.entries (c.get_mut.follows.lender c.merge.new.held).entries holds.0 holds.4 c.merge.ensures.in_order c.self.invariant.rows_up

pub returns-in-Some-clause-taken : goal.returns-in-Some-clause-taken
returns-in-Some-clause-taken c =
    let es = c.self.inside.rows.entries in
    let mine = locks_of c.args.seat c.args.rows.items in
    on_ok_weaker c.merge.result (λ moved.
    subst (λ es. IsPermutation (locks_in c.args.self.now ++ mine) (locks_in (seen (λ v. v.items) es))) (sym (c.get_mut.follows.holds c.merge.new.held).0)
    (subst (λ (seats : BySeat). IsPermutation (locks_in seats ++ mine) (locks_in (seen (λ v. v.items) (set_value (is_at (nat_cmp c.args.seat)) es c.merge.new.held)))) c.self.view_is
    (merged (λ v. v.items) c.args.seat c.in-Some.held.now c.merge.new.held c.args.rows.items es (sym c.in-Some.ensures.value) moved))) c.merge.ensures.merged

pub returns-in-Some-clause-kept : goal.returns-in-Some-clause-kept
returns-in-Some-clause-kept c =
    on_err_weaker c.merge.result (λ same.
    ap (seen (λ v. v.items)) (c.get_mut.follows.holds c.merge.new.held).0
    ∙ unchanged (λ v. v.items) c.args.seat c.in-Some.held.now c.merge.new.held c.self.inside.rows.entries (sym c.in-Some.ensures.value) same
    ∙ c.self.view_is) c.merge.ensures.kept

pub invariant_of-self-2 : goal.invariant_of-self-2
invariant_of-self-2 c =
    let is = c.in_ok-insert.ensures.entries ∙ ap (λ m. insert_entry nat_cmp m.entries c.args.seat c.args.rows) c.get_mut.follows.holds-at-none in
    inserted_in_order (λ v. v.items) c.args.seat c.args.rows c.self.inside.rows.entries c.insert.new.self.entries is c.in_ok-insert.ensures.ordered c.requires c.self.invariant.rows_up

pub returns-clause-in_order : goal.returns-clause-in_order
returns-clause-in_order c =
    let is = c.in_ok-insert.ensures.entries ∙ ap (λ m. insert_entry nat_cmp m.entries c.args.seat c.args.rows) c.get_mut.follows.holds-at-none in
    inserted_in_order (λ v. v.items) c.args.seat c.args.rows c.self.inside.rows.entries c.insert.new.self.entries is c.in_ok-insert.ensures.ordered c.requires c.self.invariant.rows_up

pub returns-clause-taken : goal.returns-clause-taken
returns-clause-taken c =
    let is = c.in_ok-insert.ensures.entries ∙ ap (λ m. insert_entry nat_cmp m.entries c.args.seat c.args.rows) c.get_mut.follows.holds-at-none in
    rw (← c.self.view_is) (rw is (added (λ v. v.items) c.args.seat c.args.rows c.self.inside.rows.entries (sym c.in_default.ensures.value)))
