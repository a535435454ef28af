use Rattle.std.proofs.Common.{◌≡◌, ◌≤◌, ◌<◌, ℕ, nat_le, true, false, arith, rules, None, Some, ◌∙◌, ap, sym}
use Rattle.std.specs.Option.{option_copied}
use Rattle.std.specs.Prelude.{drop}
use Rattle.semaphores.specs.Semaphore.{Semaphore}
use Rattle.queue_model.specs.Map as map
use Rattle.plan_model.specs.Orders.{first_of}
use Rattle.upkeep_plans.specs.Left.{expired_left}
use Rattle.upkeep_plans.proofs.KeyWalks.{expired_ends, expired_takes, expired_skips, expired_falls, goes, stops}
use Rattle.upkeep_plans.proofs.walks.expired.next_expired.Goals as goal

within : (a m : ℕ) → a ≤ m → nat_le a m ≡ true
within a m le = grind (arith, le)

beyond : (a m : ℕ) → m < a → nat_le a m ≡ false
beyond a m lt = grind (arith, lt)

pub returns-then-branch-moment-clause-first : goal.returns-then-branch-moment-clause-first
returns-then-branch-moment-clause-first c =
    let w = c.args.tables.now.world in
    let past = option_copied c.loop-key.past in
    let key = c.in-Some.key.now in
    let sem : Semaphore = c.in_ok-semaphore.field-0 in
    let at : map.get w.semaphores key ≡ Some sem = search rules in
    let took = expired_takes w c.args.moment past (option_copied c.semaphore_after.result) c.semaphore_after.ensures key sem (ap option_copied c.in-Some.is) at (within sem.expires c.args.moment (omega (arith, ap (λ (s : Semaphore). s.expires) c.branch.view_is))) in
    (goes key (expired_left w c.args.moment past) (expired_left w c.args.moment (Some key)) took).0 ∙ ap first_of c.loop-key.invariant

pub returns-then-branch-moment-clause-left : goal.returns-then-branch-moment-clause-left
returns-then-branch-moment-clause-left c =
    let w = c.args.tables.now.world in
    let past = option_copied c.loop-key.past in
    let key = c.in-Some.key.now in
    let sem : Semaphore = c.in_ok-semaphore.field-0 in
    let at : map.get w.semaphores key ≡ Some sem = search rules in
    let took = expired_takes w c.args.moment past (option_copied c.semaphore_after.result) c.semaphore_after.ensures key sem (ap option_copied c.in-Some.is) at (within sem.expires c.args.moment (omega (arith, ap (λ (s : Semaphore). s.expires) c.branch.view_is))) in
    (goes key (expired_left w c.args.moment past) (expired_left w c.args.moment (Some key)) took).1 ∙ ap (drop 1) c.loop-key.invariant

pub loop-key-smaller : goal.loop-key-smaller
loop-key-smaller c =
    let w = c.args.tables.now.world in
    let sem : Semaphore = c.in_ok-semaphore.field-0 in
    let at : map.get w.semaphores c.in-Some.key.now ≡ Some sem = search rules in
    expired_falls w c.args.moment (option_copied c.loop-key.past) (option_copied c.semaphore_after.result) c.semaphore_after.ensures c.in-Some.key.now sem (ap option_copied c.in-Some.is) at

pub loop-key-preserved : goal.loop-key-preserved
loop-key-preserved c =
    let w = c.args.tables.now.world in
    let past = option_copied c.loop-key.past in
    let key = c.in-Some.key.now in
    let sem : Semaphore = c.in_ok-semaphore.field-0 in
    let at : map.get w.semaphores key ≡ Some sem = search rules in
    sym (expired_skips w c.args.moment past (option_copied c.semaphore_after.result) c.semaphore_after.ensures key sem (ap option_copied c.in-Some.is) at (beyond sem.expires c.args.moment (omega (arith, ap (λ (s : Semaphore). s.expires) c.branch.view_is)))) ∙ c.loop-key.invariant

pub returns-clause-first : goal.returns-clause-first
returns-clause-first c =
    let w = c.args.tables.now.world in
    let past = option_copied c.loop-key.past in
    let none : c.semaphore_after.result ≡ None = search rules in
    (stops (expired_left w c.args.moment past) (expired_ends w c.args.moment past (option_copied c.semaphore_after.result) c.semaphore_after.ensures (ap option_copied none))).0 ∙ ap first_of c.loop-key.invariant

pub returns-clause-left : goal.returns-clause-left
returns-clause-left c =
    let w = c.args.tables.now.world in
    let past = option_copied c.loop-key.past in
    let none : c.semaphore_after.result ≡ None = search rules in
    (stops (expired_left w c.args.moment past) (expired_ends w c.args.moment past (option_copied c.semaphore_after.result) c.semaphore_after.ensures (ap option_copied none))).1 ∙ ap (drop 1) c.loop-key.invariant
