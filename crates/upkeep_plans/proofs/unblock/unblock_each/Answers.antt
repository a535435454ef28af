use Rattle.std.proofs.Common.{◌≡◌, filter, map as mapped, None, Some, rules, ap, sym, ◌∙◌, refl, subst}
use Rattle.std.specs.Option.{option_copied}
use Rattle.queue_model.specs.GoodWorld.{IsGood}
use Rattle.queue_model.specs.Map as map
use Rattle.queue_model.specs.World.{World, text_cmp}
use Rattle.exec_tables.specs.Next.{IsNext, Listed, by_blocked_key}
use Rattle.plan_model.specs.Books.{Book}
use Rattle.plan_model.specs.Orders.{in_order, is_blocked_at}
use Rattle.plan_model.specs.Scenes.{Scene}
use Rattle.plan_model.specs.UpkeepCommands.{overdue, unblock_case}
use Rattle.upkeep_plans.specs.Left.{late_from, late_left}
use Rattle.upkeep_plans.specs.SoFar.{IsSoFar}
use Rattle.upkeep_plans.specs.Standing.{StandLate}
use Rattle.upkeep_plans.specs.Taking.{Taking, with_cases}
use Rattle.upkeep_plans.proofs.LateCases.{joined}
use Rattle.upkeep_plans.proofs.LateWalk.{keys_fall, late_at_begin, late_ends, late_step}
use Rattle.upkeep_plans.proofs.TakenCases.{ends, stays_full}
use Rattle.upkeep_plans.proofs.unblock.unblock_each.Goals as goal

pub loop-key-init : goal.loop-key-init
loop-key-init c =
    let s = c.args.cases.now.scene in
    let good : IsGood s.book.world = subst (λ (x : Scene). IsGood x.book.world) c.scene-scene.ensures c.is_good.ensures.book.world in
    let all = late_at_begin s.book.world s.moment good in
    record {
      scene = refl;
      same = ap (λ xs. with_cases c.args.cases.now (mapped (unblock_case s.moment) xs)) all;
      taking = c.requires.taking;
      standing = subst (λ xs. StandLate s xs c.args.cases.now.drafting.draft) (sym all) c.requires.standing;
    }

pub returns-then-is_full : goal.returns-then-is_full
returns-then-is_full c =
    let s = c.args.cases.now.scene in
    stays_full unblock_case StandLate c.args.cases.now (overdue s.book.world s.moment) c.loop-key.cases (late_left s.book.world s.moment (option_copied c.loop-key.past)) c.loop-key.invariant (sym c.if-is_full.true ∙ c.is_full.ensures)

pub unblock_at-requires-clause-standing : goal.unblock_at-requires-clause-standing
unblock_at-requires-clause-standing c =
    let s = c.args.cases.now.scene in
    let m = s.moment in
    let t : Taking = c.loop-key.cases in
    let past = option_copied c.loop-key.past in
    let h = c.loop-key.invariant in
    let key = c.in-Some.key.now in
    let world : c.tables-tables.result.now.world ≡ s.book.world = c.tables-tables.ensures.same ∙ ap (λ (b : Book). b.world) c.book.ensures ∙ ap (λ (x : Scene). x.book.world) c.scene-scene.ensures in
    let good : IsGood s.book.world = subst (λ (x : Scene). IsGood x.book.world) c.scene-scene.ensures c.is_good.ensures.book.world in
    let next = subst (λ (w : World). IsNext text_cmp (Listed by_blocked_key w.jobs) past (option_copied c.blocked_key_after.result)) world c.blocked_key_after.ensures in
    let waiting : c.new.result ≡ in_order (filter (is_blocked_at key) (map.values s.book.world.jobs)) = c.new.ensures ∙ ap (λ (w : World). in_order (filter (is_blocked_at key) (map.values w.jobs))) world in
    let found = ap option_copied c.in-Some.is in
    let these : late_left s.book.world m past ≡ late_from t.scene key c.new.result =
    late_step s.book.world m good past (option_copied c.blocked_key_after.result) next key found ∙ (λ i. late_from (sym h.scene i) key (sym waiting i)) in
    subst (λ xs. StandLate t.scene xs t.drafting.draft) these h.standing

pub loop-key-smaller : goal.loop-key-smaller
loop-key-smaller c =
    let good : IsGood c.tables-tables.result.now.world = subst IsGood (sym c.tables-tables.ensures.same) c.tables-tables.ensures.good.world in
    keys_fall c.tables-tables.result.now.world c.args.cases.now.scene.moment good (option_copied c.loop-key.past) (option_copied c.blocked_key_after.result) c.blocked_key_after.ensures c.in-Some.key.now (ap option_copied c.in-Some.is)

pub loop-key-preserved : goal.loop-key-preserved
loop-key-preserved c =
    let s = c.args.cases.now.scene in
    let m = s.moment in
    let t : Taking = c.loop-key.cases in
    let past = option_copied c.loop-key.past in
    let h = c.loop-key.invariant in
    let key = c.in-Some.key.now in
    let world : c.tables-tables.result.now.world ≡ s.book.world = c.tables-tables.ensures.same ∙ ap (λ (b : Book). b.world) c.book.ensures ∙ ap (λ (x : Scene). x.book.world) c.scene-scene.ensures in
    let good : IsGood s.book.world = subst (λ (x : Scene). IsGood x.book.world) c.scene-scene.ensures c.is_good.ensures.book.world in
    let next = subst (λ (w : World). IsNext text_cmp (Listed by_blocked_key w.jobs) past (option_copied c.blocked_key_after.result)) world c.blocked_key_after.ensures in
    let waiting : c.new.result ≡ in_order (filter (is_blocked_at key) (map.values s.book.world.jobs)) = c.new.ensures ∙ ap (λ (w : World). in_order (filter (is_blocked_at key) (map.values w.jobs))) world in
    let found = ap option_copied c.in-Some.is in
    let these : late_left s.book.world m past ≡ late_from t.scene key c.new.result =
    late_step s.book.world m good past (option_copied c.blocked_key_after.result) next key found ∙ (λ i. late_from (sym h.scene i) key (sym waiting i)) in
    let u : Taking = c.unblock_at.new.cases in
    let more = subst (λ (x : Scene). IsSoFar unblock_case StandLate t (late_from t.scene key c.new.result) u (late_left x.book.world x.moment (Some key))) h.scene c.in_ok-unblock_at.ensures in
    joined c.args.cases.now (overdue s.book.world m) t u (late_left s.book.world m past) (late_from t.scene key c.new.result) (late_left s.book.world m (Some key)) h these more

pub returns : goal.returns
returns c =
    let s = c.args.cases.now.scene in
    let past = option_copied c.loop-key.past in
    let none : c.blocked_key_after.result ≡ None = search rules in
    let world : c.tables-tables.result.now.world ≡ s.book.world = c.tables-tables.ensures.same ∙ ap (λ (b : Book). b.world) c.book.ensures ∙ ap (λ (x : Scene). x.book.world) c.scene-scene.ensures in
    let good : IsGood s.book.world = subst (λ (x : Scene). IsGood x.book.world) c.scene-scene.ensures c.is_good.ensures.book.world in
    let next = subst (λ (w : World). IsNext text_cmp (Listed by_blocked_key w.jobs) past (option_copied c.blocked_key_after.result)) world c.blocked_key_after.ensures in
    ends unblock_case StandLate c.args.cases.now (overdue s.book.world s.moment) c.loop-key.cases (late_left s.book.world s.moment past) c.loop-key.invariant
    (late_ends s.book.world s.moment good past (option_copied c.blocked_key_after.result) next (ap option_copied none))
