use Rattle.std.proofs.Common.{◌≡◌, rules, map as mapped, ap, sym, ◌∙◌, refl, subst}
use Rattle.job_states.specs.declared.command.Command.TheVariants.{Unblock}
use Rattle.plan_model.specs.UpkeepCommands.{overdue, unblock_case}
use Rattle.upkeep_plans.specs.Standing.{StandLate}
use Rattle.upkeep_plans.specs.Taking.{Taking, begun, with_cases}
use Rattle.upkeep_plans.proofs.Doing.{counted}
use Rattle.upkeep_plans.proofs.LateCases.{late_begin}
use Rattle.upkeep_plans.proofs.unblock.unblock.Goals as goal

pub unblock_each-requires-clause-standing : goal.unblock_each-requires-clause-standing
unblock_each-requires-clause-standing c =
    subst (λ (v : Taking). StandLate v.scene (overdue v.scene.book.world v.scene.moment) v.drafting.draft) (sym c.begin-cases.ensures) (late_begin c.args.scene.now c.is_good.ensures.book.world)

pub finish-requires : goal.finish-requires
finish-requires c =
    let s = c.args.scene.now in
    let t : Taking = c.begin-cases.result in
    let u : Taking = c.unblock_each.new.cases in
    let begins : t ≡ begun s 500 = c.begin-cases.ensures in
    let raw : u ≡ with_cases t (mapped (unblock_case t.scene.moment) (overdue t.scene.book.world t.scene.moment)) = search rules in
    let takes = raw ∙ ap (λ (v : Taking). with_cases t (mapped (unblock_case v.scene.moment) (overdue v.scene.book.world v.scene.moment))) begins in
    (Unblock, counted s Unblock 500 (mapped (unblock_case s.moment) (overdue s.book.world s.moment)) t u c.into_parts-draft.result.0 c.into_parts-draft.result.1 tt refl refl begins takes c.into_parts-draft.ensures.draft c.into_parts-draft.ensures.taken)

pub returns : goal.returns
returns c =
    let s = c.args.scene.now in
    let t : Taking = c.begin-cases.result in
    let u : Taking = c.unblock_each.new.cases in
    let begins : t ≡ begun s 500 = c.begin-cases.ensures in
    let raw : u ≡ with_cases t (mapped (unblock_case t.scene.moment) (overdue t.scene.book.world t.scene.moment)) = search rules in
    let takes = raw ∙ ap (λ (v : Taking). with_cases t (mapped (unblock_case v.scene.moment) (overdue v.scene.book.world v.scene.moment))) begins in
    c.finish.ensures Unblock (counted s Unblock 500 (mapped (unblock_case s.moment) (overdue s.book.world s.moment)) t u c.into_parts-draft.result.0 c.into_parts-draft.result.1 tt refl refl begins takes c.into_parts-draft.ensures.draft c.into_parts-draft.ensures.taken)
