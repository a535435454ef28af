use Rattle.std.proofs.Common.{◌≡◌, List, rules, filter, map as mapped, ap, sym, ◌∙◌, refl, subst}
use Rattle.job_states.specs.declared.command.Command.TheVariants.{ClearFinished}
use Rattle.queue_model.specs.Map as map
use Rattle.queue_model.specs.declared.Job.{Job}
use Rattle.plan_model.specs.UpkeepCommands.{clear_case, is_over}
use Rattle.upkeep_plans.specs.Standing.{StandJobs, itself}
use Rattle.upkeep_plans.specs.Taking.{Taking, begun, with_cases}
use Rattle.upkeep_plans.proofs.Doing.{counted}
use Rattle.upkeep_plans.proofs.StandingJobs.{filtered_begin}
use Rattle.upkeep_plans.proofs.clear.clear_finished.Goals as goal

pub clear_each-requires-clause-standing : goal.clear_each-requires-clause-standing
clear_each-requires-clause-standing c =
    let s = c.args.scene.now in
    let t : Taking = c.begin-cases.result in
    let begins : t ≡ begun s 500 = c.begin-cases.ensures in
    let are : c.new.result ≡ filter (is_over s) (map.values s.book.world.jobs) = c.new.ensures in
    subst (λ (v : Taking). StandJobs itself (is_over v.scene) v.scene c.new.result v.drafting.draft) (sym begins)
    (subst (λ (xs : List Job). StandJobs itself (is_over s) s xs (begun s 500).drafting.draft) (sym are) (filtered_begin s c.is_good.ensures.book.world (is_over s)))

pub finish-requires : goal.finish-requires
finish-requires c =
    let s = c.args.scene.now in
    let t : Taking = c.begin-cases.result in
    let begins : t ≡ begun s 500 = c.begin-cases.ensures in
    let are : c.new.result ≡ filter (is_over s) (map.values s.book.world.jobs) = c.new.ensures in
    let u : Taking = c.clear_each.new.cases in
    let raw : u ≡ with_cases t (mapped (clear_case t.scene.moment) c.new.result) = search rules in
    let takes : u ≡ with_cases t (mapped (clear_case s.moment) (filter (is_over s) (map.values s.book.world.jobs))) =
    raw ∙ ap (λ (v : Taking). with_cases t (mapped (clear_case v.scene.moment) c.new.result)) begins ∙ ap (λ (xs : List Job). with_cases t (mapped (clear_case s.moment) xs)) are in
    (ClearFinished, counted s ClearFinished 500 (mapped (clear_case s.moment) (filter (is_over s) (map.values s.book.world.jobs))) t u c.into_parts-draft.result.0 c.into_parts-draft.result.1 tt refl refl begins takes c.into_parts-draft.ensures.draft c.into_parts-draft.ensures.taken)

pub returns : goal.returns
returns c =
    let s = c.args.scene.now in
    let t : Taking = c.begin-cases.result in
    let begins : t ≡ begun s 500 = c.begin-cases.ensures in
    let are : c.new.result ≡ filter (is_over s) (map.values s.book.world.jobs) = c.new.ensures in
    let u : Taking = c.clear_each.new.cases in
    let raw : u ≡ with_cases t (mapped (clear_case t.scene.moment) c.new.result) = search rules in
    let takes : u ≡ with_cases t (mapped (clear_case s.moment) (filter (is_over s) (map.values s.book.world.jobs))) =
    raw ∙ ap (λ (v : Taking). with_cases t (mapped (clear_case v.scene.moment) c.new.result)) begins ∙ ap (λ (xs : List Job). with_cases t (mapped (clear_case s.moment) xs)) are in
    c.finish.ensures ClearFinished (counted s ClearFinished 500 (mapped (clear_case s.moment) (filter (is_over s) (map.values s.book.world.jobs))) t u c.into_parts-draft.result.0 c.into_parts-draft.result.1 tt refl refl begins takes c.into_parts-draft.ensures.draft c.into_parts-draft.ensures.taken)
