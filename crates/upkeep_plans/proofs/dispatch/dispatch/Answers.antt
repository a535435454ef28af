use Rattle.std.proofs.Common.{◌≡◌, List, rules, map as mapped, ap, sym, ◌∙◌, refl, subst}
use Rattle.job_states.specs.declared.command.Command.TheVariants.{Dispatch}
use Rattle.queue_config.specs.declared.config.Config.{Config}
use Rattle.queue_model.specs.declared.Job.{Job}
use Rattle.plan_model.specs.UpkeepCommands.{dispatch_case, due_jobs}
use Rattle.upkeep_plans.specs.Standing.{StandJobs, is_due_at, itself}
use Rattle.upkeep_plans.specs.Taking.{Taking, begun, with_cases}
use Rattle.upkeep_plans.proofs.Doing.{counted}
use Rattle.upkeep_plans.proofs.StandingJobs.{due_begin}
use Rattle.upkeep_plans.proofs.dispatch.dispatch.Goals as goal

pub dispatch_each-requires-clause-standing : goal.dispatch_each-requires-clause-standing
dispatch_each-requires-clause-standing c =
    let s = c.args.scene.now in
    let t : Taking = c.begin-cases.result in
    let begins : t ≡ begun s s.settings.dispatcher.batch_size = c.begin-cases.ensures ∙ ap (λ (k : Config). begun s k.dispatcher.batch_size) c.config.ensures in
    let are : c.new-jobs.result ≡ due_jobs s.book.world s.moment = c.new-jobs.ensures ∙ (λ i. due_jobs ((c.tables.ensures.same ∙ ap (λ b. b.world) c.book.ensures) i) (c.moment.ensures i)) in
    subst (λ (v : Taking). StandJobs itself (is_due_at v.scene.moment) v.scene c.new-jobs.result v.drafting.draft) (sym begins)
    (subst (λ (xs : List Job). StandJobs itself (is_due_at s.moment) s xs (begun s s.settings.dispatcher.batch_size).drafting.draft) (sym are) (due_begin s c.is_good.ensures.book.world))

pub finish-requires : goal.finish-requires
finish-requires c =
    let s = c.args.scene.now in
    let t : Taking = c.begin-cases.result in
    let begins : t ≡ begun s s.settings.dispatcher.batch_size = c.begin-cases.ensures ∙ ap (λ (k : Config). begun s k.dispatcher.batch_size) c.config.ensures in
    let are : c.new-jobs.result ≡ due_jobs s.book.world s.moment = c.new-jobs.ensures ∙ (λ i. due_jobs ((c.tables.ensures.same ∙ ap (λ b. b.world) c.book.ensures) i) (c.moment.ensures i)) in
    let u : Taking = c.dispatch_each.new.cases in
    let raw : u ≡ with_cases t (mapped (dispatch_case t.scene.moment) c.new-jobs.result) = search rules in
    let takes : u ≡ with_cases t (mapped (dispatch_case s.moment) (due_jobs s.book.world s.moment)) =
    raw ∙ ap (λ (v : Taking). with_cases t (mapped (dispatch_case v.scene.moment) c.new-jobs.result)) begins ∙ ap (λ (xs : List Job). with_cases t (mapped (dispatch_case s.moment) xs)) are in
    (Dispatch, counted s Dispatch s.settings.dispatcher.batch_size (mapped (dispatch_case s.moment) (due_jobs s.book.world s.moment)) t u c.into_parts-draft.result.0 c.into_parts-draft.result.1 tt refl refl begins takes c.into_parts-draft.ensures.draft c.into_parts-draft.ensures.taken)

pub returns : goal.returns
returns c =
    let s = c.args.scene.now in
    let t : Taking = c.begin-cases.result in
    let begins : t ≡ begun s s.settings.dispatcher.batch_size = c.begin-cases.ensures ∙ ap (λ (k : Config). begun s k.dispatcher.batch_size) c.config.ensures in
    let are : c.new-jobs.result ≡ due_jobs s.book.world s.moment = c.new-jobs.ensures ∙ (λ i. due_jobs ((c.tables.ensures.same ∙ ap (λ b. b.world) c.book.ensures) i) (c.moment.ensures i)) in
    let u : Taking = c.dispatch_each.new.cases in
    let raw : u ≡ with_cases t (mapped (dispatch_case t.scene.moment) c.new-jobs.result) = search rules in
    let takes : u ≡ with_cases t (mapped (dispatch_case s.moment) (due_jobs s.book.world s.moment)) =
    raw ∙ ap (λ (v : Taking). with_cases t (mapped (dispatch_case v.scene.moment) c.new-jobs.result)) begins ∙ ap (λ (xs : List Job). with_cases t (mapped (dispatch_case s.moment) xs)) are in
    c.finish.ensures Dispatch (counted s Dispatch s.settings.dispatcher.batch_size (mapped (dispatch_case s.moment) (due_jobs s.book.world s.moment)) t u c.into_parts-draft.result.0 c.into_parts-draft.result.1 tt refl refl begins takes c.into_parts-draft.ensures.draft c.into_parts-draft.ensures.taken)
