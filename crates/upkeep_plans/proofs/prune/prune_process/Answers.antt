use Rattle.std.proofs.Common.{◌≡◌, length, arith, true, is_some, ap, sym, ◌∙◌, subst}
use Rattle.std.specs.List.{All}
use Rattle.job_states.specs.Ranges.{is_message}
use Rattle.job_states.specs.Moment.{IsMoment}
use Rattle.job_states.specs.declared.row.Mode.TheVariants.{Alone}
use Rattle.job_states.specs.declared.row.Row.TheVariants as row
use Rattle.job_states.specs.declared.transition.Transition.TheVariants.{Deregister}
use Rattle.queue_model.specs.GoodWorld.{IsGood}
use Rattle.queue_model.specs.World.{World}
use Rattle.queue_model.specs.declared.Process.{Process}
use Rattle.plan_drafts.specs.Drafting.{Drafting, with_draft}
use Rattle.plan_drafts.specs.Ends.{IsEnding}
use Rattle.plan_model.specs.Drafts.{holding, push}
use Rattle.plan_model.specs.UpkeepCommands.{claimed_by, fail_all, pruned_message}
use Rattle.plan_scenes.specs.Begun.{begun}
use Rattle.upkeep_plans.specs.Standing.{HasClaims}
use Rattle.upkeep_plans.proofs.Pruning.{message_fits}
use Rattle.upkeep_plans.proofs.StandingJobs.{claims_begin, may_leave}
use Rattle.upkeep_plans.proofs.prune.prune_process.Goals as goal

pub fail_each-requires-clause-claims : goal.fail_each-requires-clause-claims
fail_each-requires-clause-claims c =
    let s = c.args.scene.now in
    let pid = c.args.pid in
    let p : Process = c.args.process.now in
    let are : c.new-claims.result ≡ claimed_by s.book.world pid = c.new-claims.ensures ∙ ap (λ (w : World). claimed_by w pid) (c.tables.ensures.same ∙ ap (λ b. b.world) c.book.ensures) in
    subst (λ xs. HasClaims pid xs c.begin-draft.result) (sym are) (subst (HasClaims pid (claimed_by s.book.world pid)) (sym c.begin-draft.ensures) (claims_begin s c.is_good.ensures.book.world pid (ap is_some c.requires)))

pub fail_each-requires-clause-moment : goal.fail_each-requires-clause-moment
fail_each-requires-clause-moment c = subst (λ (x : Drafting). IsMoment x.moment) (sym c.begin-draft.ensures) c.is_good.ensures.moment

pub fail_each-requires-clause-message : goal.fail_each-requires-clause-message
fail_each-requires-clause-message c =
    let s = c.args.scene.now in
    let pid = c.args.pid in
    let p : Process = c.args.process.now in
    let is : c.in_ok-message.message ≡ pruned_message p = c.in_ok-message.ensures in
    subst (λ m. is_message m ≡ true) (sym is) (message_fits p (c.is_good.ensures.book.world.processes pid p c.requires).beat)

pub fail_each-requires-clause-good : goal.fail_each-requires-clause-good
fail_each-requires-clause-good c = subst (λ (x : Drafting). IsGood x.draft.world) (sym c.begin-draft.ensures) c.is_good.ensures.book.world

pub fail_each-requires-clause-ends : goal.fail_each-requires-clause-ends
fail_each-requires-clause-ends c = subst (λ (x : Drafting). All IsEnding x.draft.steps) (sym c.begin-draft.ensures) (λ k d within. absurd (omega (arith, within)))

pub push-requires-clause-allowed : goal.push-requires-clause-allowed
push-requires-clause-allowed c = may_leave c.args.pid c.fail_each.new.draft c.in_ok-failed.ensures.gone

pub returns-clause-draft : goal.returns-clause-draft
returns-clause-draft c =
    let s = c.args.scene.now in
    let pid = c.args.pid in
    let p : Process = c.args.process.now in
    let message : c.in_ok-message.message ≡ pruned_message p = c.in_ok-message.ensures in
    let are : c.new-claims.result ≡ claimed_by s.book.world pid = c.new-claims.ensures ∙ ap (λ (w : World). claimed_by w pid) (c.tables.ensures.same ∙ ap (λ b. b.world) c.book.ensures) in
    let fails : c.fail_each.new.draft ≡ with_draft c.begin-draft.result (fail_all c.begin-draft.result.moment c.in_ok-message.message c.new-claims.result c.begin-draft.result.draft) = c.in_ok-failed.ensures.draft in
    let failed : c.fail_each.new.draft ≡ with_draft (begun s) (fail_all s.moment (pruned_message p) (claimed_by s.book.world pid) (begun s).draft) =
    fails ∙ (λ i. with_draft (c.begin-draft.ensures i) (fail_all (c.begin-draft.ensures i).moment (message i) (are i) (c.begin-draft.ensures i).draft)) in
    let leaves : c.push.new.self ≡ with_draft c.fail_each.new.draft (push c.fail_each.new.draft.moment (Deregister pid) c.fail_each.new.draft.draft) = c.in_ok-push.ensures in
    let holds : c.hold.new.self ≡ with_draft c.push.new.self (holding (row.Process pid) Alone c.push.new.self.draft) = c.in_ok-hold.ensures in
    holds ∙ ap (λ (x : Drafting). with_draft x (holding (row.Process pid) Alone x.draft)) (leaves ∙ ap (λ (x : Drafting). with_draft x (push x.moment (Deregister pid) x.draft)) failed)

pub returns-clause-failed : goal.returns-clause-failed
returns-clause-failed c =
    let s = c.args.scene.now in
    let pid = c.args.pid in
    let p : Process = c.args.process.now in
    let are : c.new-claims.result ≡ claimed_by s.book.world pid = c.new-claims.ensures ∙ ap (λ (w : World). claimed_by w pid) (c.tables.ensures.same ∙ ap (λ b. b.world) c.book.ensures) in
    let counts : c.in_ok-failed.failed ≡ length c.new-claims.result = c.in_ok-failed.ensures.failed in
    counts ∙ ap length are
