use Rattle.std.proofs.Common.{◌≡◌, None, length, rules, ap, sym, ◌∙◌, subst}
use Rattle.job_states.specs.declared.command.Command.TheVariants as command
use Rattle.job_states.specs.declared.transition.Transition.TheVariants.{Deregister}
use Rattle.queue_model.specs.World.{World}
use Rattle.plan_drafts.specs.Drafting.{Drafting, with_draft}
use Rattle.plan_model.specs.Drafts.{push}
use Rattle.plan_model.specs.Refusals.{no_such_process}
use Rattle.plan_model.specs.UpkeepCommands.{claimed_by, release_all}
use Rattle.upkeep_plans.specs.Standing.{HasClaims}
use Rattle.upkeep_plans.proofs.Doing.{deregistered}
use Rattle.upkeep_plans.proofs.Refusing.{not_met, registered_there}
use Rattle.upkeep_plans.proofs.StandingJobs.{claims_begin}
use Rattle.upkeep_plans.proofs.processes.deregister.Goals as goal

pub leave-requires : goal.leave-requires
leave-requires c =
    let s = c.args.scene.now in
    let there : no_such_process s c.args.pid ≡ None = not_met (no_such_process s c.args.pid) tt (search rules) in
    let are : c.new-claims.result ≡ claimed_by s.book.world c.args.pid = c.new-claims.ensures ∙ ap (λ (w : World). claimed_by w c.args.pid) (c.tables.ensures.same ∙ ap (λ b. b.world) c.book.ensures) in
    subst (λ xs. HasClaims c.args.pid xs c.begin-draft.result) (sym are) (subst (HasClaims c.args.pid (claimed_by s.book.world c.args.pid)) (sym c.begin-draft.ensures) (claims_begin s c.is_good.ensures.book.world c.args.pid (registered_there s c.args.pid there)))

pub finish-requires : goal.finish-requires
finish-requires c =
    let s = c.args.scene.now in
    let d : Drafting = c.begin-draft.result in
    let there : no_such_process s c.args.pid ≡ None = not_met (no_such_process s c.args.pid) tt (search rules) in
    let are : c.new-claims.result ≡ claimed_by s.book.world c.args.pid = c.new-claims.ensures ∙ ap (λ (w : World). claimed_by w c.args.pid) (c.tables.ensures.same ∙ ap (λ b. b.world) c.book.ensures) in
    let at : c.leave.new.draft ≡ with_draft d (push d.moment (Deregister c.args.pid) (release_all d.moment c.new-claims.result d.draft)) = search rules in
    let counts : c.in_ok-released.released ≡ length c.new-claims.result = search rules in
    (command.Deregister c.args.pid, deregistered s d c.leave.new.draft c.begin-draft.ensures c.args.pid c.in_ok-released.released c.new-claims.result there are at counts)

pub returns : goal.returns
returns c =
    let s = c.args.scene.now in
    let d : Drafting = c.begin-draft.result in
    let there : no_such_process s c.args.pid ≡ None = not_met (no_such_process s c.args.pid) tt (search rules) in
    let are : c.new-claims.result ≡ claimed_by s.book.world c.args.pid = c.new-claims.ensures ∙ ap (λ (w : World). claimed_by w c.args.pid) (c.tables.ensures.same ∙ ap (λ b. b.world) c.book.ensures) in
    let at : c.leave.new.draft ≡ with_draft d (push d.moment (Deregister c.args.pid) (release_all d.moment c.new-claims.result d.draft)) = search rules in
    let counts : c.in_ok-released.released ≡ length c.new-claims.result = search rules in
    c.finish.ensures (command.Deregister c.args.pid) (deregistered s d c.leave.new.draft c.begin-draft.ensures c.args.pid c.in_ok-released.released c.new-claims.result there are at counts)
