use Rattle.std.proofs.Common.{◌≡◌, IsSome, ap, sym, ◌∙◌, subst}
use Rattle.std.specs.List.{All}
use Rattle.std.specs.Option.{option_map}
use Rattle.queue_model.specs.GoodWorld.{IsGood}
use Rattle.queue_model.specs.Map as map
use Rattle.queue_model.specs.declared.Job.{Job}
use Rattle.plan_model.specs.Orders as order
use Rattle.plan_drafts.specs.Ends.{IsEnding, first_waiting}
use Rattle.plan_drafts.specs.Left.{world_after}
use Rattle.plan_drafts.proofs.Ending.{rested, settled, stays, still_waiting, waiting, were_there}
use Rattle.plan_drafts.proofs.draft.Draft.first_blocked.Goals as goal

pub first_waiting-requires : goal.first_waiting-requires
first_waiting-requires c =
    let w = c.self.inside.tables.now.world in
    let there : All (λ j. IsSome (map.get c.args.self.now.begun.world.jobs j.row.id)) (waiting w c.args.key.now) =
    subst (λ b. All (λ j. IsSome (map.get b.jobs j.row.id)) (waiting w c.args.key.now)) (ap (λ v. v.begun.world) c.self.view_is) (were_there w c.self.invariant.good c.args.key.now) in
    subst (λ jobs. All (λ j. IsSome (map.get c.args.self.now.begun.world.jobs j.row.id)) jobs) (sym c.new.ensures) there

pub returns-clause-first : goal.returns-clause-first
returns-clause-first c =
    let w = c.self.inside.tables.now.world in
    let m = c.self.inside.moment in
    let pushed = c.self.inside.pushed.items in
    let key = c.args.key.now in
    let v = world_after w m pushed in
    let now : v ≡ c.args.self.now.draft.world = ap (λ d. d.draft.world) c.self.view_is in
    let ends = subst (λ steps. All IsEnding steps) (sym (ap (λ d. d.draft.steps) c.self.view_is)) c.requires.ends in
    let first : order.first_blocked v key ≡ first_waiting v (waiting w key) =
    c.ends_let_go.ensures.first w v key (settled v pushed) c.self.invariant.good (subst IsGood (sym now) c.requires.good) (stays w m pushed ends) (rested v pushed key)
    ∙ still_waiting w c.self.invariant.good key m pushed ends in
    c.first_waiting.ensures.first
    ∙ ap (λ jobs. option_map (λ j. j.row.id) (first_waiting c.args.self.now.draft.world jobs)) c.new.ensures
    ∙ ap (option_map (λ (j : Job). j.row.id)) (sym (subst (λ x. order.first_blocked x key ≡ first_waiting x (waiting w key)) now first))
