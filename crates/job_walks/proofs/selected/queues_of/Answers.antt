use Rattle.std.proofs.Common.{◌≡◌, ℕ, List, [], ◌∷◌, Some, All, map, ap, sym, ◌∙◌, subst, rules}
use Rattle.std.proofs.lemmas.Result.{IfOk-weaker}
use Rattle.std.specs.List.{slice_get}
use Rattle.queue_selector.specs.Groups.{groups_of, selected, unpaused_names}
use Rattle.job_walks.specs.Places.{IsOneOf}
use Rattle.job_walks.proofs.Places.{are_ones, by_name, same_names}
use Rattle.job_walks.proofs.SortedNames.{ready_are, paused_are}
use Rattle.job_walks.proofs.selected.queues_of.Goals as goal

pub names_at-requires : goal.names_at-requires
names_at-requires c =
    let names = c.in_ok-ready.ready.items in
    let paused = c.in_ok-paused.paused.items in
    let groups = c.in_ok-groups.groups.items in
    let chosen = selected c.args.list.now (unpaused_names names paused) in
    let places : map (λ g. map (slice_get names) g.items) groups ≡ map (map Some) (groups_of c.args.list.now names paused) = search rules in
    let ones : All (λ g. IsOneOf names g.items) groups = are_ones (λ g. g.items) names groups chosen (places ∙ ap (map (map Some)) (by_name c.args.list.now names paused c.requires)) in
    subst (λ gs. All (λ g. IsOneOf c.deref-3.result.now g.items) gs) (sym c.deref-4.ensures.value) (subst (λ ns. All (λ g. IsOneOf ns g.items) groups) (sym c.deref-3.ensures.value) ones)

pub returns : goal.returns
returns c =
    let names = c.in_ok-ready.ready.items in
    let paused = c.in_ok-paused.paused.items in
    let groups = c.in_ok-groups.groups.items in
    let chosen = selected c.args.list.now (unpaused_names names paused) in
    let places : map (λ g. map (slice_get names) g.items) groups ≡ map (map Some) (groups_of c.args.list.now names paused) = search rules in
    let ready = ready_are c.args.tables.now.world names (search rules) in
    let held = paused_are c.args.tables.now.world paused (search rules) in
    IfOk-weaker c.names_at.result _ _ (λ found e.
    let was : map (λ name. Some name ∷ []) found.items ≡ map (λ g. map (slice_get names) g.items) groups = e ∙ (λ i. map (λ g. map (slice_get (c.deref-3.ensures.value i)) g.items) (c.deref-4.ensures.value i)) in
    same_names found.items chosen (was ∙ places ∙ ap (map (map Some)) (by_name c.args.list.now names paused c.requires))
    ∙ sym (by_name c.args.list.now names paused c.requires) ∙ (λ i. groups_of c.args.list.now (ready i) (held i))) c.names_at.ensures
